-- Member by member.
use Rattle.std.proofs.Common.{refl, codes, ◌∷◌, []}
use Rattle.std.proofs.lemmas.Result.{on_ok_weaker}
use Rattle.json.specs.Token.{begin_object}
use Rattle.csi_reports.proofs.WrittenSteps.{next, of_number}
use Rattle.csi_reports.proofs.records.write_number.Goals as goal

pub returns : goal.returns
returns c =
    on_ok_weaker c.end_object.result
    (λ last. next _ _ _ _ (begin_object ∷ []) _ c.in_ok-begin_object.ensures refl
    (next _ _ _ _ (of_number (codes "call") c.args.last.call) _ c.in_ok-put_number.ensures refl
    (next _ _ _ _ (of_number (codes "session") c.args.last.session) _ c.in_ok-put_number-2.ensures refl last)))
    c.end_object.ensures
