-- Member by member.
use Rattle.std.proofs.Common.{ap, refl, codes, ◌∷◌, []}
use Rattle.std.proofs.lemmas.Result.{on_ok_weaker}
use Rattle.json.specs.Token.{begin_object}
use Rattle.csi_reports.proofs.WrittenSteps.{next, of_number, of_text, of_flag}
use Rattle.csi_reports.proofs.entries.HoldingEntry.write.Goals as goal

pub returns : goal.returns
returns c =
    on_ok_weaker c.end_object.result
    (λ last. next _ _ _ _ (begin_object ∷ []) _ c.in_ok-begin_object.ensures refl
    (next _ _ _ _ _ _ c.in_ok-put_number.ensures (ap (of_number (codes "id")) c.number.ensures.value)
    (next _ _ _ _ _ _ c.in_ok-put_number-2.ensures (ap (of_number (codes "mode")) c.number-2.ensures)
    (next _ _ _ _ _ _ c.in_ok-put_text.ensures (ap (of_text (codes "node")) c.as_str.ensures.value)
    (next _ _ _ _ (of_flag (codes "readonly") c.args.self.now.readonly) _ c.in_ok-put_flag.ensures refl last)))))
    c.end_object.ensures
