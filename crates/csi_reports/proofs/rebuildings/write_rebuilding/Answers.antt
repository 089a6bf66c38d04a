-- Member by member.
use Rattle.std.proofs.Common.{ℕ, List, refl, codes, ◌∷◌, []}
use Rattle.std.proofs.lemmas.Result.{on_ok_weaker}
use Rattle.std.specs.Borrow.{Bor}
use Rattle.json.specs.Token.{begin_object}
use Rattle.serde_json.specs.Data.{string}
use Rattle.csi_reports.proofs.SeenInPlace.{of-seen}
use Rattle.csi_reports.proofs.WrittenSteps.{next, of_number}
use Rattle.csi_reports.proofs.rebuildings.write_rebuilding.Goals as goal

pub returns : goal.returns
returns c =
    on_ok_weaker c.end_object.result
    (λ last. next _ _ _ _ (begin_object ∷ []) _ c.in_ok-begin_object.ensures refl
    (next _ _ _ _ (of_number (codes "attached") c.args.attached) _ c.in_ok-put_number.ensures refl
    (next _ _ _ _ _ _ c.in_ok-put_array.ensures (of-seen (codes "creating") string (λ (name : Bor (List ℕ)). name.now) c.args.creating.now)
    (next _ _ _ _ (of_number (codes "next") c.args.next_id) _ c.in_ok-put_number-2.ensures refl
    (next _ _ _ _ (of_number (codes "session") c.args.session) _ c.in_ok-put_number-3.ensures refl
    (next _ _ _ _ (of_number (codes "volumes") c.args.volumes) _ c.in_ok-put_number-4.ensures refl last))))))
    c.end_object.ensures
