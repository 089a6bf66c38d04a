-- Member by member.
use Rattle.std.proofs.Common.{ℕ, List, refl, codes, ◌∷◌, []}
use Rattle.std.proofs.lemmas.Result.{on_ok_weaker}
use Rattle.std.specs.Borrow.{Bor}
use Rattle.json.specs.Token.{begin_object}
use Rattle.serde_json.specs.Data.{string}
use Rattle.csi_reports.proofs.SeenInPlace.{of-seen}
use Rattle.csi_reports.proofs.WrittenSteps.{next, of_number, of_entries}
use Rattle.csi_reports.proofs.recoveries.write_recovery.Goals as goal

pub returns : goal.returns
returns c =
    on_ok_weaker c.end_object.result
    (λ last. next _ _ _ _ (begin_object ∷ []) _ c.in_ok-begin_object.ensures refl
    (next _ _ _ _ (of_entries (codes "lost") string c.args.lost.now) _ c.in_ok-put_array.ensures refl
    (next _ _ _ _ (of_number (codes "session") c.args.session) _ c.in_ok-put_number.ensures refl
    (next _ _ _ _ (of_number (codes "volumes") c.args.volumes) _ c.in_ok-put_number-2.ensures refl
    (next _ _ _ _ _ _ c.in_ok-put_array-2.ensures (of-seen (codes "wanted") string (λ (name : Bor (List ℕ)). name.now) c.args.wanted.now) last)))))
    c.end_object.ensures
