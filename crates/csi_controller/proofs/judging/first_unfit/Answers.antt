-- The first that either rule refuses.
use Rattle.csi_controller.specs.Public.Core.{IsCurrent, AreSoundRows}
use Rattle.csi_controller.proofs.FirstRefused.{sound-take}
use Rattle.csi_controller.proofs.FirstUnfit.{current-take, first-of_both}
use Rattle.std.proofs.Common.{subst, sym}
use Rattle.std.specs.Prelude.{Option, MatchOption, ℕ}
use Rattle.csi_controller.specs.Public.Judging.{AreRecorded, IsFirstRefused}
use Rattle.csi_controller.proofs.judging.first_unfit.Goals as goal

pub returns : goal.returns
returns c =
    let n = c.args.next_id in
    let session = c.args.session in
    let rows = c.args.rows.now in
    subst (λ (found : Option ℕ). MatchOption found (AreRecorded n session rows) (IsFirstRefused (AreRecorded n session) rows)) (sym c.earlier.ensures)
    (first-of_both (AreSoundRows n) (IsCurrent session) rows c.in_ok-found.found c.first_not_current.result (sound-take n) (current-take session) c.in_ok-found.ensures c.first_not_current.ensures)
