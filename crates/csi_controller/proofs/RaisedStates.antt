-- A controller whose session was raised shows the raised state.
use Rattle.std.proofs.Common.{◌≡◌, ℕ, ◌<◌, ◌^◌, Bool, true, false, cond, sym, subst}
use Rattle.std.specs.Prelude.{nat_lt}
use Rattle.csi_fence.specs.Public.Rows as rows_of
use Rattle.csi_fence.specs.Public.Raised.{raised_rows}
use Rattle.csi_controller.specs.Model.Core.{ControllerParts, Shows}
use Rattle.csi_controller.specs.Model.Fenced.{begun}
use Rattle.csi_controller.specs.Model.State.{ControllerState}
use Rattle.csi_controller.specs.Public.Plan.{controller_plan}
use Rattle.csi_controller.specs.Public.Raised.{raised}
use Rattle.csi_controller.proofs.AnswersTold.{rows_in, shows-in, shows-out}
use Rattle.csi_controller.proofs.RowsMachine.{begun-shows}
use Rattle.csi_controller.proofs.ShownRows.{AreRowsSound, ControllerRows, RowsShowAll}

pub raised-shown : (session : ℕ) (old new : ControllerParts) (state : ControllerState) → AreRowsSound (rows_in old) → new.next_id < 2 ^ 64 → rows_in new ≡ raised_rows controller_plan session (rows_in old)
    → Shows old state → Shows new (raised session state)
raised-shown session old new state sound below is shown =
    shows-out new (raised session state) below
    (subst (λ (rows : ControllerRows). RowsShowAll rows (raised session state)) (sym is)
    (subst (λ (n : ℕ). RowsShowAll (raised_rows controller_plan session (rows_in old)) (cond (nat_lt n session) (begun session state) state)) shown.session (by (nat_lt old.session session))))
  where
    by : (b : Bool) → RowsShowAll (cond b (rows_of.begun controller_plan session (rows_in old)) (rows_in old)) (cond b (begun session state) state)
    by true = begun-shows session (rows_in old) state sound (shows-in old state shown)
    by false = shows-in old state shown
