-- A controller whose session an operator raised, without a call. This profile's own.
use Rattle.std.specs.Prelude.{ℕ, nat_lt, if◌then◌else◌}
use Rattle.csi_controller.specs.Model.State.{ControllerState}
use Rattle.csi_controller.specs.Model.Fenced.{begun}

-- the session begins, where it is later than the greatest that came, as if a call had begun it: every call of an earlier one is stale from
-- then on, and volumes that were deleted are forgotten
abbrev pub raised : ℕ → ControllerState → ControllerState
raised session state = if nat_lt state.session session then begun session state else state
