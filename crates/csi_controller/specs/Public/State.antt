-- What a controller knows: the volumes that it made, and one list of all holdings. CSI's spec.md, "Volume
-- Lifecycle"; that a deleted volume's name is spent until a later session begins, and what is kept of the last call, are this
-- profile's own.
use Rattle.std.specs.Prelude.{ℕ, ◌==◌, find, Option}
use Rattle.csi_controller.specs.Model.State.{Volume, ControllerState}

-- the volume of this id, deleted or not, unless it is forgotten
abbrev pub volume_with_id : ℕ → ControllerState → Option Volume
volume_with_id id state = find (λ volume. volume.id == id) state.volumes
