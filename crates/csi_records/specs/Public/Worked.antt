-- Worked examples of the spelling of records, which the checker computes.
use Rattle.std.specs.Prelude.{List, Some}
use Rattle.csi_controller.specs.Model.State.{ControllerState}
use Rattle.csi_stores.specs.Public.Part.{StoredPart}
use Rattle.csi_records.specs.Public.Spelling.{present, controller_parts, volume_rows}

-- the parts of the record of a controller that knows this
abbrev pub parts_of_state : ControllerState → List StoredPart
parts_of_state state = controller_parts present state.next_id (Some state.session) (volume_rows state)
