-- A worked example of the room in a store, which the checker computes.
use Rattle.std.specs.Prelude.{◌≡◌}
use Rattle.csi_controller.specs.Model.State.{empty_controller}
use Rattle.csi_records.specs.Public.Worked.{parts_of_state}
use Rattle.csi_stores.specs.Public.Content.{size_of}

-- the record of a controller that answered nothing takes 26 bytes of a store
abbrev pub EmptySize : Type 0
EmptySize = size_of (parts_of_state empty_controller) ≡ 26
