-- What rows and parts keep so that they can be written: the counts of a row's lists are bytes, and so many parts have a number of 32 bits.
use Rattle.std.specs.Prelude.{◌≤◌, ◌<◌, ◌^◌, List, length}
use Rattle.std.specs.List.{AllByRecursion}
use Rattle.csi_stores.specs.Public.Part.{StoredPart, IsPart}
use Rattle.csi_controller.specs.declared.row.ControllerRow.{ControllerRow}
use Rattle.csi_node.specs.declared.row.NodeRow.{NodeRow}

-- a volume is held at 64 nodes at most
abbrev pub AreHeldFew : ControllerRow → Type 0
AreHeldFew row = length row.holdings.items ≤ 64

-- it is published at 16 targets at most
abbrev pub ArePublishedFew : NodeRow → Type 0
ArePublishedFew row = length row.targets.items ≤ 16

-- each part has room in its count of bytes, and all parts in theirs
pub record CanBeWritten (parts : List StoredPart) : Type 0 where
  pub each : AllByRecursion IsPart parts
  pub few : length parts < 2 ^ 32
