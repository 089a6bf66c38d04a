-- The items before this one were read.
use Rattle.std.proofs.Common.{◌≡◌, map, take}
use Rattle.std.specs.Prelude.{Ok}
use Rattle.serde_json.specs.View.{view}
use Rattle.csi_json.specs.Public.Json.{read_all}
use Rattle.csi_json.specs.Public.Happenings.{happening_of}
use Rattle.csi_json.proofs.lists.read_happenings.Given as goal

abbrev pub invariant-loop-index : goal.invariant-loop-index
invariant-loop-index l = read_all happening_of 1 (map view (take l.index l.items)) ≡ Ok l.list.items
