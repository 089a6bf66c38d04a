-- The items before this one were read.
use Rattle.std.proofs.Common.{◌≡◌, map, take}
use Rattle.std.specs.Prelude.{Ok}
use Rattle.serde_json.specs.View.{view}
use Rattle.csi_json.specs.Public.Json.{read_all}
use Rattle.csi_json.specs.Public.Configs.{node_slots_of}
use Rattle.csi_json.proofs.lists.read_nodes.Given as goal

abbrev pub invariant-loop-item : goal.invariant-loop-item
invariant-loop-item l = read_all node_slots_of 1 (map view (take l.item-index l.items)) ≡ Ok l.list.items
