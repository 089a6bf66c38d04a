-- What was staged before this one is on the list.
use Rattle.std.proofs.Common.{◌≡◌, ◌++◌, map, take}
use Rattle.csi_node.specs.Public.Views.{staged_shown}
use Rattle.csi_reports.specs.Public.Listed.{volume_staged_at}
use Rattle.csi_reports.proofs.lists.add_staged.Given as goal

abbrev pub invariant-loop-volume : goal.invariant-loop-volume
invariant-loop-volume l = l.list.items ≡ l.fn.list.items ++ map (volume_staged_at l.node.id) (map staged_shown (take l.volume-index l.volume-items))
