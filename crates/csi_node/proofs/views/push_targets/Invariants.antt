use Rattle.std.proofs.Common.{◌≡◌, ◌++◌, take, map}
use Rattle.csi_node.specs.Public.OneRow.{published_so}
use Rattle.csi_node.specs.Public.Views.{published_shown}
use Rattle.csi_node.proofs.views.push_targets.Given as goal

-- the targets so far were listed behind what was there
abbrev pub invariant-loop-target : goal.invariant-loop-target
invariant-loop-target l =
    map published_shown l.list.items ≡ map published_shown l.fn.list.items ++ map (published_so l.id l.capability) (take l.target-index l.targets)
