-- What is found among those that are left is what is found among all.
use Rattle.std.proofs.Common.{◌≡◌, drop}
use Rattle.csi_node.specs.Public.OneRow.{target_among}
use Rattle.csi_node.proofs.row_table.find_target.Given as goal

-- the target is found where it is found among those still to be looked at
abbrev pub invariant-loop-there : goal.invariant-loop-there
invariant-loop-there l = target_among (drop l.there-index l.targets) l.target ≡ target_among l.targets l.target
