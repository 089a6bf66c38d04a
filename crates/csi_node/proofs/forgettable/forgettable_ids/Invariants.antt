use Rattle.std.proofs.Common.{◌≡◌, filter, is_none, map, take}
use Rattle.csi_node.specs.Model.OneRow.{NodeRowShown}
use Rattle.csi_node.specs.Model.Record.{parts}
use Rattle.csi_node.proofs.forgettable.forgettable_ids.Given as goal

-- the ids of those so far that aren't staged were listed
abbrev pub invariant-loop-row : goal.invariant-loop-row
invariant-loop-row l = l.list.items ≡ map (λ (row : NodeRowShown). row.id) (filter (λ (row : NodeRowShown). is_none row.staged) (parts (take l.row-index l.rows)))
