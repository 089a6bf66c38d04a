use Rattle.std.proofs.Common.{◌≡◌, take, map}
use Rattle.std.specs.List.{flat_map}
use Rattle.csi_node.specs.declared.row.NodeRow.{NodeRow}
use Rattle.csi_node.specs.Model.OneRow.{node_row_shown}
use Rattle.csi_node.specs.Public.OneRow.{state_shown}
use Rattle.csi_node.specs.Public.Views.{staged_shown}
use Rattle.csi_node.proofs.views.staged_in.Given as goal

-- what the rows so far have staged was listed
abbrev pub invariant-loop-row : goal.invariant-loop-row
invariant-loop-row l = map staged_shown l.list.items ≡ flat_map (λ (row : NodeRow). (state_shown (node_row_shown row)).staged) (take l.row-index l.rows)
