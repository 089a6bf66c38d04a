-- A node's record as a value, and the state that it shows. This profile's own.
use Rattle.std.specs.Prelude.{◌≡◌, ℕ, List, map}
use Rattle.csi_node.specs.declared.row.NodeRow.{NodeRow}
use Rattle.csi_node.specs.Model.State.{NodeState}
use Rattle.csi_node.specs.Model.Shown.{RowsShow}
use Rattle.csi_node.specs.Model.OneRow.{NodeRowShown, node_row_shown}

-- a record: its node, the greatest session that it heard of, and its rows
pub record NodeParts : Type 0 where
  pub id : List ℕ
  pub session : ℕ
  pub rows : List NodeRow

-- the rows of a record, with their targets as lists
abbrev pub parts : List NodeRow → List NodeRowShown
parts rows = map node_row_shown rows

-- the parts show the state
pub record Shows (parts : NodeParts) (state : NodeState) : Type 0 where
  pub shows : RowsShow parts.rows state
  pub session : parts.session ≡ state.session
