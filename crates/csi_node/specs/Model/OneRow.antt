-- A row of a node's record by its parts, and what it shows of the state by itself. This profile's own.
use Rattle.std.specs.Prelude.{ℕ, List, Option}
use Rattle.csi_types.specs.declared.capability.Capability.{Capability}
use Rattle.csi_fence.specs.Model.Fence.{Kept}
use Rattle.csi_node.specs.declared.row.NodeRow.{NodeRow}
use Rattle.csi_node.specs.declared.row.NodeTarget.{NodeTarget}

-- a row, with its targets as a list
pub record NodeRowShown : Type 0 where
  pub id : ℕ
  pub staged : Option Capability
  pub targets : List NodeTarget
  pub kept : Kept

-- a row, as it is kept in a record
abbrev pub node_row_shown : NodeRow → NodeRowShown
node_row_shown row = record { id = row.id; staged = row.staged; targets = row.targets.items; kept = record { number = row.last; kind = row.kind; reply = row.reply } }
