-- A controller's rows as rows behind the fence: what its table does with them, and the rules of rows. This profile's own.
use Rattle.std.specs.Prelude.{◌≡◌, ℕ, ◌<◌, ◌==◌, List, find, Bool, false, Option, Some, None, String}
use Rattle.std.specs.Global.{Global}
use Rattle.std.specs.String.{string_bytes}
use Rattle.indexmap.specs.IndexMap.{spare}
use Rattle.csi_types.specs.declared.number.Number.{Number}
use Rattle.csi_types.specs.declared.call.Call.{Call}
use Rattle.csi_types.specs.declared.capability.Capability.{Capability}
use Rattle.csi_types.specs.declared.config.NodeSlots.{NodeSlots}
use Rattle.csi_types.specs.Model.Replies.{ok_reply_with}
use Rattle.csi_fence.specs.declared.table.Absent.{Absent}
use Rattle.csi_fence.specs.declared.table.Absent.TheVariants as absents
use Rattle.csi_fence.specs.Public.Rows.{stays_in}
use Rattle.csi_controller.specs.declared.row.ControllerRow.{ControllerRow}
use Rattle.csi_controller.specs.declared.table.ControllerTable.{ControllerTable}
use Rattle.csi_controller.specs.Model.Table.{Outcome, lifecycle_row}
use Rattle.csi_controller.specs.Public.OneRow.{RowShown, row_shown, state_shown}
use Rattle.csi_controller.specs.Private.Counts.{is_node_full}
use Rattle.csi_controller.specs.Public.Plan.{controller_plan, made_row}

-- the table's outcome at a row, by the nodes and how many volumes are held at each. The greatest capacity is asked for a new name alone
abbrev pub row_outcome : List NodeSlots → List ℕ → RowShown → Call → Outcome
row_outcome nodes counts row call = lifecycle_row (record { greatest = 0; nodes = nodes }) (is_node_full nodes counts) (state_shown row) call

-- the row stays in this session, if there is one
abbrev pub is_row_kept : ℕ → Option RowShown → Bool
is_row_kept session None = false
is_row_kept session (Some row) = stays_in controller_plan session row

-- so does the row of this id
abbrev pub is_kept : ℕ → ℕ → List RowShown → Bool
is_kept session id rows = is_row_kept session (find (λ (row : RowShown). row.volume.id == id) rows)

-- the text is the name of the row, which has the next id, and there is room for both
pub record HasRoom (table : ControllerTable) (text : String Global) (row : RowShown) : Type 0 where
  pub named : string_bytes text ≡ row.volume.name
  pub room : 0 < spare table.ids
  pub next : row.volume.id ≡ table.next_id
  pub from : 0 < table.next_id

-- the row of the volume that is made, a copy of the reply that it keeps, and room for its name
abbrev pub IsMadeOf : ControllerTable → Number → ℕ → List ℕ → ℕ → List Capability → Absent ControllerRow (String Global) → Type 0
IsMadeOf table number id name capacity capabilities (absents.Answered reply) = ⊥
IsMadeOf table number id name capacity capabilities (absents.Made row reply text) =
    (row_shown row ≡ made_row number id name capacity capabilities) × (reply ≡ ok_reply_with id) × (string_bytes text ≡ name) × (0 < spare table.ids)
