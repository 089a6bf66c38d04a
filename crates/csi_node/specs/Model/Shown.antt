-- A node, as its record has it, shows a state. This profile's own.
use Rattle.std.specs.Prelude.{◌≡◌, ℕ, ◌==◌, List, [], map, find, filter, length, Option, Some, None, option_map, option_to_list}
use Rattle.csi_types.specs.declared.capability.Capability.{Capability}
use Rattle.csi_node.specs.declared.row.NodeRow.{NodeRow}
use Rattle.csi_node.specs.Model.State.{NodeState, AnsweredVolume, PublishedVolume, published_of}

-- what a row keeps of the last call
abbrev pub answered_of_row : NodeRow → AnsweredVolume
answered_of_row row = record { id = row.id; kept = record { number = row.last; kind = row.kind; reply = row.reply } }

-- what is published by a row, all in the capability in which it is staged
abbrev pub published_in_row : NodeRow → Option Capability → List PublishedVolume
published_in_row row None = []
published_in_row row (Some capability) =
    map (λ target. record { volume = row.id; target = target.target; capability = capability; readonly = target.readonly }) row.targets.items

-- what is published by a row, if there is one
abbrev pub published_in : Option NodeRow → List PublishedVolume
published_in None = []
published_in (Some row) = published_in_row row row.staged

-- how a row is staged: one capability, or none
abbrev pub staged_in : Option NodeRow → List Capability
staged_in None = []
staged_in (Some row) = option_to_list row.staged

-- the row of an id
abbrev pub row_in : ℕ → List NodeRow → Option NodeRow
row_in id rows = find (λ row. row.id == id) rows

-- for each volume the row is the state's: its last call, how it is staged, and its targets in order; how
-- different volumes are mixed doesn't show
pub record RowsShow (rows : List NodeRow) (state : NodeState) : Type 0 where
  pub count : length rows ≡ length state.rows
  pub kept : (id : ℕ) → option_to_list (option_map answered_of_row (row_in id rows)) ≡ filter (λ row. row.id == id) state.rows
  pub staged : (id : ℕ) → staged_in (row_in id rows) ≡ map (λ staged. staged.capability) (filter (λ staged. staged.volume == id) state.staged)
  pub published : (id : ℕ) → published_in (row_in id rows) ≡ published_of id state
