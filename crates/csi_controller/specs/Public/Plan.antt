-- A controller's rows as rows behind the fence: what its table does with them, and the rules of rows. This profile's own.
use Rattle.std.specs.Prelude.{◌≡◌, ℕ, ◌+◌, ◌<◌, ◌≤◌, ◌^◌, List, [], map, length, Bool, true, false, not, ◌&&◌, nat_le, IsTrue}
use Rattle.std.specs.List.{AllByRecursion, list_any}
use Rattle.csi_types.specs.Public.Places.{AtMostOne}
use Rattle.csi_types.specs.declared.rows.TheConstants.{MAX_ROWS}
use Rattle.csi_types.specs.declared.number.Number.{Number}
use Rattle.csi_types.specs.declared.call.Call.{Call}
use Rattle.csi_types.specs.declared.call.Call.TheVariants as calls
use Rattle.csi_types.specs.declared.capability.Capability.{Capability}
use Rattle.csi_types.specs.declared.call.Party.TheVariants.{Controller}
use Rattle.csi_types.specs.declared.config.NodeSlots.{NodeSlots}
use Rattle.csi_types.specs.declared.reply.Reply.{Reply}
use Rattle.csi_types.specs.Model.Config.{Config}
use Rattle.csi_types.specs.Model.Same.{same_text, has_capability}
use Rattle.csi_types.specs.Public.Call.{is_party_of}
use Rattle.csi_types.specs.Public.Reply.{has_id_by_rule}
use Rattle.csi_fence.specs.Model.Fence.{Kept}
use Rattle.csi_fence.specs.Public.Rows.{Plan, Told, Lacking, Answered, Made, AreKept, rows_shown}
use Rattle.csi_controller.specs.declared.row.NodeHolding.{NodeHolding}
use Rattle.csi_controller.specs.declared.row.ControllerRow.{ControllerRow}
use Rattle.csi_controller.specs.declared.table.ControllerTable.{ControllerTable}
use Rattle.csi_controller.specs.Model.Core.{ControllerParts}
use Rattle.csi_controller.specs.Model.State.{is_row_for}
use Rattle.csi_controller.specs.Model.Table.{Change, Stays, Makes, Ends, Attaches, Detaches, Outcome, lifecycle_row}
use Rattle.csi_controller.specs.Public.Core.{AreCompatible, next_shown}
use Rattle.csi_controller.specs.Public.OneRow.{RowShown, row_shown, row_changed, call_change, state_shown}
use Rattle.csi_controller.specs.Public.Counts.{count_held, AreCounted}
use Rattle.csi_controller.specs.Public.Making.{made_volume, new_line}
use Rattle.csi_controller.specs.Public.Nowhere.{reply_nowhere}
use Rattle.csi_controller.specs.Public.Names.{by_name, by_text}

-- something changes
abbrev pub is_change : Change → Bool
is_change Stays = false
is_change (Makes name capacity capabilities) = true
is_change (Ends id) = true
is_change (Attaches holding) = true
is_change (Detaches id node) = true

-- what an outcome of the table tells
abbrev pub told_in : Outcome → Told
told_in outcome = record { reply = outcome.reply; is_done = is_change outcome.change }

-- the node takes no more volumes, by where the rows have theirs
abbrev pub is_full_by : List NodeSlots → List RowShown → List ℕ → Bool
is_full_by nodes rows node = list_any (λ (entry : NodeSlots). same_text entry.id node && nat_le entry.slots (count_held node rows)) nodes

-- what the table tells a call of the row
abbrev pub told_at : Config → List RowShown → RowShown → Call → Told
told_at config rows row call = told_in (lifecycle_row config (is_full_by config.nodes rows) (state_shown row) call)

-- the row with this kept
abbrev pub row_keeping : Kept → RowShown → RowShown
row_keeping kept row = record row { volume = record row.volume { kept = kept } }

-- the row of a volume that is made
abbrev pub made_row : Number → ℕ → List ℕ → ℕ → List Capability → RowShown
made_row number id name capacity capabilities = record { volume = made_volume number id name capacity capabilities; items = [] }

-- a row that is made, where that is the change
abbrev pub created : Number → ℕ → Reply → Change → Lacking RowShown
created number id reply (Makes name capacity capabilities) = Made (made_row number id name capacity capabilities)
created number id reply change = Answered reply

-- what a call gets that has no row, by the greatest capacity, how many rows there are, and the next id
abbrev pub lacking : ℕ → ℕ → ℕ → Number → Call → Lacking RowShown
lacking greatest count next number (calls.CreateVolume name required limit capabilities) =
    created number next (new_line greatest count next name required limit capabilities).reply (new_line greatest count next name required limit capabilities).change
lacking greatest count next number call = Answered (reply_nowhere call)

-- the controller of this configuration
abbrev pub controller_plan : Plan Config ℕ RowShown
controller_plan = record {
  party = λ config. Controller;
  id = λ row. row.volume.id;
  kept = λ row. row.volume.kept;
  keep = row_keeping;
  is_empty = λ row. not row.volume.is_live;
  is_for = λ call row. is_row_for call row.volume;
  line = told_at;
  change = λ call row. row_changed row (call_change call);
  absent = λ config next rows number call. lacking config.greatest (length rows) next number call;
  next = λ next. next + 1;
}

-- the rules of a row, by the next id
pub record IsSoundBy (next : ℕ) (row : RowShown) : Type 0 where
  pub below : row.volume.id < next
  pub party : IsTrue (is_party_of row.volume.kept.kind Controller)
  pub reply : IsTrue (has_id_by_rule row.volume.kept.kind row.volume.kept.reply)
  pub apart : (node : List ℕ) → AtMostOne (λ (held : NodeHolding). same_text held.node node) row.items
  pub compatible : AreCompatible row.items
  pub gone : row.volume.is_live ≡ false → row.items ≡ []
  pub capacity_from : 1 ≤ row.volume.capacity
  pub capacity_to : row.volume.capacity < 2 ^ 63
  pub capable : 1 ≤ length row.volume.capabilities
  pub listed : AllByRecursion (λ (held : NodeHolding). IsTrue (has_capability row.volume.capabilities held.capability)) row.items
  pub limit : length row.items ≤ 64

-- a volume that was deleted is held nowhere
abbrev pub IsFree : RowShown → Type 0
IsFree row = row.volume.is_live ≡ false → row.items ≡ []

-- what the table keeps beside the rows fits them: their names, each with the id, in order, and none twice; and how many volumes are held at
-- each configured node, where none is that was deleted. The next id is one of 64 bits
pub record Fits (nodes : List NodeSlots) (names : List (List ℕ × ℕ)) (counts : List ℕ) (next : ℕ) (rows : List RowShown) : Type 0 where
  pub names_are : names ≡ map by_name rows
  pub unique : (name : List ℕ) → AtMostOne (λ (row : RowShown). same_text row.volume.name name) rows
  pub limit : length rows ≤ MAX_ROWS
  pub counted : AreCounted nodes rows counts
  pub free : AllByRecursion IsFree rows
  pub below : next < 2 ^ 64

-- so it does
abbrev pub fits_table : ControllerTable → List RowShown → Type 0
fits_table table rows = Fits table.config.nodes (map by_text table.ids.entries) table.counts table.next_id rows

-- what a controller is to its callers
abbrev pub controller_parts : ControllerTable → ℕ → List ControllerRow → ControllerParts
controller_parts table session rows = record { config = table.config; next_id = table.next_id; session = session; rows = rows }

-- a controller's rows, of which so many are of deleted volumes, as they are kept
abbrev pub AreControllerRows : ControllerTable → ℕ → List ControllerRow → ℕ → Type 0
AreControllerRows table session rows empty =
    AreKept controller_plan IsSoundBy (fits_table table) (rows_shown (λ (t : ControllerTable). next_shown t.next_id) row_shown table session rows) empty
