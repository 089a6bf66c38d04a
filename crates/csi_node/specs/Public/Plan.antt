-- A node's rows as rows behind the fence: what its table does with them. This profile's own.
use Rattle.std.specs.Prelude.{ℕ, ◌==◌, List, [], length, Bool, true, false, nat_le, Option, Some, None, is_none, if◌then◌else◌, codes}
use Rattle.csi_types.specs.declared.rows.TheConstants.{MAX_ROWS}
use Rattle.csi_types.specs.declared.number.Number.{Number}
use Rattle.csi_types.specs.declared.call.Call.{Call}
use Rattle.csi_types.specs.declared.call.Party.TheVariants.{Node}
use Rattle.csi_types.specs.declared.status.Status.TheVariants.{ResourceExhausted, Unimplemented}
use Rattle.csi_types.specs.Model.Call.{kind_of}
use Rattle.csi_types.specs.Model.Replies.{plain_reply}
use Rattle.csi_fence.specs.Model.Fence.{Kept}
use Rattle.csi_fence.specs.Public.Rows.{Plan, Told, Lacking, Answered, Made, AreKept}
use Rattle.csi_node.specs.declared.row.NodeRow.{NodeRow}
use Rattle.csi_node.specs.Model.State.{volume_of}
use Rattle.csi_node.specs.Model.Table.{Change, Stays, Stages, Unstages, Publishes, Unpublishes, Outcome, lifecycle_row}
use Rattle.csi_node.specs.Model.OneRow.{NodeRowShown}
use Rattle.csi_node.specs.Model.Record.{parts}
use Rattle.csi_node.specs.Public.OneRow.{state_shown, IsSoundRow}
use Rattle.csi_node.specs.Public.OneRow.{row_anew, row_changed}

-- the id is this volume's
abbrev pub is_of : Option ℕ → ℕ → Bool
is_of None id = false
is_of (Some volume) id = id == volume

-- something changes
abbrev pub is_change : Change → Bool
is_change Stays = false
is_change (Stages staged) = true
is_change (Unstages id) = true
is_change (Publishes published) = true
is_change (Unpublishes id target) = true

-- what an outcome of the table tells
abbrev pub told_in : Outcome → Told
told_in outcome = record { reply = outcome.reply; is_done = is_change outcome.change }

-- what the table tells a call of the row
abbrev pub told_at : NodeRowShown → Call → Told
told_at row call = told_in (lifecycle_row (state_shown row) call)

-- the row with this kept
abbrev pub row_keeping : Kept → NodeRowShown → NodeRowShown
row_keeping kept row = record row { kept = kept }

-- the row after a call that was told this
abbrev pub row_told : Number → Call → Told → NodeRowShown → NodeRowShown
row_told number call told row = row_keeping (record { number = number; kind = kind_of call; reply = told.reply }) (if told.is_done then row_changed row call else row)

-- the row of a volume after its first call
abbrev pub first_row : ℕ → Number → Call → NodeRowShown
first_row id number call = row_told number call (told_at (row_anew id number (kind_of call)) call) (row_anew id number (kind_of call))

-- what a call gets whose volume has no row, where there is room for one
abbrev pub lacking : Option ℕ → Number → Call → Lacking NodeRowShown
lacking None number call = Answered (plain_reply Unimplemented [])
lacking (Some id) number call = Made (first_row id number call)

-- the node of this id
abbrev pub node_plan : Plan (List ℕ) (Unit {0}) NodeRowShown
node_plan = record {
  party = Node;
  id = λ row. row.id;
  kept = λ row. row.kept;
  keep = row_keeping;
  is_empty = λ row. is_none row.staged;
  is_for = λ call row. is_of (volume_of call) row.id;
  line = λ node rows row call. told_at row call;
  change = λ call row. row_changed row call;
  absent = λ node own rows number call. if nat_le MAX_ROWS (length rows) then Answered (plain_reply ResourceExhausted (codes "rows")) else lacking (volume_of call) number call;
  next = λ own. own;
}

-- the rules of a row, whatever else the node knows: that is nothing
abbrev pub is_sound_by : Unit {0} → NodeRowShown → Type 0
is_sound_by own row = IsSoundRow row

-- a node's rows, of which so many are of volumes that aren't staged, as they are kept
abbrev pub AreNodeRows : ℕ → List NodeRow → ℕ → Type 0
AreNodeRows session rows empty = AreKept node_plan is_sound_by (λ rows. Unit {0}) (record { own = tt; session = session; rows = parts rows }) empty
