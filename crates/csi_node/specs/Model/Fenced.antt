-- What a node does with a frame: the fence, then the table. This profile's own.
use Rattle.std.specs.Prelude.{ℕ, ◌==◌, List, [], ◌∷◌, ◌++◌, map, filter, Option, Some, None, option_map, is_some, if◌then◌else◌}
use Rattle.csi_types.specs.declared.number.Number.{Number}
use Rattle.csi_types.specs.declared.call.Call.{Call}
use Rattle.csi_types.specs.declared.call.Party.TheVariants.{Node}
use Rattle.csi_types.specs.Model.Call.{kind_of}
use Rattle.csi_types.specs.Model.Frame.{Frame}
use Rattle.csi_types.specs.Model.Replies.{reply_frame}
use Rattle.csi_fence.specs.Model.Fence.{Kept}
use Rattle.csi_fence.specs.Model.Fenced as fence
use Rattle.csi_fence.specs.Model.Fenced.{Fenced, Machine}
use Rattle.csi_node.specs.Model.State.{NodeState, AnsweredVolume, volume_of, row_with_id, row_for, staged_of}
use Rattle.csi_node.specs.Model.Table.{Outcome, node_row, has_no_room, changed}

-- the row, with this kept if it is the one of this id
abbrev pub kept_in : ℕ → Kept → AnsweredVolume → AnsweredVolume
kept_in id kept row = if row.id == id then record row { kept = kept } else row

-- the rows, with this kept in the volume's row, or in a new one
abbrev pub kept_rows : ℕ → Kept → List AnsweredVolume → Option AnsweredVolume → List AnsweredVolume
kept_rows id kept rows (Some row) = map (kept_in id kept) rows
kept_rows id kept rows None = rows ++ (record { id = id; kept = kept }) ∷ []

-- number and reply are kept for the volume that a call is about
abbrev pub keep : Option ℕ → Kept → NodeState → NodeState
keep None kept state = state
keep (Some id) kept state = record state { rows = kept_rows id kept state.rows (row_with_id id state) }

-- the table's answer, and the state with its change and what is kept; where there is no room for a row,
-- nothing is kept
abbrev pub carried_out : List ℕ → NodeState → Number → Call → Outcome → Fenced NodeState
carried_out node state number call outcome =
    let kept : Kept = record { number = number; kind = kind_of call; reply = outcome.reply } in
    if has_no_room state call then record { reply = Some (reply_frame number (Node node) (kind_of call) outcome.reply); state = state }
    else record { reply = Some (reply_frame number (Node node) (kind_of call) outcome.reply); state = keep (volume_of call) kept (changed state outcome.change) }

-- what is kept in the row of the call's volume
abbrev pub kept_for : Call → NodeState → Option Kept
kept_for call state = option_map (λ row. row.kept) (row_for call state)

-- a later session begins: the rows of volumes that aren't staged are forgotten
abbrev pub begun : ℕ → NodeState → NodeState
begun session state = record state { session = session; rows = filter (λ row. is_some (staged_of row.id state)) state.rows }

-- the node of this id, behind the fence
abbrev pub node_at : List ℕ → Machine NodeState
node_at node =
    record {
      party = Node node;
      session = λ state. state.session;
      begun = begun;
      kept_for = kept_for;
      carried_out = λ state number call. carried_out node state number call (node_row state call);
    }

-- what a frame gets, and the state after it
abbrev pub fenced : List ℕ → NodeState → Frame → Fenced NodeState
fenced node state frame = fence.fenced (node_at node) state frame
