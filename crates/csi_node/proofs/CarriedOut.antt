-- A call that a node carries out gets what the table says, or is refused where there is no room for a row. What is so of every
-- call that is carried out is shown by cases of these.
use Rattle.std.proofs.Common.{◌≡◌, ℕ, List, Bool, true, false, refl, ◌∙◌}
use Rattle.std.specs.Prelude.{Option, Some, None, codes, nat_lt}
use Rattle.csi_types.specs.declared.number.Number.{Number}
use Rattle.csi_types.specs.declared.call.Call.{Call}
use Rattle.csi_types.specs.declared.call.Party.TheVariants.{Node}
use Rattle.csi_types.specs.declared.status.Status.TheVariants.{ResourceExhausted}
use Rattle.csi_types.specs.Model.Call.{kind_of}
use Rattle.csi_types.specs.Model.Replies.{plain_reply, reply_frame}
use Rattle.csi_fence.specs.Model.Fence.{Kept}
use Rattle.csi_fence.specs.Model.Fenced.{Fenced}
use Rattle.csi_fence.proofs.FramesKeep.{IsKept}
use Rattle.csi_node.specs.Model.State.{NodeState, AnsweredVolume, volume_of}
use Rattle.csi_node.specs.Model.Table.{lifecycle_row, node_row, has_no_room, changed}
use Rattle.csi_node.specs.Model.Fenced.{begun, carried_out, keep, node_at}
use Rattle.csi_node.proofs.LastCalls.{keep-session, changed-session}

-- what is kept of a call that the table carries out, and what the node answers and is then
abbrev pub kept_of : NodeState → Number → Call → Kept
kept_of state number call = record { number = number; kind = kind_of call; reply = (lifecycle_row state call).reply }

-- what the node is then
abbrev pub state_then : NodeState → Number → Call → NodeState
state_then state number call = keep (volume_of call) (kept_of state number call) (changed state (lifecycle_row state call).change)

-- what a call changes and what is kept of it leave the session
pub session_then : (state : NodeState) (number : Number) (call : Call) → (state_then state number call).session ≡ state.session
session_then state number call =
    keep-session (volume_of call) (kept_of state number call) (changed state (lifecycle_row state call).change) ∙ changed-session state (lifecycle_row state call).change

-- what it answers, with what it is then
abbrev pub done_then : List ℕ → NodeState → Number → Call → Fenced NodeState
done_then node state number call =
    record { reply = Some (reply_frame number (Node node) (kind_of call) (lifecycle_row state call).reply); state = state_then state number call }

-- what it answers where there is no room for a row, and that it is as it was
abbrev pub full_then : List ℕ → NodeState → Number → Call → Fenced NodeState
full_then node state number call =
    record { reply = Some (reply_frame number (Node node) (kind_of call) (plain_reply ResourceExhausted (codes "rows"))); state = state }

-- by whether there is room for a row
pub data Carried (node : List ℕ) (state : NodeState) (number : Number) (call : Call) : Fenced NodeState → Type 0 where
  no_room : has_no_room state call ≡ true → Carried node state number call (full_then node state number call)
  has_room : has_no_room state call ≡ false → Carried node state number call (done_then node state number call)

-- each call that is carried out is one of these
pub was_carried : (node : List ℕ) (state : NodeState) (number : Number) (call : Call) → Carried node state number call (carried_out node state number call (node_row state call))
was_carried node state number call = by (has_no_room state call) refl
  where
    by : (b : Bool) → has_no_room state call ≡ b → Carried node state number call (carried_out node state number call (node_row state call))
    by true full = rw full (no_room full)
    by false room = rw room (has_room room)

-- what a session that begins keeps, and each call that is carried out, each frame keeps
pub keeps-by : (node : List ℕ) (I : NodeState → Type 0) → ((session : ℕ) (state : NodeState) → nat_lt state.session session ≡ true → I state → I (begun session state))
    → ((state : NodeState) (number : Number) (call : Call) → number.session ≡ state.session → I state → I (state_then state number call)) → IsKept (node_at node) I
keeps-by node I begins carries = record {
  sets_session = λ session state. refl;
  begins = begins;
  carries = λ state number call now so. by state number call now.session so (carried_out node state number call (node_row state call)) (was_carried node state number call);
}
  where
    by : (state : NodeState) (number : Number) (call : Call) → number.session ≡ state.session → I state → (after : Fenced NodeState) → Carried node state number call after → I after.state
    by state number call now so _ (no_room full) = so
    by state number call now so _ (has_room room) = carries state number call now so

-- so does what is told by what is staged and published alone
pub keeps-apart : (node : List ℕ) (I : NodeState → Type 0) → ((state : NodeState) (rows : List AnsweredVolume) (session : ℕ) → I state → I (record state { rows = rows; session = session }))
    → ((state : NodeState) (call : Call) → I state → I (changed state (lifecycle_row state call).change)) → IsKept (node_at node) I
keeps-apart node I apart carries =
    keeps-by node I (λ session state later so. apart state (begun session state).rows session so)
    (λ state number call now so. by (volume_of call) (kept_of state number call) (changed state (lifecycle_row state call).change) (carries state call so))
  where
    by : (volume : Option ℕ) (kept : Kept) (state : NodeState) → I state → I (keep volume kept state)
    by None kept state so = so
    by (Some id) kept state so = apart state (keep (Some id) kept state).rows state.session so
