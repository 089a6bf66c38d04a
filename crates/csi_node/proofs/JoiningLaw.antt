-- No frame takes a node's session back, so a call of an earlier session than that of its joining stays over.
use Rattle.std.proofs.Common.{◌≡◌, ◌<◌, ◌≤◌, ℕ, List, arith}
use Rattle.std.specs.Prelude.{Some}
use Rattle.std.proofs.lemmas.Bool.{ltb-true}
use Rattle.csi_types.specs.declared.number.Number.{Number}
use Rattle.csi_types.specs.declared.call.Call.{Call}
use Rattle.csi_types.specs.declared.call.Party.TheVariants.{Node}
use Rattle.csi_types.specs.Model.Call.{kind_of}
use Rattle.csi_types.specs.Model.Frame.{Frame}
use Rattle.csi_types.specs.Model.Replies.{call_frame, reply_frame, stale_reply}
use Rattle.csi_fence.proofs.FramesKeep.{IsKept, frame_keeps, frames_keep}
use Rattle.csi_node.specs.Model.State.{NodeState, joined_node}
use Rattle.csi_node.specs.Model.Fenced.{fenced, node_at}
use Rattle.csi_node.specs.Public.Fenced.{after_frames}
use Rattle.csi_node.proofs.CarriedOut.{keeps-by, session_then}
use Rattle.csi_fence.proofs.LetThrough.{over_call}
use Rattle.csi_fence.proofs.Spent.{over-from}

-- the session is this one, or a later one
abbrev pub IsFrom : ℕ → NodeState → Type 0
IsFrom session state = session ≤ state.session

-- each frame keeps it from this one on
is_kept : (node : List ℕ) (first : ℕ) → IsKept (node_at node) (IsFrom first)
is_kept node first =
    keeps-by node (IsFrom first) (λ session state later so. let less = ltb-true state.session session later in omega (arith, less, so))
    (λ state number call now so. let same = session_then state number call in omega (arith, same, so))

-- no frame takes it back
pub rises : (node : List ℕ) (state : NodeState) (frame : Frame) → state.session ≤ (fenced node state frame).state.session
rises node state frame = frame_keeps (node_at node) (IsFrom state.session) (is_kept node state.session) state frame (omega arith)

-- a call of an earlier session is stale, whatever frames came to a node that joined with a later one
pub stale : (node : List ℕ) (session : ℕ) (frames : List Frame) (number : Number) (call : Call) → number.session < session
    → fenced node (after_frames node (joined_node session) frames) (call_frame number (Node node) call)
    ≡ record { reply = Some (reply_frame number (Node node) (kind_of call) stale_reply); state = after_frames node (joined_node session) frames }
stale node session frames number call earlier =
    let from = frames_keep (node_at node) (IsFrom session) (is_kept node session) (joined_node session) frames (omega arith) in
    let state : NodeState = after_frames node (joined_node session) frames in
    over_call (node_at node) state number call (over-from state.session number (omega (arith, from, earlier)))
