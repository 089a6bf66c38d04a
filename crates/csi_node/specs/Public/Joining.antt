-- What is so of a node that heard of a session when it joined. This profile's own.
use Rattle.std.specs.Prelude.{◌≡◌, ◌<◌, ◌≤◌, ℕ, List, Some}
use Rattle.csi_types.specs.declared.number.Number.{Number}
use Rattle.csi_types.specs.declared.call.Call.{Call}
use Rattle.csi_types.specs.declared.call.Party.TheVariants.{Node}
use Rattle.csi_types.specs.Model.Call.{kind_of}
use Rattle.csi_types.specs.Model.Frame.{Frame}
use Rattle.csi_types.specs.Model.Replies.{call_frame, reply_frame, stale_reply}
use Rattle.csi_node.specs.Model.State.{NodeState, joined_node}
use Rattle.csi_node.specs.Model.Fenced.{fenced}
use Rattle.csi_node.specs.Public.Fenced.{after_frames}

-- in every state that frames lead to: a call of an earlier session than that of the joining is stale and changes nothing, whether or not the
-- node ever heard of its volume; and no frame takes the session back
pub record NodeJoiningLaw : Type 0 where
  pub stale : (node : List ℕ) (session : ℕ) (frames : List Frame) (number : Number) (call : Call) → number.session < session
      → fenced node (after_frames node (joined_node session) frames) (call_frame number (Node node) call)
      ≡ record { reply = Some (reply_frame number (Node node) (kind_of call) stale_reply); state = after_frames node (joined_node session) frames }
  pub rises : (node : List ℕ) (state : NodeState) (frame : Frame) → state.session ≤ (fenced node state frame).state.session
