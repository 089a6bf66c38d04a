-- What a node does with a frame: the fence, then the table. This profile's own.
use Rattle.std.specs.Prelude.{ℕ, List}
use Rattle.csi_types.specs.declared.number.Number.{Number}
use Rattle.csi_types.specs.declared.call.Party.TheVariants.{Node}
use Rattle.csi_types.specs.Model.Frame.{Frame}
use Rattle.csi_types.specs.Model.Replies.{reply_frame}
use Rattle.csi_fence.specs.declared.answer.Answer.{Answer}
use Rattle.csi_fence.specs.Public.Fenced as fence
use Rattle.csi_node.specs.Model.State.{NodeState}
use Rattle.csi_node.specs.Model.Fenced.{node_at}

-- an answer of this node, as a frame
abbrev pub answer_frame : List ℕ → Number → Answer → Frame
answer_frame node number answer = reply_frame number (Node node) answer.kind answer.reply

-- the state after these frames
abbrev pub after_frames : List ℕ → NodeState → List Frame → NodeState
after_frames node state frames = fence.after_frames (node_at node) state frames
