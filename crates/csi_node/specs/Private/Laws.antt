-- Laws that the node's table keeps, in the words of CSI's spec.md ("idempotent" calls, and what each call
-- ensures), apart from what is kept of the last calls.
use Rattle.std.specs.Prelude.{ℕ, List}
use Rattle.csi_types.specs.declared.number.Number.{Number}
use Rattle.csi_types.specs.declared.call.Call.{Call}
use Rattle.csi_types.specs.declared.call.Party.TheVariants.{Node}
use Rattle.csi_fence.specs.Public.Lawful as lawful
use Rattle.csi_types.specs.Model.Replies.{call_frame}
use Rattle.csi_node.specs.Model.State.{NodeState}
use Rattle.csi_node.specs.Model.Fenced.{node_at, fenced}

-- the state after a frame with the call
abbrev pub state_after : List ℕ → NodeState → Number → Call → NodeState
state_after node state number call = (fenced node state (call_frame number (Node node) call)).state

-- the fence lets the call through to the table
abbrev pub IsLetThrough : List ℕ → NodeState → Number → Call → Type 0
IsLetThrough node state number call = lawful.IsLetThrough (node_at node) state number call
