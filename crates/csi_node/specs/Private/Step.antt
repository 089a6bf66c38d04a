-- How a node answers a call. This profile's own.
use Rattle.std.specs.Prelude.{◌≡◌, Some}
use Rattle.csi_types.specs.declared.number.Number.{Number}
use Rattle.csi_types.specs.declared.call.Call.{Call}
use Rattle.csi_types.specs.Model.Frame.{Frame}
use Rattle.csi_fence.specs.declared.answer.Answer.{Answer}
use Rattle.csi_fence.specs.Model.Fenced.{Fenced}
use Rattle.csi_node.specs.Model.State.{NodeState}
use Rattle.csi_node.specs.Model.Record.{NodeParts, Shows}
use Rattle.csi_node.specs.Public.Fenced.{answer_frame}
use Rattle.csi_node.specs.Private.Fenced.{answered_in}
use Rattle.csi_node.specs.Public.Changes.{ChangesAt}

-- the parts are those after a frame that was answered so
pub record IsFencedAnswer (parts : NodeParts) (frame : Frame) (fenced : Fenced NodeState) : Type 0 where
  pub reply : fenced.reply ≡ Some frame
  pub shows : Shows parts fenced.state

-- a call of this number was answered so: as the fence and the table have it, in each state that the record showed; and this is what
-- became of its rows
pub record AnswersCall (number : Number) (call : Call) (old new : NodeParts) (answer : Answer) : Type 0 where
  pub gives : (state : NodeState) → Shows old state → IsFencedAnswer new (answer_frame old.id number answer) (answered_in old.id state number call)
  pub changes : ChangesAt answer.row number old new
