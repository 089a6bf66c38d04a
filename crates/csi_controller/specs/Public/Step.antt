-- What a controller gives for a call.
use Rattle.csi_types.specs.declared.number.Number.{Number}
use Rattle.csi_types.specs.declared.call.Party.TheVariants.{Controller}
use Rattle.csi_fence.specs.declared.answer.Answer.{Answer}
use Rattle.csi_types.specs.Model.Frame.{Frame}
use Rattle.csi_types.specs.Model.Replies.{reply_frame}

-- the frame of the controller's answer to the call of this number
abbrev pub answer_frame : Number → Answer → Frame
answer_frame number answer = reply_frame number Controller answer.kind answer.reply
