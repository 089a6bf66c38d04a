-- The frame that a lent one stands for, and what is lent of it.
use Rattle.std.specs.Prelude.{Option, Some, None, Result, Ok, Err}
use Rattle.csi_types.specs.declared.call.Call.{Call}
use Rattle.csi_types.specs.declared.frame.Body.{Body}
use Rattle.csi_types.specs.declared.frame.Body.TheVariants as bodies
use Rattle.csi_types.specs.Model.Frame.{Frame}
use Rattle.csi_frames.specs.declared.fault.FrameFault.{FrameFault}
use Rattle.csi_frames.specs.declared.frame_ref.FrameRef.{FrameRef}
use Rattle.csi_frames.specs.Public.Borrowed.{lent_borrowed_frame}

-- the frame that a lent one stands for
abbrev pub lent_frame : FrameRef → Frame
lent_frame frame = lent_borrowed_frame frame.frame

-- an answer, with the frame that is lent in it
abbrev pub lent_answer : Result (Option FrameRef) FrameFault → Result (Option Frame) FrameFault
lent_answer (Ok (Some frame)) = Ok (Some (lent_frame frame))
lent_answer (Ok None) = Ok None
lent_answer (Err fault) = Err fault

-- the call, if the body is one
abbrev pub call_in : Body → Option Call
call_in (bodies.Call call) = Some call
call_in (bodies.Reply kind reply) = None

-- the call of a frame, and none of a reply's
abbrev pub call_of : Frame → Option Call
call_of frame = call_in frame.body
