-- What a frame that borrows its texts stands for: the frame that has copies of them.
use Rattle.csi_types.specs.declared.call.Party.{Party}
use Rattle.csi_types.specs.declared.call.Party.TheVariants as parties
use Rattle.csi_types.specs.declared.reply.Reply.{Reply}
use Rattle.csi_types.specs.declared.frame.Body.{Body}
use Rattle.csi_types.specs.declared.frame.Body.TheVariants as bodies
use Rattle.csi_types.specs.Model.Frame.{Frame}
use Rattle.csi_types.specs.Public.Lent.{lent_call}
use Rattle.csi_frames.specs.Public.Reading.{reply_id_of}
use Rattle.csi_frames.specs.declared.borrowed.PartyRef.{PartyRef}
use Rattle.csi_frames.specs.declared.borrowed.PartyRef.TheVariants.{Controller, Node}
use Rattle.csi_frames.specs.declared.borrowed.ReplyRef.{ReplyRef}
use Rattle.csi_frames.specs.declared.borrowed.BodyRef.{BodyRef}
use Rattle.csi_frames.specs.declared.borrowed.BodyRef.TheVariants as refs
use Rattle.csi_frames.specs.declared.borrowed.BorrowedFrame.{BorrowedFrame}

-- the party that a borrowed one stands for
abbrev pub lent_party : PartyRef → Party
lent_party Controller = parties.Controller
lent_party (Node id) = parties.Node id.now

-- the reply that a borrowed one stands for
abbrev pub lent_reply : ReplyRef → Reply
lent_reply reply = record { status = reply.status; id = reply_id_of reply.id; detail = reply.detail.now }

-- the body that a borrowed one stands for
abbrev pub lent_body : BodyRef → Body
lent_body (refs.Call call) = bodies.Call (lent_call call)
lent_body (refs.Reply kind reply) = bodies.Reply kind (lent_reply reply)

-- the frame that a borrowed one stands for
abbrev pub lent_borrowed_frame : BorrowedFrame → Frame
lent_borrowed_frame frame = record { number = frame.number; party = lent_party frame.party; body = lent_body frame.body }
