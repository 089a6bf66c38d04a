-- Replies and the frames that carry them, for the plugins' tables. This profile's own.
use Rattle.std.specs.Prelude.{ℕ, List, [], Some, None, codes}
use Rattle.csi_types.specs.declared.number.Number.{Number}
use Rattle.csi_types.specs.declared.call.Kind.{Kind}
use Rattle.csi_types.specs.declared.call.Party.{Party}
use Rattle.csi_types.specs.declared.call.Call.{Call}
use Rattle.csi_types.specs.declared.status.Status.{Status}
use Rattle.csi_types.specs.declared.status.Status.TheVariants as statuses
use Rattle.csi_types.specs.declared.reply.Reply.{Reply}
use Rattle.csi_types.specs.declared.frame.Body.TheVariants as bodies
use Rattle.csi_types.specs.Model.Frame.{Frame}

-- a reply without an id
abbrev pub plain_reply : Status → List ℕ → Reply
plain_reply status detail = record { status = status; id = None; detail = detail }

-- done, and nothing more to say
abbrev pub ok_reply : Reply
ok_reply = plain_reply statuses.Ok []

-- done, with the id of the volume that was made or found
abbrev pub ok_reply_with : ℕ → Reply
ok_reply_with id = record { status = statuses.Ok; id = Some id; detail = [] }

-- a later call was answered
abbrev pub stale_reply : Reply
stale_reply = plain_reply statuses.Aborted (codes "stale")

-- the frame of a call to a plugin
abbrev pub call_frame : Number → Party → Call → Frame
call_frame number party call = record { number = number; party = party; body = bodies.Call call }

-- the frame of a plugin's reply
abbrev pub reply_frame : Number → Party → Kind → Reply → Frame
reply_frame number party kind reply = record { number = number; party = party; body = bodies.Reply kind reply }
