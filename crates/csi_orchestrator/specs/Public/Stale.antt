-- A reply by which an open call is stale: a plugin answered a later call of the volume, or heard of a later session. In no run of one orchestrator one
-- comes (`stale_law` of `csi_recovery`); so its store is an older one. This profile's own.
use Rattle.std.specs.Prelude.{Bool, true, false, ◌&&◌, Option, None, is_some, codes}
use Rattle.csi_types.specs.declared.number.Number.{Number}
use Rattle.csi_types.specs.declared.call.Party.{Party}
use Rattle.csi_types.specs.declared.frame.Body.{Body}
use Rattle.csi_types.specs.declared.frame.Body.TheVariants as bodies
use Rattle.csi_types.specs.declared.reply.Reply.{Reply}
use Rattle.csi_types.specs.declared.status.Status.{Status}
use Rattle.csi_types.specs.declared.status.Status.TheVariants as statuses
use Rattle.csi_types.specs.Model.Frame.{Frame}
use Rattle.csi_types.specs.Model.Same.{same_text}
use Rattle.csi_orchestrator.specs.Model.Thing.{Issued}
use Rattle.csi_orchestrator.specs.Model.History.{History}
use Rattle.csi_orchestrator.specs.Model.Moves.{call_replied}

-- the status of a late call
abbrev pub is_aborted : Status → Bool
is_aborted statuses.Aborted = true
is_aborted status = false

-- a reply says that its call is stale
abbrev pub is_stale_reply : Reply → Bool
is_stale_reply reply = is_aborted reply.status && same_text reply.detail (codes "stale")

-- the open call that a frame is a reply to, if it is one to an open call
abbrev pub call_answered : History → Number → Party → Body → Option Issued
call_answered history number party (bodies.Call call) = None
call_answered history number party (bodies.Reply kind reply) = call_replied history number party kind

-- a body says that its call is stale
abbrev pub is_stale_body : Body → Bool
is_stale_body (bodies.Call call) = false
is_stale_body (bodies.Reply kind reply) = is_stale_reply reply

-- a frame says so of an open call
abbrev pub is_told_stale : History → Frame → Bool
is_told_stale history frame = is_stale_body frame.body && is_some (call_answered history frame.number frame.party frame.body)
