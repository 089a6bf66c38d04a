-- Which replies have an id. In CSI's spec.md only CreateVolume's response has one.
use Rattle.std.specs.Prelude.{Bool, true, false, not, is_some, ◌&&◌, if◌then◌else◌}
use Rattle.csi_types.specs.declared.call.Kind.{Kind}
use Rattle.csi_types.specs.declared.call.Kind.TheVariants.{CreateVolume}
use Rattle.csi_types.specs.declared.reply.Reply.{Reply}
use Rattle.csi_types.specs.Model.Reply.{is_ok_status}

-- the kind is CreateVolume
abbrev pub is_create : Kind → Bool
is_create CreateVolume = true
is_create _ = false

-- the reply has an id exactly where it is an Ok to CreateVolume
abbrev pub has_id_by_rule : Kind → Reply → Bool
has_id_by_rule kind reply = if is_create kind && is_ok_status reply.status then is_some reply.id else not (is_some reply.id)
