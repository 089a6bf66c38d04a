-- What a call is answered whose volume the controller doesn't have. Only private functions cite it.
use Rattle.std.specs.Prelude.{codes}
use Rattle.csi_types.specs.declared.call.Call.{Call}
use Rattle.csi_types.specs.declared.call.Call.TheVariants as calls
use Rattle.csi_types.specs.declared.reply.Reply.{Reply}
use Rattle.csi_types.specs.declared.status.Status.TheVariants.{NotFound}
use Rattle.csi_types.specs.Model.Replies.{plain_reply, ok_reply}

-- there is nothing to delete or to detach, and nothing that can be attached; a CreateVolume isn't answered so
abbrev pub reply_nowhere : Call → Reply
reply_nowhere (calls.DeleteVolume id) = ok_reply
reply_nowhere (calls.ControllerUnpublishVolume id node) = ok_reply
reply_nowhere call = plain_reply NotFound (codes "volume")
