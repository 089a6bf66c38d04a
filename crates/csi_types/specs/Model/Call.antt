-- Calls by their kinds, and the plugins that they are for (CSI's spec.md, "RPC Interface").
use Rattle.csi_types.specs.declared.call.Kind.{Kind}
use Rattle.csi_types.specs.declared.call.Kind.TheVariants as kinds
use Rattle.csi_types.specs.declared.call.Call.{Call}
use Rattle.csi_types.specs.declared.call.Call.TheVariants as calls

-- the kind of a call
abbrev pub kind_of : Call → Kind
kind_of (calls.CreateVolume name required limit capabilities) = kinds.CreateVolume
kind_of (calls.DeleteVolume id) = kinds.DeleteVolume
kind_of (calls.ControllerPublishVolume id node capability readonly) = kinds.ControllerPublishVolume
kind_of (calls.ControllerUnpublishVolume id node) = kinds.ControllerUnpublishVolume
kind_of (calls.NodeStageVolume id capability) = kinds.NodeStageVolume
kind_of (calls.NodeUnstageVolume id) = kinds.NodeUnstageVolume
kind_of (calls.NodePublishVolume id target capability readonly) = kinds.NodePublishVolume
kind_of (calls.NodeUnpublishVolume id target) = kinds.NodeUnpublishVolume
