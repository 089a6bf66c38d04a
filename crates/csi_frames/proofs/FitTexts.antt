-- The texts of a call that is within its limits are within theirs.
use Rattle.csi_types.specs.declared.call.Call.{Call}
use Rattle.csi_types.specs.declared.call.Call.TheVariants.{CreateVolume, DeleteVolume, ControllerPublishVolume, ControllerUnpublishVolume, NodeStageVolume, NodeUnstageVolume, NodePublishVolume, NodeUnpublishVolume}
use Rattle.csi_types.specs.Public.Lent.{HasFitTexts}
use Rattle.csi_types.specs.Public.Limits.{IsCall}

-- as the limits of each call say
pub fit-texts : (call : Call) → IsCall call → HasFitTexts call
fit-texts (CreateVolume name required limit capabilities) fits = fits.0
fit-texts (DeleteVolume id) fits = tt
fit-texts (ControllerPublishVolume id node c readonly) fits = (fits.1, fits.2)
fit-texts (ControllerUnpublishVolume id node) fits = fits.1
fit-texts (NodeStageVolume id c) fits = fits.1
fit-texts (NodeUnstageVolume id) fits = tt
fit-texts (NodePublishVolume id target c readonly) fits = (fits.1, fits.2)
fit-texts (NodeUnpublishVolume id target) fits = fits.1
