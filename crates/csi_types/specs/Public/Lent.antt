-- What a lent call stands for: the call that has copies of its texts.
use Rattle.std.specs.Prelude.{◌≡◌, ◌<◌, List, [], length}
use Rattle.csi_types.specs.declared.capability.Access.{Access}
use Rattle.csi_types.specs.declared.capability.Access.TheVariants as accesses
use Rattle.csi_types.specs.declared.capability.Capability.{Capability}
use Rattle.csi_types.specs.declared.call.Call.{Call}
use Rattle.csi_types.specs.declared.call.Call.TheVariants as calls
use Rattle.csi_types.specs.Public.Limits.{IsAccess}
use Rattle.csi_types.specs.Public.Listed.{listed}
use Rattle.csi_types.specs.Public.Text.{IsName, IsNodeId, IsTarget}
use Rattle.csi_types.specs.declared.lent.AccessRef.{AccessRef}
use Rattle.csi_types.specs.declared.lent.AccessRef.TheVariants.{Block, Mount}
use Rattle.csi_types.specs.declared.lent.CapabilityRef.{CapabilityRef}
use Rattle.csi_types.specs.declared.lent.CapabilitiesRef.{CapabilitiesRef}
use Rattle.csi_types.specs.declared.lent.CapabilitiesRef.TheVariants.{Lent, Spelled}
use Rattle.csi_types.specs.declared.lent.CallRef.{CallRef}
use Rattle.csi_types.specs.declared.lent.CallRef.TheVariants.{CreateVolume, DeleteVolume, ControllerPublishVolume, ControllerUnpublishVolume, NodeStageVolume, NodeUnstageVolume, NodePublishVolume, NodeUnpublishVolume}

-- the access that a lent one stands for
abbrev pub lent_access : AccessRef → Access
lent_access Block = accesses.Block
lent_access (Mount fs_type) = accesses.Mount fs_type.now

-- the capability that a lent one stands for
abbrev pub lent_capability : CapabilityRef → Capability
lent_capability c = record { access = lent_access c.access; mode = c.mode }

-- the list of lent capabilities
abbrev pub lent_capabilities : CapabilitiesRef → List Capability
lent_capabilities (Lent list) = list.now
lent_capabilities (Spelled list) = listed list

-- the call that a lent one stands for
abbrev pub lent_call : CallRef → Call
lent_call (CreateVolume name required limit capabilities) = calls.CreateVolume name.now required limit (lent_capabilities capabilities)
lent_call (DeleteVolume id) = calls.DeleteVolume id.number
lent_call (ControllerPublishVolume id node c readonly) = calls.ControllerPublishVolume id.number node.now (lent_capability c) readonly
lent_call (ControllerUnpublishVolume id node) = calls.ControllerUnpublishVolume id.number node.now
lent_call (NodeStageVolume id c) = calls.NodeStageVolume id.number (lent_capability c)
lent_call (NodeUnstageVolume id) = calls.NodeUnstageVolume id.number
lent_call (NodePublishVolume id target c readonly) = calls.NodePublishVolume id.number target.now (lent_capability c) readonly
lent_call (NodeUnpublishVolume id target) = calls.NodeUnpublishVolume id.number target.now

-- the type of its file system has too many bytes for an `FsType`
abbrev pub IsTooLong : AccessRef → Type 0
IsTooLong Block = ⊥
IsTooLong (Mount fs_type) = 128 < length fs_type.now

-- it has no text, or an empty one
abbrev pub HasNoText : AccessRef → Type 0
HasNoText Block = Unit {0}
HasNoText (Mount fs_type) = fs_type.now ≡ []

-- its texts are within their limits, as all of them are that have a type
abbrev pub HasFitTexts : Call → Type 0
HasFitTexts (calls.CreateVolume name required limit capabilities) = IsName name
HasFitTexts (calls.DeleteVolume id) = Unit {0}
HasFitTexts (calls.ControllerPublishVolume id node c readonly) = IsNodeId node × IsAccess c.access
HasFitTexts (calls.ControllerUnpublishVolume id node) = IsNodeId node
HasFitTexts (calls.NodeStageVolume id c) = IsAccess c.access
HasFitTexts (calls.NodeUnstageVolume id) = Unit {0}
HasFitTexts (calls.NodePublishVolume id target c readonly) = IsTarget target × IsAccess c.access
HasFitTexts (calls.NodeUnpublishVolume id target) = IsTarget target
