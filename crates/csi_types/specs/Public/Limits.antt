-- The limits within which the parts of a frame lie. This profile's own, but that a volume has capabilities
-- and a capacity range (CSI's spec.md, "CreateVolume").
use Rattle.std.specs.Prelude.{ℕ, ◌<◌, ◌≤◌, ◌^◌, List, length, IfSome}
use Rattle.std.specs.List.{AllByRecursion}
use Rattle.csi_types.specs.declared.number.Number.{Number}
use Rattle.csi_types.specs.declared.capability.Access.{Access}
use Rattle.csi_types.specs.declared.capability.Access.TheVariants.{Block, Mount}
use Rattle.csi_types.specs.declared.capability.Capability.{Capability}
use Rattle.csi_types.specs.declared.call.Party.{Party}
use Rattle.csi_types.specs.declared.call.Party.TheVariants.{Controller, Node}
use Rattle.csi_types.specs.declared.call.Call.{Call}
use Rattle.csi_types.specs.declared.call.Call.TheVariants as calls
use Rattle.csi_types.specs.declared.reply.Reply.{Reply}
use Rattle.csi_types.specs.declared.frame.Body.{Body}
use Rattle.csi_types.specs.declared.frame.Body.TheVariants as bodies
use Rattle.csi_types.specs.Public.Text.{IsName, IsFsType, IsNodeId, IsTarget, IsDetail}
use Rattle.csi_types.specs.Public.VolumeId.{IsVolumeId}
use Rattle.csi_types.specs.Model.Frame.{Frame}
use Rattle.csi_types.specs.Public.Frame.{IsAllowed}

-- what fits a number of 64 bits
abbrev pub IsWord : ℕ → Type 0
IsWord n = n < 2 ^ 64

-- a call's number is two of 64 bits
pub record IsNumber (number : Number) : Type 0 where
  pub session_fits : IsWord number.session
  pub call_fits : IsWord number.call

-- a mounted volume's file system is a text within its limits
abbrev pub IsAccess : Access → Type 0
IsAccess Block = Unit {0}
IsAccess (Mount fs_type) = IsFsType fs_type

-- and so is that of a capability
abbrev pub IsCapability : Capability → Type 0
IsCapability capability = IsAccess capability.access

-- at most eight of them
abbrev pub IsCapabilityList : List Capability → Type 0
IsCapabilityList capabilities = (length capabilities ≤ 8) × AllByRecursion IsCapability capabilities

-- a node's id is a text within its limits
abbrev pub IsParty : Party → Type 0
IsParty Controller = Unit {0}
IsParty (Node id) = IsNodeId id

-- each part of a call is within its limits
abbrev pub IsCall : Call → Type 0
IsCall (calls.CreateVolume name required limit capabilities) = IsName name × IsWord required × IsWord limit × IsCapabilityList capabilities
IsCall (calls.DeleteVolume id) = IsVolumeId id
IsCall (calls.ControllerPublishVolume id node capability readonly) = IsVolumeId id × IsNodeId node × IsCapability capability
IsCall (calls.ControllerUnpublishVolume id node) = IsVolumeId id × IsNodeId node
IsCall (calls.NodeStageVolume id capability) = IsVolumeId id × IsCapability capability
IsCall (calls.NodeUnstageVolume id) = IsVolumeId id
IsCall (calls.NodePublishVolume id target capability readonly) = IsVolumeId id × IsTarget target × IsCapability capability
IsCall (calls.NodeUnpublishVolume id target) = IsVolumeId id × IsTarget target

-- an id, if there is one, and the detail are within theirs
pub record IsReply (reply : Reply) : Type 0 where
  pub id_fits : IfSome reply.id IsVolumeId
  pub detail_fits : IsDetail reply.detail

-- so is each part of a call or of a reply
abbrev pub IsBody : Body → Type 0
IsBody (bodies.Call call) = IsCall call
IsBody (bodies.Reply kind reply) = IsReply reply

-- each part is within its limits, and they go together
pub record IsFrame (frame : Frame) : Type 0 where
  pub number_fits : IsNumber frame.number
  pub party_fits : IsParty frame.party
  pub body_fits : IsBody frame.body
  pub allowed : IsAllowed frame.party frame.body
