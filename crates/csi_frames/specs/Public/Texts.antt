-- The texts of a frame.
use Rattle.std.specs.Prelude.{◌≡◌, ℕ, List, [], ◌∷◌}
use Rattle.std.specs.List.{flat_map, AllByRecursion}
use Rattle.csi_types.specs.declared.capability.Access.{Access}
use Rattle.csi_types.specs.declared.capability.Access.TheVariants.{Block, Mount}
use Rattle.csi_types.specs.declared.capability.Capability.{Capability}
use Rattle.csi_types.specs.declared.call.Party.{Party}
use Rattle.csi_types.specs.declared.call.Party.TheVariants.{Controller, Node}
use Rattle.csi_types.specs.declared.call.Call.{Call}
use Rattle.csi_types.specs.declared.call.Call.TheVariants as calls
use Rattle.csi_types.specs.declared.frame.Body.{Body}
use Rattle.csi_types.specs.declared.frame.Body.TheVariants as bodies
use Rattle.csi_types.specs.Model.Frame.{Frame}

-- a node's id
abbrev pub party_texts : Party → List (List ℕ)
party_texts Controller = []
party_texts (Node id) = id ∷ []

-- the file system of a mounted volume
abbrev pub access_texts : Access → List (List ℕ)
access_texts Block = []
access_texts (Mount fs_type) = fs_type ∷ []

-- that of a capability
abbrev pub capability_texts : Capability → List (List ℕ)
capability_texts c = access_texts c.access

-- all texts of a call
abbrev pub call_texts : Call → List (List ℕ)
call_texts (calls.CreateVolume name required limit capabilities) = name ∷ flat_map capability_texts capabilities
call_texts (calls.DeleteVolume id) = []
call_texts (calls.ControllerPublishVolume id node c readonly) = node ∷ capability_texts c
call_texts (calls.ControllerUnpublishVolume id node) = node ∷ []
call_texts (calls.NodeStageVolume id c) = capability_texts c
call_texts (calls.NodeUnstageVolume id) = []
call_texts (calls.NodePublishVolume id target c readonly) = target ∷ capability_texts c
call_texts (calls.NodeUnpublishVolume id target) = target ∷ []

-- all texts of a body, a reply's being its detail
abbrev pub body_texts : Body → List (List ℕ)
body_texts (bodies.Call call) = call_texts call
body_texts (bodies.Reply kind reply) = reply.detail ∷ []

-- no text has a byte
abbrev pub AreEmpty : List (List ℕ) → Type 0
AreEmpty texts = AllByRecursion (λ t. t ≡ []) texts

-- each text of the frame is empty or absent, so that a copy of it takes no memory
pub record IsTextless (frame : Frame) : Type 0 where
  pub of_party : AreEmpty (party_texts frame.party)
  pub of_body : AreEmpty (body_texts frame.body)
