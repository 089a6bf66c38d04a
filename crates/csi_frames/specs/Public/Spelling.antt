-- The spelling of a frame: a length of four bytes, and a body of that many bytes. Numbers have the greatest
-- byte first. This profile's own; each value has one spelling.
use Rattle.std.specs.Prelude.{◌≡◌, ℕ, ◌+◌, ◌≤◌, Bool, if◌then◌else◌, List, [], ◌∷◌, ◌++◌, length, take, Option, Some, None}
use Rattle.std.specs.List.{flat_map, list_any}
use Rattle.byteorder.specs.Endian.{big_bytes}
use Rattle.csi_types.specs.declared.capability.Access.{Access}
use Rattle.csi_types.specs.declared.capability.Access.TheVariants.{Block, Mount}
use Rattle.csi_types.specs.declared.capability.Capability.{Capability}
use Rattle.csi_types.specs.declared.call.Party.{Party}
use Rattle.csi_types.specs.declared.call.Party.TheVariants.{Controller, Node}
use Rattle.csi_types.specs.declared.call.Call.{Call}
use Rattle.csi_types.specs.declared.call.Call.TheVariants as calls
use Rattle.csi_types.specs.declared.reply.Reply.{Reply}
use Rattle.csi_types.specs.declared.frame.Body.{Body}
use Rattle.csi_types.specs.declared.frame.Body.TheVariants as bodies
use Rattle.csi_types.specs.Model.Mode.{mode_number}
use Rattle.csi_types.specs.Public.Status.{status_code}
use Rattle.csi_types.specs.Model.Call.{kind_of}
use Rattle.csi_types.specs.Model.Same.{kind_number}
use Rattle.csi_types.specs.Model.Frame.{Frame}
use Rattle.csi_types.specs.Public.Limits.{IsFrame}
use Rattle.csi_frames.specs.declared.version.Version.{Version}
use Rattle.csi_frames.specs.declared.version.Version.TheVariants.{One}
use Rattle.csi_frames.specs.Public.Version.{version_number, version_with, is_new_mode}

-- a number of 64 bits
abbrev pub word : ℕ → List ℕ
word n = big_bytes 8 n

-- a length byte, and that many bytes
abbrev pub text : List ℕ → List ℕ
text bytes = length bytes ∷ bytes

-- 1 is readonly
abbrev pub flag : Bool → List ℕ
flag readonly = (if readonly then 1 else 0) ∷ []

-- a byte for the access, and the file system where it is mounted
abbrev pub access : Access → List ℕ
access Block = 0 ∷ []
access (Mount fs_type) = 1 ∷ text fs_type

-- its access and its mode
abbrev pub capability : Capability → List ℕ
capability c = access c.access ++ mode_number c.mode ∷ []

-- a byte for the party, and the node's id
abbrev pub party : Party → List ℕ
party Controller = 0 ∷ []
party (Node id) = 1 ∷ text id

-- an id, or 0 where a reply has none
abbrev pub reply_id : Option ℕ → List ℕ
reply_id None = word 0
reply_id (Some id) = word id

-- a call has its kind's number, and a reply that number and 128
abbrev pub body_kind : Body → ℕ
body_kind (bodies.Call call) = kind_number (kind_of call)
body_kind (bodies.Reply kind reply) = 128 + kind_number kind

-- the fields of a call
abbrev pub call_fields : Call → List ℕ
call_fields (calls.CreateVolume name required limit capabilities) = text name ++ word required ++ word limit ++ length capabilities ∷ flat_map capability capabilities
call_fields (calls.DeleteVolume id) = word id
call_fields (calls.ControllerPublishVolume id node c readonly) = word id ++ text node ++ capability c ++ flag readonly
call_fields (calls.ControllerUnpublishVolume id node) = word id ++ text node
call_fields (calls.NodeStageVolume id c) = word id ++ capability c
call_fields (calls.NodeUnstageVolume id) = word id
call_fields (calls.NodePublishVolume id target c readonly) = word id ++ text target ++ capability c ++ flag readonly
call_fields (calls.NodeUnpublishVolume id target) = word id ++ text target

-- a status, an id and a detail
abbrev pub reply_fields : Reply → List ℕ
reply_fields reply = status_code reply.status ∷ reply_id reply.id ++ text reply.detail

-- those of a call or of a reply
abbrev pub body_fields : Body → List ℕ
body_fields (bodies.Call call) = call_fields call
body_fields (bodies.Reply kind reply) = reply_fields reply

-- all capabilities of a call
abbrev pub call_capabilities : Call → List Capability
call_capabilities (calls.CreateVolume name required limit capabilities) = capabilities
call_capabilities (calls.DeleteVolume id) = []
call_capabilities (calls.ControllerPublishVolume id node c readonly) = c ∷ []
call_capabilities (calls.ControllerUnpublishVolume id node) = []
call_capabilities (calls.NodeStageVolume id c) = c ∷ []
call_capabilities (calls.NodeUnstageVolume id) = []
call_capabilities (calls.NodePublishVolume id target c readonly) = c ∷ []
call_capabilities (calls.NodeUnpublishVolume id target) = []

-- one of them is in a mode that the first version hasn't
abbrev pub has_new_mode : List Capability → Bool
has_new_mode capabilities = list_any (λ c. is_new_mode c.mode) capabilities

-- the version of a frame with this body: the second one exactly where a capability is in a mode that the first one hasn't
abbrev pub body_version : Body → Version
body_version (bodies.Call call) = version_with (has_new_mode (call_capabilities call))
body_version (bodies.Reply kind reply) = One

-- the version, the kind, the number, the party, and the kind's fields
unfoldable pub frame_body : Frame → List ℕ
frame_body frame = version_number (body_version frame.body) ∷ body_kind frame.body ∷ word frame.number.session ++ word frame.number.call ++ party frame.party ++ body_fields frame.body

-- a frame: the length of its body, and the body
unfoldable pub spelling : Frame → List ℕ
spelling frame = big_bytes 4 (length (frame_body frame)) ++ frame_body frame

-- the bytes are this frame's spelling, and all its parts are within their limits
pub record Spells (frame : Frame) (bytes : List ℕ) : Type 0 where
  pub fits : IsFrame frame
  pub are : bytes ≡ spelling frame

-- the first n bytes are this frame's spelling
pub record BeginsWith (bytes : List ℕ) (frame : Frame) (n : ℕ) : Type 0 where
  pub within : n ≤ length bytes
  pub spelled : Spells frame (take n bytes)
