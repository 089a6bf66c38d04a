-- How a body is read, from left to right: what the decoder's functions answer. It is joined to the spelling and to the grammar in
-- proofs/.
use Rattle.std.specs.Prelude.{ℕ, zero, suc, ◌+◌, ◌-◌, ◌==◌, ◌&&◌, nat_lt, nat_le, Bool, false, not, if◌then◌else◌, List, [], ◌∷◌, length, take, drop, Option, Some, None, Result, Ok, Err}
use Rattle.std.specs.Str.{is_utf8}
use Rattle.byteorder.specs.Endian.{big_number}
use Rattle.csi_types.specs.declared.number.Number.{Number}
use Rattle.csi_types.specs.declared.mode.Mode.{Mode}
use Rattle.csi_types.specs.declared.capability.Access.{Access}
use Rattle.csi_types.specs.declared.capability.Access.TheVariants.{Block, Mount}
use Rattle.csi_types.specs.declared.capability.Capability.{Capability}
use Rattle.csi_types.specs.declared.status.Status.{Status}
use Rattle.csi_types.specs.declared.call.Kind.{Kind}
use Rattle.csi_types.specs.declared.call.Kind.TheVariants as kinds
use Rattle.csi_types.specs.declared.call.Party.{Party}
use Rattle.csi_types.specs.declared.call.Party.TheVariants.{Controller, Node}
use Rattle.csi_types.specs.declared.call.Call.{Call}
use Rattle.csi_types.specs.declared.call.Call.TheVariants as calls
use Rattle.csi_types.specs.declared.reply.Reply.{Reply}
use Rattle.csi_types.specs.declared.frame.Body.{Body}
use Rattle.csi_types.specs.declared.frame.Body.TheVariants as bodies
use Rattle.csi_types.specs.Model.Frame.{Frame}
use Rattle.csi_frames.specs.declared.body.TheConstants.{MAX_BODY}
use Rattle.csi_frames.specs.declared.fault.FaultKind.{FaultKind}
use Rattle.csi_frames.specs.declared.fault.FaultKind.TheVariants.{Short, TooLong, BadVersion, BadKind, BadParty, BadText, BadMode, BadAccess, BadFlag, BadStatus, BadId, BadCount, LengthDiffers}
use Rattle.csi_frames.specs.declared.fault.FrameFault.{FrameFault}
use Rattle.csi_frames.specs.declared.body_kind.BodyKind.{BodyKind}
use Rattle.csi_frames.specs.declared.body_kind.BodyKind.TheVariants as body_kinds
use Rattle.csi_frames.specs.declared.fields.FieldStop.{FieldStop}
use Rattle.csi_frames.specs.declared.version.Version.{Version}
use Rattle.csi_frames.specs.Public.Version.{is_new_mode, owes_new_mode}
use Rattle.csi_frames.specs.Public.Codes.{is_version, version_of, is_mode, mode_of, is_status, status_of, is_body_kind, body_kind_of}
use Rattle.csi_frames.specs.Public.Grammar.{any, at_most, is_count, is_reply_id, is_party_number}

-- a value and the bytes after it, or where reading stopped
abbrev pub Reader : Type 0 → Type 0
Reader A = List ℕ → Result (A × List ℕ) FieldStop

-- where a value was read, reading goes on with the next reader
abbrev pub go_on : {A B : Type 0} → Result (A × List ℕ) FieldStop → (A → Reader B) → Result (B × List ℕ) FieldStop
go_on (Ok read) next = next read.0 read.1
go_on (Err stop) next = Err stop

infixl 10 ◌>>=◌
-- one reader, and then the one for its value
abbrev pub ◌>>=◌ : {A B : Type 0} → Reader A → (A → Reader B) → Reader B
(reader >>= next) bytes = go_on (reader bytes) next

-- a reader that takes no bytes and gives this value
abbrev pub give : {A : Type 0} → A → Reader A
give value bytes = Ok (value, bytes)

-- the fault of the field that begins these bytes
abbrev pub stopped_at_field : {A : Type 0} → FaultKind → List ℕ → Result A FieldStop
stopped_at_field kind bytes = Err (record { kind = kind; left = length bytes })

-- ---- fields

-- an allowed byte
unfoldable pub byte_at : (ℕ → Bool) → FaultKind → Reader ℕ
byte_at allowed fault [] = stopped_at_field LengthDiffers []
byte_at allowed fault (b ∷ bytes) = if allowed b then Ok (b, bytes) else stopped_at_field fault (b ∷ bytes)

-- an allowed number in eight bytes
unfoldable pub word_at : (ℕ → Bool) → Reader ℕ
word_at allowed bytes =
    if nat_lt (length bytes) 8 then stopped_at_field LengthDiffers bytes
    else if allowed (big_number 8 bytes) then Ok (big_number 8 bytes, drop 8 bytes)
    else stopped_at_field BadId bytes

-- a text of no fewer and no more bytes than so many, behind its length in one byte
unfoldable pub text_at : ℕ → ℕ → Reader (List ℕ)
text_at least most [] = stopped_at_field LengthDiffers []
text_at least most (n ∷ bytes) =
    if not (nat_le least n && nat_le n most) then stopped_at_field BadText (n ∷ bytes)
    else if nat_lt (length bytes) n then stopped_at_field LengthDiffers (n ∷ bytes)
    else if is_utf8 (take n bytes) then Ok (take n bytes, drop n bytes)
    else stopped_at_field BadText (n ∷ bytes)

-- a volume's id
unfoldable pub id_at : Reader ℕ
id_at = word_at (nat_lt 0)

-- a flag
unfoldable pub flag_at : Reader Bool
flag_at = do
  b ← byte_at (at_most 1) BadFlag
  give (b == 1)

-- an access, with a file system where it is mounted
unfoldable pub access_at : Reader Access
access_at = do
  b ← byte_at (at_most 1) BadAccess
  if b == 0 then give Block else do
    fs_type ← text_at 0 128
    give (Mount fs_type)

-- a mode that the version has, and a new one where it is owed
unfoldable pub mode_at : Version → Bool → Reader Mode
mode_at version owed = do
  b ← byte_at (is_mode version owed) BadMode
  give (mode_of b)

-- a capability, in a new mode where one is owed
unfoldable pub owed_capability_at : Version → Bool → Reader Capability
owed_capability_at version owed = do
  access ← access_at
  mode ← mode_at version owed
  give (record { access = access; mode = mode })

-- a capability in any mode that the version has
unfoldable pub capability_at : Version → Reader Capability
capability_at version = owed_capability_at version false

-- so many; a new mode that is owed is that of the last one, where no earlier one is in such a mode
unfoldable pub capabilities_at : Version → Bool → ℕ → Reader (List Capability)
capabilities_at version owed zero = give []
capabilities_at version owed (suc n) = do
  first ← owed_capability_at version (owed && (n == 0))
  others ← capabilities_at version (owed && not (is_new_mode first.mode)) n
  give (first ∷ others)

-- ---- calls and replies

-- a CreateVolume
unfoldable pub create_at : Version → Reader Call
create_at version = do
  name ← text_at 1 128
  required ← word_at any
  limit ← word_at any
  count ← byte_at (is_count version) BadCount
  capabilities ← capabilities_at version (owes_new_mode version) count
  give (calls.CreateVolume name required limit capabilities)

-- the fields of the other calls: an id; an id and a text, of a node or a target; an id and how the volume is to be used;
-- and all of these
unfoldable pub id_alone_at : (ℕ → Call) → Reader Call
id_alone_at make = do
  id ← id_at
  give (make id)

-- a call of an id and a text
unfoldable pub id_and_text_at : (ℕ → List ℕ → Call) → Reader Call
id_and_text_at make = do
  id ← id_at
  text ← text_at 1 255
  give (make id text)

-- a NodeStageVolume
unfoldable pub stage_at : Version → Reader Call
stage_at version = do
  id ← id_at
  capability ← owed_capability_at version (owes_new_mode version)
  give (calls.NodeStageVolume id capability)

-- a call of an id, a text, a capability and a flag
unfoldable pub publish_at : Version → (ℕ → List ℕ → Capability → Bool → Call) → Reader Call
publish_at version make = do
  id ← id_at
  text ← text_at 1 255
  capability ← owed_capability_at version (owes_new_mode version)
  readonly ← flag_at
  give (make id text capability readonly)

-- a call of this kind
unfoldable pub call_at : Version → Kind → Reader Call
call_at version kinds.CreateVolume = create_at version
call_at version kinds.DeleteVolume = id_alone_at (λ id. calls.DeleteVolume id)
call_at version kinds.ControllerPublishVolume = publish_at version (λ id node capability readonly. calls.ControllerPublishVolume id node capability readonly)
call_at version kinds.ControllerUnpublishVolume = id_and_text_at (λ id node. calls.ControllerUnpublishVolume id node)
call_at version kinds.NodeStageVolume = stage_at version
call_at version kinds.NodeUnstageVolume = id_alone_at (λ id. calls.NodeUnstageVolume id)
call_at version kinds.NodePublishVolume = publish_at version (λ id target capability readonly. calls.NodePublishVolume id target capability readonly)
call_at version kinds.NodeUnpublishVolume = id_and_text_at (λ id target. calls.NodeUnpublishVolume id target)

-- 0 stands for no id
abbrev pub reply_id_of : ℕ → Option ℕ
reply_id_of n = if n == 0 then None else Some n

-- a status
unfoldable pub status_at : Reader Status
status_at = do
  b ← byte_at is_status BadStatus
  give (status_of b)

-- the id of a reply, which is there exactly where kind and status say so
unfoldable pub reply_id_at : Kind → Status → Reader (Option ℕ)
reply_id_at kind status = do
  n ← word_at (is_reply_id kind status)
  give (reply_id_of n)

-- a reply to a call of this kind
unfoldable pub reply_at : Kind → Reader Reply
reply_at kind = do
  status ← status_at
  id ← reply_id_at kind status
  detail ← text_at 0 255
  give (record { status = status; id = id; detail = detail })

-- a body of this kind
unfoldable pub fields_at : Version → BodyKind → Reader Body
fields_at version (body_kinds.Call kind) = do
  call ← call_at version kind
  give (bodies.Call call)
fields_at version (body_kinds.Reply kind) = do
  reply ← reply_at kind
  give (bodies.Reply kind reply)

-- ---- a body

-- the party of a body of this kind
unfoldable pub party_at : BodyKind → Reader Party
party_at kind = do
  b ← byte_at (is_party_number kind) BadParty
  if b == 0 then give Controller else do
    id ← text_at 1 255
    give (Node id)

-- a call's number
unfoldable pub number_at : Reader Number
number_at = do
  session ← word_at any
  call ← word_at any
  give (record { session = session; call = call })

-- the version
unfoldable pub version_at : Reader Version
version_at = do
  b ← byte_at is_version BadVersion
  give (version_of b)

-- a kind of body that the version has
unfoldable pub kind_at : Version → Reader BodyKind
kind_at version = do
  b ← byte_at (is_body_kind version) BadKind
  give (body_kind_of b)

-- a frame's body
unfoldable pub frame_at : Reader Frame
frame_at = do
  version ← version_at
  kind ← kind_at version
  number ← number_at
  party ← party_at kind
  body ← fields_at version kind
  give (record { number = number; party = party; body = body })

-- all of the bytes
abbrev pub whole_frame : Result (Frame × List ℕ) FieldStop → Result Frame FieldStop
whole_frame (Ok (frame, [])) = Ok frame
whole_frame (Ok (frame, b ∷ bytes)) = stopped_at_field LengthDiffers (b ∷ bytes)
whole_frame (Err stop) = Err stop

-- ---- a frame at the front of bytes, with the count of its bytes, or the first fault

-- this fault, at this place
abbrev pub fault : {A : Type 0} → FaultKind → ℕ → Result A FrameFault
fault kind place = Err (record { kind = kind; place = place })

-- a frame with the count of its bytes, or the fault with its place counted from the front
abbrev pub placed_frame : ℕ → Result Frame FieldStop → Result (Frame × ℕ) FrameFault
placed_frame size (Ok frame) = Ok (frame, size)
placed_frame size (Err stop) = fault stop.kind (size - stop.left)

-- the frame at the front of these bytes with the count of its bytes, or the fault there
unfoldable pub first_frame : List ℕ → Result (Frame × ℕ) FrameFault
first_frame bytes =
    if nat_lt (length bytes) 4 then fault Short (length bytes)
    else if nat_lt MAX_BODY (big_number 4 bytes) then fault TooLong 0
    else if nat_lt (length bytes) (4 + big_number 4 bytes) then fault Short (length bytes)
    else placed_frame (4 + big_number 4 bytes) (whole_frame (frame_at (take (big_number 4 bytes) (drop 4 bytes))))
