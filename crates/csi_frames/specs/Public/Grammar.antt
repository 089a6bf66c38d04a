-- The fields of a body, one after another. Which field comes next may depend on the values before it. This
-- profile's own.
use Rattle.std.specs.Prelude.{◌≡◌, ℕ, zero, suc, ◌==◌, ◌&&◌, nat_lt, nat_le, Bool, true, not, if◌then◌else◌, List, [], ◌∷◌, ◌++◌, length, take, Option, Some, None}
use Rattle.std.specs.Str.{is_utf8}
use Rattle.byteorder.specs.Endian.{big_number}
use Rattle.csi_types.specs.declared.mode.Mode.{Mode}
use Rattle.csi_types.specs.declared.status.Status.{Status}
use Rattle.csi_types.specs.declared.call.Kind.{Kind}
use Rattle.csi_types.specs.declared.call.Kind.TheVariants as kinds
use Rattle.csi_types.specs.Public.Call.{is_node_kind}
use Rattle.csi_types.specs.Public.Reply.{is_create}
use Rattle.csi_types.specs.Model.Reply.{is_ok_status}
use Rattle.csi_frames.specs.declared.version.Version.{Version}
use Rattle.csi_frames.specs.Public.Version.{is_new_mode, least_count, owes_new_mode}
use Rattle.csi_frames.specs.Public.Codes.{is_version, version_of, is_mode, mode_of, is_status, status_of, kind_in, is_body_kind, body_kind_of}
use Rattle.csi_frames.specs.declared.body_kind.BodyKind.{BodyKind}
use Rattle.csi_frames.specs.declared.body_kind.BodyKind.TheVariants.{Call, Reply}
use Rattle.csi_frames.specs.declared.fault.FaultKind.{FaultKind}
use Rattle.csi_frames.specs.declared.fault.FaultKind.TheVariants.{BadVersion, BadKind, BadParty, BadText, BadMode, BadAccess, BadFlag, BadStatus, BadId, BadCount, LengthDiffers}

-- Nothing more, or a field and what comes after each of its values. A byte has a fault of its own for a
-- value that isn't allowed. A word has eight bytes, the fault of one that isn't allowed is BadId. A text has a
-- length byte, and that many bytes of UTF-8, no fewer and no more than so many.
pub data Grammar : Type 0 where
  End : Grammar
  Byte : (allowed : ℕ → Bool) (fault : FaultKind) (next : ℕ → Grammar) → Grammar
  Word : (allowed : ℕ → Bool) (next : ℕ → Grammar) → Grammar
  Text : (least most : ℕ) (next : List ℕ → Grammar) → Grammar

-- any number is allowed
abbrev pub any : ℕ → Bool
any n = true

-- those up to so many are
abbrev pub at_most : ℕ → ℕ → Bool
at_most most n = nat_le n most

-- those from one number to another are
abbrev pub from_to : ℕ → ℕ → ℕ → Bool
from_to least most n = nat_le least n && nat_le n most

-- ---- capabilities: 0 for block, or 1 for mount and the fs type; and the mode, a new one where it is owed

-- a mode that the version has, where a new one is owed or isn't
abbrev pub mode_grammar : Version → Bool → (Mode → Grammar) → Grammar
mode_grammar version owed next = Byte (is_mode version owed) BadMode (λ b. next (mode_of b))

-- a capability: its access, with a file system where it is mounted, and its mode
abbrev pub capability_grammar : Version → Bool → (Mode → Grammar) → Grammar
capability_grammar version owed next =
    Byte (at_most 1) BadAccess (λ access. if access == 0 then mode_grammar version owed next else Text 0 128 (λ _. mode_grammar version owed next))

-- so many; a new mode that is owed is that of the last one, where no earlier one is in such a mode
abbrev pub capabilities_grammar : Version → Bool → ℕ → Grammar
capabilities_grammar version owed zero = End
capabilities_grammar version owed (suc n) =
    capability_grammar version (owed && (n == 0)) (λ mode. capabilities_grammar version (owed && not (is_new_mode mode)) n)

-- ---- calls and replies

-- in a call an id isn't 0
abbrev pub id_grammar : Grammar → Grammar
id_grammar next = Word (nat_lt 0) (λ _. next)

-- a flag
abbrev pub flag_grammar : Grammar
flag_grammar = Byte (at_most 1) BadFlag (λ _. End)

-- the count of a CreateVolume's capabilities
abbrev pub is_count : Version → ℕ → Bool
is_count version n = from_to (least_count version) 8 n

-- the fields of a call of this kind
unfoldable pub call_grammar : Version → Kind → Grammar
call_grammar version kinds.CreateVolume =
    Text 1 128 (λ _. Word any (λ _. Word any (λ _. Byte (is_count version) BadCount (capabilities_grammar version (owes_new_mode version)))))
call_grammar version kinds.DeleteVolume = id_grammar End
call_grammar version kinds.ControllerPublishVolume = id_grammar (Text 1 255 (λ _. capability_grammar version (owes_new_mode version) (λ _. flag_grammar)))
call_grammar version kinds.ControllerUnpublishVolume = id_grammar (Text 1 255 (λ _. End))
call_grammar version kinds.NodeStageVolume = id_grammar (capability_grammar version (owes_new_mode version) (λ _. End))
call_grammar version kinds.NodeUnstageVolume = id_grammar End
call_grammar version kinds.NodePublishVolume = id_grammar (Text 1 255 (λ _. capability_grammar version (owes_new_mode version) (λ _. flag_grammar)))
call_grammar version kinds.NodeUnpublishVolume = id_grammar (Text 1 255 (λ _. End))

-- in a reply the id isn't 0 exactly where the kind is CreateVolume and the status is Ok
abbrev pub is_reply_id : Kind → Status → ℕ → Bool
is_reply_id kind status id = if is_create kind && is_ok_status status then nat_lt 0 id else id == 0

-- the fields of a reply to a call of this kind
unfoldable pub reply_grammar : Kind → Grammar
reply_grammar kind =
    Byte is_status BadStatus (λ status. Word (is_reply_id kind (status_of status)) (λ _. Text 0 255 (λ _. End)))

-- the fields of a body of this kind
abbrev pub fields_grammar : Version → BodyKind → Grammar
fields_grammar version (Call kind) = call_grammar version kind
fields_grammar version (Reply kind) = reply_grammar kind

-- ---- the party: 0 for the controller's kinds, and 1 and the node's id for a node's

-- the byte of the party that a kind's calls are for
abbrev pub party_number : Kind → ℕ
party_number kind = if is_node_kind kind then 1 else 0

-- the byte is that of the body's kind
abbrev pub is_party_number : BodyKind → ℕ → Bool
is_party_number kind n = n == party_number (kind_in kind)

-- the party, with the node's id where it is a node, and the fields
abbrev pub party_grammar : Version → BodyKind → Grammar
party_grammar version kind =
    Byte (is_party_number kind) BadParty (λ n. if n == 0 then fields_grammar version kind else Text 1 255 (λ _. fields_grammar version kind))

-- ---- a body: the version, the kind, the session and the call, the party, and the kind's fields

-- the call's number, in two of 64 bits, and what follows
abbrev pub numbered_grammar : Version → BodyKind → Grammar
numbered_grammar version kind = Word any (λ _. Word any (λ _. party_grammar version kind))

-- the kind of the body, and what follows
abbrev pub kind_grammar : Version → Grammar
kind_grammar version = Byte (is_body_kind version) BadKind (λ kind. numbered_grammar version (body_kind_of kind))

-- a whole body, the version first
unfoldable pub body_grammar : Grammar
body_grammar = Byte is_version BadVersion (λ version. kind_grammar (version_of version))

-- ---- what bytes do in a grammar

-- The bytes are values of the first fields, each allowed, one after another; after them comes the rest.
pub data Leads : Grammar → List ℕ → Grammar → Type 0 where
  nothing : (g : Grammar) → Leads g [] g
  byte : (allowed : ℕ → Bool) (fault : FaultKind) (next : ℕ → Grammar) (b : ℕ) (more : List ℕ) (rest : Grammar) → allowed b ≡ true → Leads (next b) more rest → Leads (Byte allowed fault next) (b ∷ more) rest
  word : (allowed : ℕ → Bool) (next : ℕ → Grammar) (eight more : List ℕ) (rest : Grammar) → length eight ≡ 8 → allowed (big_number 8 eight) ≡ true → Leads (next (big_number 8 eight)) more rest → Leads (Word allowed next) (eight ++ more) rest
  text : (least most : ℕ) (next : List ℕ → Grammar) (bytes more : List ℕ) (rest : Grammar) → nat_le least (length bytes) ≡ true → nat_le (length bytes) most ≡ true → is_utf8 bytes ≡ true → Leads (next bytes) more rest → Leads (Text least most next) (length bytes ∷ bytes ++ more) rest

-- Why no allowed value of the first field begins these bytes; none where one does. Of a text the length byte
-- is judged first, then whether its bytes are there, then whether they are UTF-8.
abbrev pub refusal : Grammar → List ℕ → Option FaultKind
refusal End [] = None
refusal End (b ∷ bytes) = Some LengthDiffers
refusal (Byte allowed fault next) [] = Some LengthDiffers
refusal (Byte allowed fault next) (b ∷ bytes) = if allowed b then None else Some fault
refusal (Word allowed next) bytes =
    if nat_lt (length bytes) 8 then Some LengthDiffers
    else if allowed (big_number 8 bytes) then None
    else Some BadId
refusal (Text least most next) [] = Some LengthDiffers
refusal (Text least most next) (n ∷ bytes) =
    if not (nat_le least n && nat_le n most) then Some BadText
    else if nat_lt (length bytes) n then Some LengthDiffers
    else if is_utf8 (take n bytes) then None
    else Some BadText
