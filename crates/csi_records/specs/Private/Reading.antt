-- How a value is read, from left to right, its fields as in frames: what the private functions that read answer. Who reads the
-- public contracts need not read this; it is joined to the spelling in proofs/.
use Rattle.std.specs.Prelude.{◌≡◌, ℕ, zero, suc, ◌==◌, nat_lt, Bool, true, false, if◌then◌else◌, List, [], ◌∷◌, length, take, drop, Option, Some, None, Result, Ok, Err}
use Rattle.byteorder.specs.Endian.{big_number}
use Rattle.csi_types.specs.declared.number.Number.{Number}
use Rattle.csi_types.specs.declared.capability.Capability.{Capability}
use Rattle.csi_types.specs.declared.status.Status.{Status}
use Rattle.csi_types.specs.declared.reply.Reply.{Reply}
use Rattle.csi_fence.specs.Model.Fence.{Kept}
use Rattle.csi_frames.specs.Public.Bytes.{AreBytes}
use Rattle.csi_frames.specs.declared.fault.FaultKind.TheVariants.{LengthDiffers, BadCount}
use Rattle.csi_frames.specs.declared.fields.FieldStop.{FieldStop}
use Rattle.csi_frames.specs.Public.Grammar.{any, at_most}
use Rattle.csi_frames.specs.Public.Kinds.{reply_kind_from}
use Rattle.csi_frames.specs.Public.Reading as frames
use Rattle.csi_records.specs.declared.version.RecordVersion.{RecordVersion}
use Rattle.csi_records.specs.Public.Version.{record_version_number, modes_of, has_session}
use Rattle.csi_records.specs.Private.Version.{record_version_from_number}
use Rattle.csi_controller.specs.declared.row.NodeHolding.{NodeHolding}
use Rattle.csi_node.specs.declared.row.NodeTarget.{NodeTarget}
use Rattle.csi_node.specs.Model.OneRow.{NodeRowShown}
use Rattle.csi_stores.specs.Public.Part.{StoredPart}
use Rattle.csi_records.specs.Public.Spelling.{VolumeRow}
use Rattle.csi_records.specs.Public.Records.{Head}

-- a value and the bytes after it, if one stands there
abbrev pub Reader : Type 0 → Type 0
Reader A = List ℕ → Option (A × List ℕ)

-- where a value was read, reading goes on with the next reader
abbrev pub go_on : {A B : Type 0} → Option (A × List ℕ) → (A → Reader B) → Option (B × List ℕ)
go_on (Some read) next = next read.0 read.1
go_on None next = None

infixl 10 ◌>>=◌
-- one reader, and then the one for its value
abbrev pub ◌>>=◌ : {A B : Type 0} → Reader A → (A → Reader B) → Reader B
(reader >>= next) bytes = go_on (reader bytes) next

-- a reader that takes no bytes and gives this value
abbrev pub give : {A : Type 0} → A → Reader A
give value bytes = Some (value, bytes)

-- a value, if there is one
abbrev pub or_none : {A : Type 0} → Option A → Reader A
or_none (Some value) bytes = Some (value, bytes)
or_none None bytes = None

-- a reader that takes nothing
abbrev pub nothing : {A : Type 0} → Reader A
nothing bytes = None

-- what a reader of frames takes, if it takes anything
abbrev pub taken : {A : Type 0} → Result (A × List ℕ) FieldStop → Option (A × List ℕ)
taken (Ok read) = Some read
taken (Err stop) = None

-- a reader of frames, whose faults aren't told apart
abbrev pub as_in_frames : {A : Type 0} → frames.Reader A → Reader A
as_in_frames read bytes = taken (read bytes)

-- ---- fields, as in frames

-- a byte
unfoldable pub read_byte : Reader ℕ
read_byte = as_in_frames (frames.byte_at any LengthDiffers)

-- a byte of at most so much
unfoldable pub read_count : ℕ → Reader ℕ
read_count most = as_in_frames (frames.byte_at (at_most most) BadCount)

-- a number of eight bytes
unfoldable pub read_word : Reader ℕ
read_word = as_in_frames (frames.word_at any)

-- a text of no fewer and no more bytes than so many
unfoldable pub read_text : ℕ → ℕ → Reader (List ℕ)
read_text least most = as_in_frames (frames.text_at least most)

-- a flag
unfoldable pub read_flag : Reader Bool
read_flag = as_in_frames frames.flag_at

-- a capability, in a mode that the version has
unfoldable pub read_capability : RecordVersion → Reader Capability
read_capability version = as_in_frames (frames.capability_at (modes_of version))

-- a status
unfoldable pub read_status : Reader Status
read_status = as_in_frames frames.status_at

-- a call's number
unfoldable pub read_number : Reader Number
read_number = as_in_frames frames.number_at

-- a byte that stands for a value
unfoldable pub read_code : {A : Type 0} → (ℕ → Option A) → Reader A
read_code value_of = do
  b ← read_byte
  or_none (value_of b)

-- 1 is live, 2 deleted
abbrev pub live_from : ℕ → Option Bool
live_from zero = None
live_from (suc zero) = Some true
live_from (suc (suc zero)) = Some false
live_from (suc (suc (suc n))) = None

-- 0 stands for no id
abbrev pub id_from : ℕ → Option ℕ
id_from zero = None
id_from (suc n) = Some (suc n)

-- ---- values

-- so many
unfoldable pub read_items : {A : Type 0} → Reader A → ℕ → Reader (List A)
read_items read zero = give []
read_items read (suc n) = do
  first ← read
  others ← read_items read n
  give (first ∷ others)

-- a count of at most so many, and as many
unfoldable pub read_counted : {A : Type 0} → ℕ → Reader A → Reader (List A)
read_counted most read = do
  count ← read_count most
  read_items read count

-- a node that a volume is attached to, and how
unfoldable pub read_holding : RecordVersion → Reader NodeHolding
read_holding version = do
  node ← read_text 1 255
  capability ← read_capability version
  readonly ← read_flag
  give (record { node = node; capability = capability; readonly = readonly })

-- a target that a volume is published at, and how
unfoldable pub read_target : Reader NodeTarget
read_target = do
  target ← read_text 1 255
  readonly ← read_flag
  give (record { target = target; readonly = readonly })

-- the id of a reply, if it has one
unfoldable pub read_reply_id : Reader (Option ℕ)
read_reply_id = do
  n ← read_word
  give (id_from n)

-- a reply
unfoldable pub read_reply : Reader Reply
read_reply = do
  status ← read_status
  id ← read_reply_id
  detail ← read_text 0 255
  give (record { status = status; id = id; detail = detail })

-- the last call that is kept: its number, its kind and its reply
unfoldable pub read_kept : Reader Kept
read_kept = do
  number ← read_number
  kind ← read_code reply_kind_from
  reply ← read_reply
  give (record { number = number; kind = kind; reply = reply })

-- how a volume is staged, if it is
unfoldable pub read_staged : RecordVersion → Reader (Option Capability)
read_staged version = do
  is_staged ← read_flag
  if is_staged then (do
    capability ← read_capability version
    give (Some capability)) else give None

-- ---- the values of parts, behind the version

-- a controller's row, for the volume of this id
unfoldable pub read_volume : RecordVersion → ℕ → Reader VolumeRow
read_volume version id = do
  is_live ← read_code live_from
  name ← read_text 1 128
  capacity ← read_word
  capabilities ← read_counted 8 (read_capability version)
  holdings ← read_counted 64 (read_holding version)
  kept ← read_kept
  give (record { volume = record { id = id; name = name; capacity = capacity; capabilities = capabilities; is_live = is_live; kept = kept }; holdings = holdings })

-- a node's row, for the volume of this id
unfoldable pub read_answered : RecordVersion → ℕ → Reader NodeRowShown
read_answered version id = do
  staged ← read_staged version
  targets ← read_counted 16 read_target
  kept ← read_kept
  give (record { id = id; staged = staged; targets = targets; kept = kept })

-- the byte of this number
unfoldable pub read_tag : ℕ → Reader (Unit {0})
read_tag n = read_code (λ b. if b == n then Some tt else None)

-- the greatest session that came, where the version has it
unfoldable pub read_session : RecordVersion → Reader (Option ℕ)
read_session version =
    if has_session version then (do
      session ← read_word
      give (Some session)) else give None

-- a controller's head: the next id and the session
unfoldable pub read_controller_head : RecordVersion → Reader (Head ℕ)
read_controller_head version = do
  plugin ← read_tag 0
  next_id ← read_word
  session ← read_session version
  give (record { own = next_id; session = session })

-- a node's head: its id and the session
unfoldable pub read_node_head : RecordVersion → Reader (Head (List ℕ))
read_node_head version = do
  plugin ← read_tag 1
  node ← read_text 1 255
  session ← read_session version
  give (record { own = node; session = session })

-- ---- a part of a whole record

-- so many bytes
unfoldable pub read_bytes : ℕ → Reader (List ℕ)
read_bytes n bytes = if nat_lt (length bytes) n then None else Some (take n bytes, drop n bytes)

-- a number of four bytes
unfoldable pub read_long : Reader ℕ
read_long = do
  four ← read_bytes 4
  give (big_number 4 four)

-- a part of the bytes of a record
unfoldable pub read_part : Reader StoredPart
read_part = do
  key ← read_word
  count ← read_long
  value ← read_bytes count
  give (record { key = key; value = value })

-- the version and the number of parts
unfoldable pub read_record_head : Reader (RecordVersion × ℕ)
read_record_head = do
  version ← read_code record_version_from_number
  count ← read_long
  give (version, count)

-- ---- a whole value: the version's byte, what stands behind it, and no byte more

-- the value, where no byte is left
abbrev pub read_entirely : {A : Type 0} → Option (A × List ℕ) → Option A
read_entirely (Some (value, [])) = Some value
read_entirely (Some (value, b ∷ bytes)) = None
read_entirely None = None

-- a value that is read from all bytes behind the version's
unfoldable pub read_whole : {A : Type 0} → RecordVersion → Reader A → List ℕ → Option A
read_whole version read bytes = read_entirely (go_on (read_tag (record_version_number version) bytes) (λ _. read))

-- The values of parts of this version, under such keys, are read as what spells them: what is read of bytes is within its limits and
-- has that part, and what is within its limits has such a key and is read of its part.
pub record IsReadWhole {R : Type 0} (version : RecordVersion) (row_in : ℕ → Reader R) (IsKey : ℕ → Type 0) (IsRow : R → Type 0) (row_part : R → StoredPart) : Type 0 where
  pub takes : (key : ℕ) (value : List ℕ) (row : R) → IsKey key → AreBytes value → read_whole version (row_in key) value ≡ Some row → IsRow row × (row_part row ≡ record { key = key; value = value })
  pub has_key : (row : R) → IsRow row → IsKey (row_part row).key
  pub again : (row : R) → IsRow row → read_whole version (row_in (row_part row).key) (row_part row).value ≡ Some row

-- ---- the version of parts: that of the byte with which the first value begins

-- the version that a value begins with
abbrev pub version_in_value : List ℕ → Option RecordVersion
version_in_value [] = None
version_in_value (b ∷ bytes) = record_version_from_number b

-- the version of the first part, if there is one
abbrev pub version_in_parts : List StoredPart → Option RecordVersion
version_in_parts [] = None
version_in_parts (part ∷ parts) = version_in_value part.value
