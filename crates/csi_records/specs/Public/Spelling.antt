-- The spelling of records: their parts, and the bytes of a whole record. Texts, capabilities, flags, ids and replies are spelled
-- as in frames, and in each version alike; the version byte tells one from another, and a head has one field more in some. This profile's own.
use Rattle.std.specs.Prelude.{ℕ, ◌+◌, Bool, if◌then◌else◌, List, [], ◌∷◌, ◌++◌, length, map, Option, Some, None}
use Rattle.std.specs.List.{flat_map}
use Rattle.byteorder.specs.Endian.{big_bytes}
use Rattle.csi_types.specs.declared.capability.Capability.{Capability}
use Rattle.csi_types.specs.declared.holding.Holding.{Holding}
use Rattle.csi_fence.specs.Model.Fence.{Kept}
use Rattle.csi_types.specs.Model.Same.{kind_number}
use Rattle.csi_records.specs.declared.version.RecordVersion.{RecordVersion}
use Rattle.csi_records.specs.declared.version.RecordVersion.TheVariants.{Three}
use Rattle.csi_records.specs.Public.Version.{record_version_number}
use Rattle.csi_frames.specs.Public.Spelling.{word, text, flag, capability, reply_fields}
use Rattle.csi_controller.specs.declared.row.ControllerRow.{ControllerRow}
use Rattle.csi_controller.specs.declared.row.NodeHolding.{NodeHolding}
use Rattle.csi_controller.specs.Model.Shown.{volume_of_row}
use Rattle.csi_controller.specs.Model.State.{Volume, ControllerState, holdings_of}
use Rattle.csi_node.specs.declared.row.NodeTarget.{NodeTarget}
use Rattle.csi_node.specs.Model.OneRow.{NodeRowShown}
use Rattle.csi_stores.specs.Public.Part.{StoredPart}

-- the version in which records are written; every value begins with the byte of its record's version
abbrev pub present : RecordVersion
present = Three

-- so many, and each in its spelling
abbrev pub list_spelling : {A : Type 0} → (A → List ℕ) → List A → List ℕ
list_spelling spell values = length values ∷ flat_map spell values

-- a reply's kind byte, as its frame has it
abbrev pub reply_kind : Kept → ℕ
reply_kind kept = 128 + kind_number kept.kind

-- the number of the last call, and the reply that was kept of it: its kind, status, id and detail
abbrev pub kept_bytes : Kept → List ℕ
kept_bytes kept = word kept.number.session ++ word kept.number.call ++ reply_kind kept ∷ reply_fields kept.reply

-- the greatest session that came, where a head has it
abbrev pub session_bytes : Option ℕ → List ℕ
session_bytes None = []
session_bytes (Some session) = word session

-- ---- the controller's parts: a head with the next id (0 once all were given) and the session, and a row for each volume, under its id

-- a volume that was made, and where it is held, in order
pub record VolumeRow : Type 0 where
  pub volume : Volume
  pub holdings : List NodeHolding

-- a controller's head
abbrev pub controller_head : RecordVersion → ℕ → Option ℕ → StoredPart
controller_head version next_id session = record { key = 0; value = record_version_number version ∷ 0 ∷ word next_id ++ session_bytes session }

-- 1 where it is live, 2 where it was deleted
abbrev pub state_byte : Bool → ℕ
state_byte is_live = if is_live then 1 else 2

-- where a volume is held, and how
abbrev pub holding_bytes : NodeHolding → List ℕ
holding_bytes holding = text holding.node ++ capability holding.capability ++ flag holding.readonly

-- the value of a controller's row
abbrev pub volume_bytes : RecordVersion → VolumeRow → List ℕ
volume_bytes version row =
    record_version_number version ∷ state_byte row.volume.is_live ∷ text row.volume.name ++ word row.volume.capacity ++ list_spelling capability row.volume.capabilities
    ++ list_spelling holding_bytes row.holdings ++ kept_bytes row.volume.kept

-- the part of a controller's row
abbrev pub volume_part : RecordVersion → VolumeRow → StoredPart
volume_part version row = record { key = row.volume.id; value = volume_bytes version row }

-- a controller's record: its head, and its rows
abbrev pub controller_parts : RecordVersion → ℕ → Option ℕ → List VolumeRow → List StoredPart
controller_parts version next_id session rows = controller_head version next_id session ∷ map (volume_part version) rows

-- a row as the controller has it
abbrev pub volume_row : ControllerRow → VolumeRow
volume_row row = record { volume = volume_of_row row; holdings = row.holdings.items }

-- the rows of a state
abbrev pub node_holding : Holding → NodeHolding
node_holding holding = record { node = holding.node; capability = holding.capability; readonly = holding.readonly }

-- each volume that was made, and where it is held
abbrev pub volume_rows : ControllerState → List VolumeRow
volume_rows state = map (λ volume. record { volume = volume; holdings = map node_holding (holdings_of volume.id state) }) state.volumes

-- ---- the node's parts: a head with its id and the session, and a row for each volume, under the volume's id

-- a node's head
abbrev pub node_head : RecordVersion → List ℕ → Option ℕ → StoredPart
node_head version node session = record { key = 0; value = record_version_number version ∷ 1 ∷ text node ++ session_bytes session }

-- 0, or 1 and how it is staged
abbrev pub staged_bytes : Option Capability → List ℕ
staged_bytes None = 0 ∷ []
staged_bytes (Some staged) = 1 ∷ capability staged

-- a target that a volume is published at, and how
abbrev pub target_bytes : NodeTarget → List ℕ
target_bytes target = text target.target ++ flag target.readonly

-- the value of a node's row
abbrev pub answered_bytes : RecordVersion → NodeRowShown → List ℕ
answered_bytes version row = record_version_number version ∷ staged_bytes row.staged ++ list_spelling target_bytes row.targets ++ kept_bytes row.kept

-- the part of a node's row
abbrev pub answered_part : RecordVersion → NodeRowShown → StoredPart
answered_part version row = record { key = row.id; value = answered_bytes version row }

-- a node's record: its head, and its rows
abbrev pub node_parts : RecordVersion → List ℕ → Option ℕ → List NodeRowShown → List StoredPart
node_parts version node session rows = node_head version node session ∷ map (answered_part version) rows

-- ---- a whole record: the version, the number of parts, and of each part the key, the length of its value and the value

-- a part among the bytes of a record
abbrev pub part_bytes : StoredPart → List ℕ
part_bytes part = word part.key ++ big_bytes 4 (length part.value) ++ part.value

-- what stands before so many parts
abbrev pub record_head : RecordVersion → ℕ → List ℕ
record_head version count = record_version_number version ∷ big_bytes 4 count

-- the bytes of a record of these parts
abbrev pub record_bytes : RecordVersion → List StoredPart → List ℕ
record_bytes version parts = record_head version (length parts) ++ flat_map part_bytes parts
