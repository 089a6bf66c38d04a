-- The readers of whole parts read what is spelled.
use Rattle.std.proofs.Common.{◌≡◌, ℕ, Bool, List, [], ◌∷◌, ◌++◌, Some, None, refl, sym, ap, ◌∙◌, append_assoc}
use Rattle.std.specs.Prelude.{Option}
use Rattle.std.proofs.lemmas.List.{append-nil}
use Rattle.std.proofs.lemmas.Option.{same_Some}
use Rattle.csi_types.proofs.Options.{some_is_not_none}
use Rattle.csi_types.specs.declared.capability.Capability.{Capability}
use Rattle.csi_fence.specs.Model.Fence.{Kept}
use Rattle.csi_types.specs.Public.Text.{IsNodeId}
use Rattle.csi_types.specs.Public.VolumeId.{IsVolumeId}
use Rattle.csi_types.specs.Public.Limits.{IsWord}
use Rattle.csi_records.specs.declared.version.RecordVersion.{RecordVersion}
use Rattle.csi_records.specs.Public.Version.{record_version_number}
use Rattle.csi_frames.specs.Public.Bytes.{AreBytes}
use Rattle.csi_frames.specs.Public.Spelling as spelling
use Rattle.csi_controller.specs.declared.row.NodeHolding.{NodeHolding}
use Rattle.csi_node.specs.declared.row.NodeTarget.{NodeTarget}
use Rattle.csi_node.specs.Model.OneRow.{NodeRowShown}
use Rattle.csi_stores.specs.declared.part.Part.{Part}
use Rattle.csi_stores.specs.Public.Part.{StoredPart, stored_in, value_in}
use Rattle.csi_records.specs.Private.Reading.{Reader, go_on, read_entirely, read_whole, IsReadWhole, read_tag, read_volume, read_answered, read_controller_head, read_node_head}
use Rattle.csi_records.specs.Public.Spelling.{VolumeRow, state_byte, list_spelling, holding_bytes, target_bytes, kept_bytes, staged_bytes, volume_part, answered_part, controller_head, node_head}
use Rattle.csi_records.specs.Public.Records.{IsCapabilityIn, IsHolding, IsVolumeRow, IsTargetRow, IsAnsweredRow, IsHead}
use Rattle.csi_records.proofs.Readers.{Reads, Spelled, makes, also, fields, pieces6, in_words}
use Rattle.csi_records.proofs.FieldReaders.{live_reads, word_reads, text_reads, capability_reads}
use Rattle.csi_records.proofs.ValueReaders.{tagged, head_fields, controller_head_reads, node_head_reads, counted_reads, holding_reads, target_reads, kept_reads, staged_reads}

-- ---- a volume's row, behind the version

-- the value of a volume's row, behind its version
abbrev volume_body : VolumeRow → List ℕ
volume_body row =
    state_byte row.volume.is_live ∷ spelling.text row.volume.name ++ spelling.word row.volume.capacity ++ list_spelling spelling.capability row.volume.capabilities
    ++ list_spelling holding_bytes row.holdings ++ kept_bytes row.volume.kept

-- a volume's row, from its fields
abbrev make_volume : ℕ → Bool → List ℕ → ℕ → List Capability → List NodeHolding → Kept → VolumeRow
make_volume id is_live name capacity capabilities holdings kept =
    record { volume = record { id = id; name = name; capacity = capacity; capabilities = capabilities; is_live = is_live; kept = kept }; holdings = holdings }

-- a row of this id
pub record IsRowOf {R : Type 0} (IsRow : R → Type 0) (id_of : R → ℕ) (id : ℕ) (row : R) : Type 0 where
  pub has_id : id_of row ≡ id
  pub fits : IsRow row

-- it is a row of the volume of this id
abbrev IsVolumeOf : RecordVersion → ℕ → VolumeRow → Type 0
IsVolumeOf version = IsRowOf (IsVolumeRow version) (λ row. row.volume.id)

-- the reader of a volume's row reads what spells a row of this id behind the version
volume_reads : (version : RecordVersion) (id : ℕ) → IsVolumeId id → Reads (read_volume version id) (Spelled (IsVolumeOf version id) volume_body)
unfolding read_volume
volume_reads version id is_id =
    fields
    (also live_reads (λ is_live.
    also (text_reads 1 128) (λ name.
    also word_reads (λ capacity.
    also (counted_reads (IsCapabilityIn version) spelling.capability 8 (capability_reads version)) (λ capabilities.
    also (counted_reads (IsHolding version) holding_bytes 64 (holding_reads version)) (λ holdings.
    makes (λ kept. make_volume id is_live name capacity capabilities holdings kept) kept_reads))))))
    (λ row f.
    let v = row.volume in
    let fits = f.fits in (
      (v.is_live, (v.name, (v.capacity, (v.capabilities, (row.holdings, v.kept))))),
      (tt, (fits.name, (fits.capacity, (record { few = fits.capability_count; each = fits.capabilities }, (record { few = fits.count; each = fits.holdings }, fits.kept))))),
      ap (λ (k : ℕ). make_volume k v.is_live v.name v.capacity v.capabilities row.holdings v.kept) f.has_id,
    ))
    (λ y f. record {
      has_id = refl;
      fits = record { id = is_id; name = f.1.0; capacity = f.1.1.0; capability_count = f.1.1.1.0.few; capabilities = f.1.1.1.0.each; count = f.1.1.1.1.0.few; holdings = f.1.1.1.1.0.each; kept = f.1.1.1.1.1 };
    })
    (λ y. pieces6 (state_byte y.0 ∷ []) (spelling.text y.1.0) (spelling.word y.1.1.0) (list_spelling spelling.capability y.1.1.1.0) (list_spelling holding_bytes y.1.1.1.1.0) (kept_bytes y.1.1.1.1.1))

-- ---- a node's row, behind the version

-- the value of a node's row, behind its version
abbrev answered_body : NodeRowShown → List ℕ
answered_body row = staged_bytes row.staged ++ list_spelling target_bytes row.targets ++ kept_bytes row.kept

-- a node's row, from its fields
abbrev make_answered : ℕ → Option Capability → List NodeTarget → Kept → NodeRowShown
make_answered id staged targets kept = record { id = id; staged = staged; targets = targets; kept = kept }

-- it is a node's row of the volume of this id
abbrev IsAnsweredOf : RecordVersion → ℕ → NodeRowShown → Type 0
IsAnsweredOf version = IsRowOf (IsAnsweredRow version) (λ row. row.id)

-- the reader of a node's row reads what spells a row of this id behind the version
answered_reads : (version : RecordVersion) (id : ℕ) → IsVolumeId id → Reads (read_answered version id) (Spelled (IsAnsweredOf version id) answered_body)
unfolding read_answered
answered_reads version id is_id =
    fields
    (also (staged_reads version) (λ staged. also (counted_reads IsTargetRow target_bytes 16 target_reads) (λ targets. makes (λ kept. make_answered id staged targets kept) kept_reads)))
    (λ row f. (
      (row.staged, (row.targets, row.kept)),
      (f.fits.staged, (record { few = f.fits.count; each = f.fits.targets }, f.fits.kept)),
      ap (λ (k : ℕ). make_answered k row.staged row.targets row.kept) f.has_id,
    ))
    (λ y f. record { has_id = refl; fits = record { id = is_id; staged = f.0; count = f.1.0.few; targets = f.1.0.each; kept = f.1.1 } })
    (λ y. simp append_assoc)

-- ---- whole values

-- where a whole value is given, it was read and no byte is left
ended-some : {A : Type 0} (read : Option (A × List ℕ)) (value : A) → read_entirely read ≡ Some value → read ≡ Some (value, [])
ended-some (Some (x, [])) value e = let same : x ≡ value = cc in ap (λ y. Some (y, [])) same
ended-some (Some (x, b ∷ bytes)) value e = absurd cc
ended-some None value e = absurd cc

-- a whole value that is read is within its limits, and the bytes are the version and its spelling
whole-takes : {A : Type 0} {read : Reader A} (version : RecordVersion) (Fits : A → Type 0) (spell : A → List ℕ) → Reads read (Spelled Fits spell) → (bytes : List ℕ) → AreBytes bytes → (value : A) → read_whole version read bytes ≡ Some value
    → Fits value × (bytes ≡ record_version_number version ∷ spell value)
unfolding read_whole
whole-takes {A} {read} version Fits spell one bytes fits value e =
    let took = (tagged (record_version_number version) Fits spell one).takes bytes fits (value, []) (ended-some (go_on (read_tag (record_version_number version) bytes) (λ _. read)) value e) in
    (took.says.fits, took.parts ∙ append-nil took.front ∙ took.says.are)

-- a value within its limits is read from the version and its spelling
whole-again : {A : Type 0} {read : Reader A} (version : RecordVersion) (Fits : A → Type 0) (spell : A → List ℕ) → Reads read (Spelled Fits spell) → (value : A) → Fits value → read_whole version read (record_version_number version ∷ spell value) ≡ Some value
unfolding read_whole
whole-again {A} {read} version Fits spell one value fits =
    let b : ℕ = record_version_number version in
    let again : go_on (read_tag b (b ∷ spell value ++ [])) (λ _. read) ≡ Some (value, []) = (tagged b Fits spell one).again value (b ∷ spell value) [] (record { fits = fits; are = refl }) in
    ap (λ (t : List ℕ). read_entirely (go_on (read_tag b (b ∷ t)) (λ _. read))) (sym (append-nil (spell value))) ∙ ap read_entirely again

-- ---- the rows and heads of parts

-- a part is equal to one with its key and its value
abbrev pub make_part : ℕ → List ℕ → StoredPart
make_part key value = record { key = key; value = value }

-- rows that are read behind the version, under their keys, are read as what spells them
row_read : {R : Type 0} {row_in : ℕ → Reader R} {IsKey : ℕ → Type 0} (version : RecordVersion) (IsRow : R → Type 0) (id_of : R → ℕ) (body : R → List ℕ) → ((id : ℕ) → IsKey id → Reads (row_in id) (Spelled (IsRowOf IsRow id_of id) body))
    → ((row : R) → IsRow row → IsKey (id_of row)) → IsReadWhole version row_in IsKey IsRow (λ row. make_part (id_of row) (record_version_number version ∷ body row))
row_read version IsRow id_of body reads ids = record {
  takes = λ id value row is_id fits e.
      let read = whole-takes version (IsRowOf IsRow id_of id) body (reads id is_id) value fits row e in
      (read.0.fits, ap (λ k. make_part k (record_version_number version ∷ body row)) read.0.has_id ∙ ap (make_part id) (sym read.1));
  has_key = ids;
  again = λ row fits. whole-again version (IsRowOf IsRow id_of (id_of row)) body (reads (id_of row) (ids row fits)) row (record { has_id = refl; fits = fits });
}

-- rows of volumes are read as what spells them
pub volume_read : (version : RecordVersion) → IsReadWhole version (read_volume version) IsVolumeId (IsVolumeRow version) (volume_part version)
volume_read version = row_read version (IsVolumeRow version) (λ row. row.volume.id) volume_body (volume_reads version) (λ row fits. fits.id)

-- a node's rows are read as what spells them
pub answered_read : (version : RecordVersion) → IsReadWhole version (read_answered version) IsVolumeId (IsAnsweredRow version) (answered_part version)
answered_read version = row_read version (IsAnsweredRow version) (λ row. row.id) answered_body (answered_reads version) (λ row fits. fits.id)

-- values under this key that are read behind the version are read as what spells them
pub read_under : {H : Type 0} {read : Reader H} (own : ℕ) (version : RecordVersion) (Fits : H → Type 0) (body : H → List ℕ) → Reads read (Spelled Fits body)
    → IsReadWhole version (λ key. read) (λ key. own ≡ key) Fits (λ first. make_part own (record_version_number version ∷ body first))
read_under own version Fits body reads =
    row_read version Fits (λ first. own) body
    (λ key is. in_words (Spelled (IsRowOf Fits (λ first. own) key) body) (λ value bytes s. record { fits = record { has_id = is; fits = s.fits }; are = s.are }) (λ value bytes s. record { fits = s.fits.fits; are = s.are }) reads) (λ first fits. refl)

-- a controller's head is read as what spells it
pub controller_head_read : (version : RecordVersion) → IsReadWhole version (λ key. read_controller_head version) (λ key. 0 ≡ key) (IsHead IsWord version) (λ head. controller_head version head.own head.session)
controller_head_read version = read_under 0 version (IsHead IsWord version) (λ head. 0 ∷ head_fields spelling.word head) (controller_head_reads version)

-- a node's head is read as what spells it
pub node_head_read : (version : RecordVersion) → IsReadWhole version (λ key. read_node_head version) (λ key. 0 ≡ key) (IsHead IsNodeId version) (λ head. node_head version head.own head.session)
node_head_read version = read_under 0 version (IsHead IsNodeId version) (λ head. 1 ∷ head_fields spelling.text head) (node_head_reads version)

module _ {R : Type 0} {version : RecordVersion} {row_in : ℕ → Reader R} {IsKey : ℕ → Type 0} {IsRow : R → Type 0} {row_part : R → StoredPart} (is_read : IsReadWhole version row_in IsKey IsRow row_part) where
  -- what is read of a part's value, as a part tells it
  abbrev value_of : StoredPart → Option R
  value_of part = read_whole version (row_in part.key) part.value

  -- what has equal parts is equal
  pub same_part : (a b : R) → IsRow a → IsRow b → row_part a ≡ row_part b → a ≡ b
  same_part a b fits fit e = same_Some a b (sym (is_read.again a fits) ∙ ap value_of e ∙ is_read.again b fit)

-- a part with this key and this value
part-is : (part : Part) (key : ℕ) (bytes : List ℕ) → key ≡ part.key → bytes ≡ value_in part.value → stored_in part ≡ make_part key bytes
part-is part key bytes key_is bytes_are = ap (λ (bs : List ℕ). make_part part.key bs) (sym bytes_are) ∙ ap (λ (k : ℕ). make_part k bytes) (sym key_is)

module _ {R : Type 0} {version : RecordVersion} {row_in : ℕ → Reader R} {IsKey : ℕ → Type 0} {IsRow : R → Type 0} {row_part : R → StoredPart} (is_read : IsReadWhole version row_in IsKey IsRow row_part) (part : Part) (key : ℕ) (bytes : List ℕ) (key_is : key ≡ part.key)
    (bytes_are : bytes ≡ value_in part.value) where
  -- what is read of a part's value is within its limits, and has that part
  pub read-of : IsKey key → AreBytes bytes → (row : R) → read_whole version (row_in key) bytes ≡ Some row → IsRow row × (row_part row ≡ stored_in part)
  read-of is_key are_bytes row read = let p = is_read.takes key bytes row is_key are_bytes read in (p.0, p.1 ∙ sym (part-is part key bytes key_is bytes_are))

  -- where nothing is read of a part's value, nothing has that part
  pub unread-of : read_whole version (row_in key) bytes ≡ None → (row : R) → IsRow row → row_part row ≡ stored_in part → ⊥
  unread-of none row fits same = some_is_not_none row (sym (is_read.again row fits) ∙ ap (value_of is_read) (same ∙ part-is part key bytes key_is bytes_are) ∙ none)
