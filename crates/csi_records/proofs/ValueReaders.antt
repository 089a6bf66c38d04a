-- The readers of lists, holdings, targets, replies and heads read what is spelled.
use Rattle.std.proofs.Common.{◌≡◌, ℕ, zero, suc, ◌≤◌, Bool, true, false, List, [], ◌∷◌, ◌++◌, length, Some, None, refl, sym, ap, subst, ◌∙◌, append_assoc, arith, cond}
use Rattle.std.specs.Prelude.{Option, IfSome}
use Rattle.std.specs.List.{flat_map, AllByRecursion}
use Rattle.std.proofs.lemmas.List.Concat.{flat_map-cons}
use Rattle.csi_types.specs.declared.capability.Capability.{Capability}
use Rattle.csi_types.specs.Public.VolumeId.{IsVolumeId}
use Rattle.csi_types.specs.Public.Limits.{IsWord, IsReply}
use Rattle.csi_records.specs.declared.version.RecordVersion.{RecordVersion}
use Rattle.csi_frames.specs.Public.Spelling as spelling
use Rattle.csi_records.specs.Private.Reading.{Reader, read_items, read_counted, read_holding, read_target, read_reply_id, read_reply, read_kept, read_staged, id_from, go_on, ◌>>=◌, give, read_tag, read_word, read_session, read_controller_head, read_node_head}
use Rattle.csi_records.specs.Public.Spelling.{list_spelling, holding_bytes, target_bytes, kept_bytes, staged_bytes, session_bytes}
use Rattle.csi_records.specs.Public.Records.{IsCapabilityIn, IsKeptCall, IsHolding, IsTargetRow, IsStagedSo, Head, IsSessionIf, IsHead}
use Rattle.csi_records.proofs.Readers.{Reads, Given, gives, in_words, Either, either, Spelled, After, Made, after, makes, Always, also, fields, gives_only}
use Rattle.csi_records.proofs.FieldReaders.{flag_reads, capability_reads, number_reads, status_reads, kind_reads, count_reads, word_reads, text_reads, tag_reads}
use Rattle.csi_types.specs.Public.Text.{IsNodeId}
use Rattle.csi_records.specs.Public.Version.{has_session}

-- ---- so many

-- there are so many, each within its limits
pub record AreSo {A : Type 0} (Fits : A → Type 0) (count : ℕ) (values : List A) : Type 0 where
  pub counted : length values ≡ count
  pub each : AllByRecursion Fits values

-- the spelling of so many values
abbrev SaysItems : {A : Type 0} → (A → Type 0) → (A → List ℕ) → ℕ → List A → List ℕ → Type 0
SaysItems Fits spell n = Spelled (AreSo Fits n) (flat_map spell)

-- no values are none
no-values : {A : Type 0} (Fits : A → Type 0) (xs : List A) → AreSo Fits 0 xs → xs ≡ []
no-values Fits [] fits = refl
no-values Fits (x ∷ xs) fits = absurd (cc fits.counted)

-- one value more than so many are a first one and so many others
first-of : {A : Type 0} (Fits : A → Type 0) (n : ℕ) (xs : List A) → AreSo Fits (suc n) xs → (y : A × List A) × (Fits y.0 × AreSo Fits n y.1) × (xs ≡ y.0 ∷ y.1)
first-of Fits n [] fits = absurd (cc fits.counted)
first-of Fits n (x ∷ xs) fits = ((x, xs), (fits.each.0, record { counted = omega (arith, fits.counted); each = fits.each.1 }), refl)

-- a reader of single values that is asked so many times reads so many
pub items_read : {A : Type 0} {read : Reader A} (Fits : A → Type 0) (spell : A → List ℕ) (n : ℕ) → Reads read (Spelled Fits spell) → Reads (read_items read n) (SaysItems Fits spell n)
unfolding read_items
items_read Fits spell zero one = gives_only [] (record { counted = refl; each = tt }) refl (no-values Fits)
items_read Fits spell (suc n) one =
    fields (also one (λ first. makes (λ others. first ∷ others) (items_read Fits spell n one))) (first-of Fits n) (λ y f. record { counted = ap suc f.1.counted; each = (f.0, f.1.each) }) (λ y. sym (flat_map-cons spell y.0 y.1))

-- at most so many
pub record AreFew {A : Type 0} (Fits : A → Type 0) (most : ℕ) (values : List A) : Type 0 where
  pub few : length values ≤ most
  pub each : AllByRecursion Fits values

-- the reader of a counted list reads what spells one of at most so many values
pub counted_reads : {A : Type 0} {read : Reader A} (Fits : A → Type 0) (spell : A → List ℕ) (most : ℕ) → Reads read (Spelled Fits spell) → Reads (read_counted most read) (Spelled (AreFew Fits most) (list_spelling spell))
unfolding read_counted
counted_reads Fits spell most one =
    in_words (Spelled (AreFew Fits most) (list_spelling spell))
    (λ value bytes s. record {
      fits = record { few = omega (arith, s.second.fits.counted, s.fits.within); each = s.second.fits.each };
      are = s.parts ∙ ap (λ (t : List ℕ). s.before ∷ t) s.second.are ∙ ap (λ (n : ℕ). n ∷ flat_map spell value) (sym s.second.fits.counted);
    })
    (λ value bytes s. record { before = length value; fits = record { within = s.fits.few }; back = flat_map spell value; parts = s.are; second = record { fits = record { counted = refl; each = s.fits.each }; are = refl } })
    (after (count_reads most) (λ count. items_read Fits spell count one))

-- ---- holdings and targets

-- the reader of a holding reads what spells one
pub holding_reads : (version : RecordVersion) → Reads (read_holding version) (Spelled (IsHolding version) holding_bytes)
unfolding read_holding
holding_reads version =
    fields (also (text_reads 1 255) (λ node. also (capability_reads version) (λ capability. makes (λ readonly. record { node = node; capability = capability; readonly = readonly }) flag_reads)))
    (λ h f. ((h.node, (h.capability, h.readonly)), (f.node, (f.capability, tt)), refl)) (λ y f. record { node = f.0; capability = f.1.0 }) (λ y. simp append_assoc)

-- the reader of a target reads what spells one
pub target_reads : Reads read_target (Spelled IsTargetRow target_bytes)
unfolding read_target
target_reads =
    fields (also (text_reads 1 255) (λ target. makes (λ readonly. record { target = target; readonly = readonly }) flag_reads))
    (λ t f. ((t.target, t.readonly), (f, tt), refl)) (λ y f. f.0) (λ y. refl)

-- ---- a reply

-- an id, if there is one, is a volume's
abbrev IsReplyId : Option ℕ → Type 0
IsReplyId id = IfSome id IsVolumeId

-- the reader of a reply's id reads what spells one, or none: a number that is 0 where there is none
reply_id_reads : Reads read_reply_id (Spelled IsReplyId spelling.reply_id)
unfolding read_reply_id
reply_id_reads = fields (makes id_from word_reads) apart whole same
  where
    apart : (id : Option ℕ) → IsReplyId id → (n : ℕ) × IsWord n × (id ≡ id_from n)
    apart None fits = (0, omega arith, refl)
    apart (Some zero) fits = absurd (omega (arith, fits.from_one))
    apart (Some (suc n)) fits = (suc n, fits.in_range, refl)

    whole : (n : ℕ) → IsWord n → IsReplyId (id_from n)
    whole zero fits = tt
    whole (suc n) fits = record { from_one = omega arith; in_range = fits }

    same : (n : ℕ) → spelling.word n ≡ spelling.reply_id (id_from n)
    same zero = refl
    same (suc n) = refl

-- the reader of a reply reads what spells one
reply_reads : Reads read_reply (Spelled IsReply spelling.reply_fields)
unfolding read_reply
reply_reads =
    fields (also status_reads (λ status. also reply_id_reads (λ id. makes (λ detail. record { status = status; id = id; detail = detail }) (text_reads 0 255))))
    (λ r f. ((r.status, (r.id, r.detail)), (tt, (f.id_fits, f.detail_fits)), refl)) (λ y f. record { id_fits = f.1.0; detail_fits = f.1.1 }) (λ y. refl)

-- the reader of what is kept reads what spells it
pub kept_reads : Reads read_kept (Spelled IsKeptCall kept_bytes)
unfolding read_kept
kept_reads =
    fields (also number_reads (λ number. also kind_reads (λ kind. makes (λ reply. record { number = number; kind = kind; reply = reply }) reply_reads)))
    (λ k f. ((k.number, (k.kind, k.reply)), (f.number, (tt, f.reply)), refl)) (λ y f. record { number = f.0; reply = f.1.1 }) (λ y. refl)

-- ---- how a volume is staged

-- what stands behind the flag that says whether a volume is staged, by the flag
abbrev WasStaged : RecordVersion → Bool → Option Capability → List ℕ → Type 0
WasStaged version b = Either b (Made (IsCapabilityIn version) spelling.capability (λ c. Some c)) (Given None)

-- a flag and what it asks for behind it are the spelling of how a volume is staged
staged-by : (version : RecordVersion) (b : Bool) (value : Option Capability) (bytes back : List ℕ) → bytes ≡ spelling.flag b ++ back → WasStaged version b value back → Spelled (IsStagedSo version) staged_bytes value bytes
staged-by version true value bytes back parts s =
    subst (λ (v : Option Capability). Spelled (IsStagedSo version) staged_bytes v bytes) (sym s.same) (record { fits = s.fits; are = parts ∙ ap (λ (t : List ℕ). 1 ∷ t) s.are })
staged-by version false value bytes back parts s =
    subst (λ (v : Option Capability). Spelled (IsStagedSo version) staged_bytes v bytes) (sym s.same) (record { fits = tt; are = parts ∙ ap (λ (t : List ℕ). 0 ∷ t) s.none })

-- the spelling of how a volume is staged is a flag and what the flag asks for
staged-back : (version : RecordVersion) (value : Option Capability) (bytes : List ℕ) → Spelled (IsStagedSo version) staged_bytes value bytes → After Always spelling.flag (WasStaged version) value bytes
staged-back version None bytes s = record { before = false; fits = tt; back = []; parts = s.are; second = record { same = refl; none = refl } }
staged-back version (Some c) bytes s = record { before = true; fits = tt; back = spelling.capability c; parts = s.are; second = record { before = c; fits = s.fits; same = refl; are = refl } }

-- the reader of how a volume is staged reads what spells it
pub staged_reads : (version : RecordVersion) → Reads (read_staged version) (Spelled (IsStagedSo version) staged_bytes)
unfolding read_staged
staged_reads version =
    in_words (Spelled (IsStagedSo version) staged_bytes) (λ value bytes s. staged-by version s.before value bytes s.back s.parts s.second) (staged-back version)
    (after flag_reads (λ b. either b (makes (λ c. Some c) (capability_reads version)) (gives None)))

-- ---- heads

-- a reader behind a given byte reads that byte and what it reads itself
pub tagged : {A : Type 0} {read : Reader A} (n : ℕ) (Fits : A → Type 0) (spell : A → List ℕ) → Reads read (Spelled Fits spell) → Reads (λ bytes. go_on (read_tag n bytes) (λ _. read)) (Spelled Fits (λ value. n ∷ spell value))
tagged {A} {read} n Fits spell one =
    in_words (Spelled Fits (λ (value : A). n ∷ spell value))
    (λ value bytes s. record { fits = s.second.fits; are = s.parts ∙ ap (λ (t : List ℕ). n ∷ t) s.second.are })
    (λ value bytes s. record { before = tt; fits = tt; back = spell value; parts = s.are; second = record { fits = s.fits; are = refl } })
    (after (tag_reads n) (λ _. one))

-- the reader of the session reads what spells it, where the version has it, and nothing else
session_reads : (version : RecordVersion) → Reads (read_session version) (Spelled (IsSessionIf (has_session version)) session_bytes)
unfolding read_session
session_reads version = by (has_session version)
  where
    one : (session : Option ℕ) → IsSessionIf true session → (n : ℕ) × IsWord n × (session ≡ Some n)
    one None fits = absurd fits
    one (Some n) fits = (n, fits, refl)

    none : (session : Option ℕ) → IsSessionIf false session → session ≡ None
    none None fits = refl
    none (Some n) fits = absurd fits

    by : (has : Bool) → Reads (cond has (read_word >>= λ session. give (Some session)) (give None)) (Spelled (IsSessionIf has) session_bytes)
    by true = fields (makes (λ session. Some session) word_reads) one (λ n fits. fits) (λ n. refl)
    by false = gives_only None tt refl none

-- a head is equal to one of its fields
abbrev make_head : {X : Type 0} → X → Option ℕ → Head X
make_head own session = record { own = own; session = session }

-- a head behind the version and the plugin's byte
abbrev pub head_fields : {X : Type 0} → (X → List ℕ) → Head X → List ℕ
head_fields spell head = spell head.own ++ session_bytes head.session

-- a reader of the plugin's own field, and of the session behind it, reads a head's fields
fields_read : {X : Type 0} {read : Reader X} (version : RecordVersion) (Fits : X → Type 0) (spell : X → List ℕ) → Reads read (Spelled Fits spell)
    → Reads (read >>= λ own. read_session version >>= λ session. give (make_head own session)) (Spelled (IsHead Fits version) (head_fields spell))
fields_read version Fits spell one =
    fields (also one (λ own. makes (λ session. make_head own session) (session_reads version))) (λ h f. ((h.own, h.session), (f.own, f.session), refl)) (λ y f. record { own = f.0; session = f.1 }) (λ y. refl)

-- the reader of a controller's head reads what spells one behind the version
pub controller_head_reads : (version : RecordVersion) → Reads (read_controller_head version) (Spelled (IsHead IsWord version) (λ head. 0 ∷ head_fields spelling.word head))
unfolding read_controller_head
controller_head_reads version = tagged 0 (IsHead IsWord version) (head_fields spelling.word) (fields_read version IsWord spelling.word word_reads)

-- the reader of a node's head reads what spells one behind the version
pub node_head_reads : (version : RecordVersion) → Reads (read_node_head version) (Spelled (IsHead IsNodeId version) (λ head. 1 ∷ head_fields spelling.text head))
unfolding read_node_head
node_head_reads version = tagged 1 (IsHead IsNodeId version) (head_fields spelling.text) (fields_read version IsNodeId spelling.text (text_reads 1 255))
