-- The readers of an orchestrator's head and of its rows read what is spelled.
use Rattle.std.proofs.Common.{◌≡◌, ℕ, cond, Bool, true, false, List, ◌∷◌, ◌++◌, refl, sym, ◌∙◌, zero, suc, [], Some, None, ap, subst, append_assoc, arith}
use Rattle.csi_types.specs.Public.Text.{IsNodeId, IsTarget}
use Rattle.csi_frames.specs.Public.Spelling as spelling
use Rattle.csi_records.specs.declared.version.RecordVersion.{RecordVersion}
use Rattle.csi_records.specs.Public.Version.{has_session}
use Rattle.csi_records.specs.Public.Spelling.{list_spelling}
use Rattle.csi_records.specs.Public.OrchestratorSpelling.{orchestrator_head, known_byte, known_bytes, arguments_bytes, id_bytes, target_entry_bytes, usage_bytes, goal_bytes, node_entry_bytes, orchestrator_part}
use Rattle.csi_records.specs.Public.OrchestratorRows.{OrchestratorHeadShown, IsOrchestratorHead, AreArguments, IsTargetEntry, IsUsage, IsGoal, IsNodeEntry, IsClosedRow}
use Rattle.csi_records.specs.Private.Reading.{◌>>=◌, go_on, give, nothing, read_tag, read_word, read_counted, read_text, IsReadWhole, id_from}
use Rattle.csi_records.specs.Private.OrchestratorReading.{read_orchestrator_head, known_from, read_known, given_id, read_id_if, read_arguments, read_target_entry, read_usage, read_stop, read_goal_of, read_goal, read_node_entry, read_orchestrator_row}
use Rattle.csi_records.proofs.Readers.{Reads, in_words, Spelled, makes, also, fields, Given, gives, Either, either, After, after, Always, Made, pieces6}
use Rattle.csi_records.proofs.FieldReaders.{word_reads, text_reads, code_reads, flag_reads, capability_reads, byte_reads, one_byte, count_reads}
use Rattle.csi_records.proofs.ValueReaders.{tagged, counted_reads}
use Rattle.csi_records.proofs.PartReaders.{read_under}
use Rattle.std.specs.Prelude.{Option, IfSome}
use Rattle.std.proofs.lemmas.List.{append-nil}
use Rattle.std.proofs.lemmas.Option.{same_Some}
use Rattle.csi_types.specs.Public.Limits.{IsWord}
use Rattle.csi_types.specs.Public.VolumeId.{IsVolumeId}
use Rattle.csi_orchestrator.specs.declared.thing.Known.{Known}
use Rattle.csi_orchestrator.specs.declared.thing.Known.TheVariants.{Yes, No, Maybe}
use Rattle.csi_records.specs.Public.Records.{IsCapabilityIn}
use Rattle.csi_orchestrator.specs.declared.row.Goal.{Goal}
use Rattle.csi_orchestrator.specs.declared.row.Goal.TheVariants.{Create, Use, Stop, Delete}
use Rattle.csi_orchestrator.specs.Model.Shown.{RowShown}

-- a head is equal to one of its fields
abbrev make_head : ℕ → List (List ℕ) → OrchestratorHeadShown
make_head session nodes = record { session = session; nodes = nodes }

-- a head behind the version and the byte of its kind
abbrev fields_of : OrchestratorHeadShown → List ℕ
fields_of head = spelling.word head.session ++ list_spelling spelling.text head.nodes

-- the reader of the fields reads what spells them, in a version that has them
fields_read : (version : RecordVersion) → has_session version ≡ true → Reads (read_word >>= λ session. read_counted 64 (read_text 1 255) >>= λ nodes. give (make_head session nodes)) (Spelled (IsOrchestratorHead version) fields_of)
fields_read version later =
    fields (also word_reads (λ session. makes (λ nodes. make_head session nodes) (counted_reads IsNodeId spelling.text 64 (text_reads 1 255))))
    (λ h f. ((h.session, h.nodes), (f.session, record { few = f.count; each = f.nodes }), refl)) (λ y f. record { later = later; session = f.0; count = f.1.few; nodes = f.1.each }) (λ y. refl)

-- no bytes spell what isn't there
abbrev pub SaysNothing : {A : Type 0} → A → List ℕ → Type 0
SaysNothing value bytes = ⊥

-- a reader that takes nothing reads what no bytes spell
pub nothing_reads : {A : Type 0} → Reads (nothing {A = A}) SaysNothing
nothing_reads = record {
  takes = λ bytes fits x e. absurd cc;
  again = λ value front rest s. absurd s;
}

-- a head behind the version
abbrev head_body : OrchestratorHeadShown → List ℕ
head_body head = 2 ∷ fields_of head

-- the reader of an orchestrator's head reads what spells one behind the version
orchestrator_head_reads : (version : RecordVersion) → Reads (read_orchestrator_head version) (Spelled (IsOrchestratorHead version) head_body)
unfolding read_orchestrator_head
orchestrator_head_reads version = by (has_session version) refl
  where
    by : (has : Bool) → has_session version ≡ has → Reads (cond has (λ bytes. go_on (read_tag 2 bytes) (λ _. read_word >>= λ session. read_counted 64 (read_text 1 255) >>= λ nodes. give (make_head session nodes))) nothing) (Spelled (IsOrchestratorHead version) head_body)
    by true is = tagged 2 (IsOrchestratorHead version) fields_of (fields_read version is)
    by false is = in_words (Spelled (IsOrchestratorHead version) head_body) (λ value bytes s. absurd s) (λ value bytes s. let there : false ≡ true = sym is ∙ s.fits.later in cc) nothing_reads

-- an orchestrator's head is read as what spells it
pub orchestrator_head_read : (version : RecordVersion) → IsReadWhole version (λ key. read_orchestrator_head version) (λ key. 0 ≡ key) (IsOrchestratorHead version) (λ head. orchestrator_head version head.session head.nodes)
orchestrator_head_read version = read_under 0 version (IsOrchestratorHead version) head_body (orchestrator_head_reads version)

-- ---- what is known

-- a byte that stands for what is known is the one that spells it
known-back : (b : ℕ) (a : Known) → known_from b ≡ Some a → known_byte a ≡ b
known-back zero a e = ap known_byte (sym (same_Some No a e))
known-back (suc zero) a e = ap known_byte (sym (same_Some Yes a e))
known-back (suc (suc zero)) a e = ap known_byte (sym (same_Some Maybe a e))
known-back (suc (suc (suc n))) a e = absurd cc

-- the byte that spells what is known stands for it
known-again : (a : Known) → known_from (known_byte a) ≡ Some a
known-again No = refl
known-again Yes = refl
known-again Maybe = refl

-- the reader of what is known reads what spells it
pub known_reads : Reads read_known (Spelled Always known_bytes)
unfolding read_known
known_reads = code_reads known_from known_byte (record { back = known-back; again = known-again })

-- ---- an id, if there is one

-- an id, if there is one, is a volume's
abbrev IsIdIf : Option ℕ → Type 0
IsIdIf id = IfSome id IsVolumeId

-- the id that was read, which takes no more bytes
abbrev WasGiven : Option ℕ → Option ℕ → List ℕ → Type 0
WasGiven None = SaysNothing
WasGiven (Some id) = Given (Some id)

-- an id that was read is given
given_reads : (found : Option ℕ) → Reads (given_id found) (WasGiven found)
given_reads None = nothing_reads
given_reads (Some id) = gives (Some id)

-- what stands behind the flag, by the flag
abbrev WasId : Bool → Option ℕ → List ℕ → Type 0
WasId b = Either b (After IsWord spelling.word (λ n. WasGiven (id_from n))) (Given None)

-- a number behind the flag 1 is the spelling of an id
id-given : (n : ℕ) → IsWord n → (value : Option ℕ) (bytes back : List ℕ) → bytes ≡ 1 ∷ spelling.word n ++ back → WasGiven (id_from n) value back → Spelled IsIdIf id_bytes value bytes
id-given zero fits value bytes back parts s = absurd s
id-given (suc n) fits value bytes back parts s =
    subst (λ (v : Option ℕ). Spelled IsIdIf id_bytes v bytes) (sym s.same)
    (record { fits = record { from_one = omega arith; in_range = fits }; are = parts ∙ ap (λ (t : List ℕ). 1 ∷ spelling.word (suc n) ++ t) s.none ∙ append-nil (1 ∷ spelling.word (suc n)) })

-- a flag and what it asks for are the spelling of an id, or of none
id-there : (b : Bool) (value : Option ℕ) (bytes back : List ℕ) → bytes ≡ spelling.flag b ++ back → WasId b value back → Spelled IsIdIf id_bytes value bytes
id-there true value bytes back parts s = id-given s.before s.fits value bytes s.back (parts ∙ ap (λ (t : List ℕ). 1 ∷ t) s.parts) s.second
id-there false value bytes back parts s =
    subst (λ (v : Option ℕ). Spelled IsIdIf id_bytes v bytes) (sym s.same) (record { fits = tt; are = parts ∙ ap (λ (t : List ℕ). 0 ∷ t) s.none })

-- the spelling of an id, or of none, is a flag and what it asks for
id-back : (value : Option ℕ) (bytes : List ℕ) → Spelled IsIdIf id_bytes value bytes → After Always spelling.flag WasId value bytes
id-back None bytes s = record { before = false; fits = tt; back = []; parts = s.are; second = record { same = refl; none = refl } }
id-back (Some zero) bytes s = absurd (omega (arith, s.fits.from_one))
id-back (Some (suc n)) bytes s =
    record {
      before = true;
      fits = tt;
      back = spelling.word (suc n);
      parts = s.are;
      second = record { before = suc n; fits = s.fits.in_range; back = []; parts = sym (append-nil (spelling.word (suc n))); second = record { same = refl; none = refl } };
    }

-- the reader of an id, or of none, reads what spells it
pub id_if_reads : Reads read_id_if (Spelled IsIdIf id_bytes)
unfolding read_id_if
id_if_reads =
    in_words (Spelled IsIdIf id_bytes) (λ value bytes s. id-there s.before value bytes s.back s.parts s.second) id-back
    (after flag_reads (λ b. either b (after word_reads (λ n. given_reads (id_from n))) (gives None)))

-- ---- what a volume was to be created with

-- the reader of arguments reads what spells them
pub arguments_reads : (version : RecordVersion) → Reads (read_arguments version) (Spelled (AreArguments version) arguments_bytes)
unfolding read_arguments
arguments_reads version =
    fields
    (also word_reads (λ required. also word_reads (λ limit.
    makes (λ capabilities. record { required = required; limit = limit; capabilities = capabilities }) (counted_reads (IsCapabilityIn version) spelling.capability 8 (capability_reads version)))))
    (λ a f. ((a.required, (a.limit, a.capabilities)), (f.required, (f.limit, record { few = f.count; each = f.capabilities })), refl))
    (λ y f. record { required = f.0; limit = f.1.0; count = f.1.1.few; capabilities = f.1.1.each })
    (λ y. simp append_assoc)

-- ---- targets' entries

-- the reader of a target's entry reads what spells one
pub target_entry_reads : Reads read_target_entry (Spelled IsTargetEntry target_entry_bytes)
unfolding read_target_entry
target_entry_reads =
    fields (also (text_reads 1 255) (λ target. makes (λ published. record { target = target; published = published }) known_reads))
    (λ e f. ((e.target, e.published), (f, tt), refl)) (λ y f. f.0) (λ y. refl)

-- ---- a use

-- the reader of a use reads what spells it
pub usage_reads : (version : RecordVersion) → Reads (read_usage version) (Spelled (IsUsage version) usage_bytes)
unfolding read_usage
usage_reads version =
    fields
    (also (text_reads 1 255) (λ node. also (text_reads 1 255) (λ target. also (capability_reads version) (λ capability.
    makes (λ readonly. record { node = node; target = target; capability = capability; readonly = readonly }) flag_reads))))
    (λ u f. ((u.node, (u.target, (u.capability, u.readonly))), (f.node, (f.target, (f.capability, tt))), refl))
    (λ y f. record { node = f.0; target = f.1.0; capability = f.1.1.0 })
    (λ y. pieces (spelling.text y.0) (spelling.text y.1.0) (spelling.capability y.1.1.0) (spelling.flag y.1.1.1))
  where
    pieces : (a b c d : List ℕ) → a ++ (b ++ (c ++ d)) ≡ a ++ b ++ c ++ d
    pieces a b c d = simp append_assoc

-- ---- a goal, if there is one

-- what stands behind the kind of a goal
abbrev WasGoal : RecordVersion → ℕ → Option Goal → List ℕ → Type 0
WasGoal version zero = Given None
WasGoal version (suc zero) = Given (Some Create)
WasGoal version (suc (suc zero)) = Made (IsUsage version) usage_bytes (λ usage. Some (Use usage))
WasGoal version (suc (suc (suc zero))) = After IsNodeId spelling.text (λ node. Made IsTarget spelling.text (λ target. Some (Stop node target)))
WasGoal version (suc (suc (suc (suc zero)))) = Given (Some Delete)
WasGoal version (suc (suc (suc (suc (suc n))))) = SaysNothing

-- what stands behind the kind is read
goal_of_reads : (version : RecordVersion) (kind : ℕ) → Reads (read_goal_of version kind) (WasGoal version kind)
unfolding read_stop
goal_of_reads version zero = gives None
goal_of_reads version (suc zero) = gives (Some Create)
goal_of_reads version (suc (suc zero)) = makes (λ usage. Some (Use usage)) (usage_reads version)
goal_of_reads version (suc (suc (suc zero))) = after (text_reads 1 255) (λ node. makes (λ target. Some (Stop node target)) (text_reads 1 255))
goal_of_reads version (suc (suc (suc (suc zero)))) = gives (Some Delete)
goal_of_reads version (suc (suc (suc (suc (suc n))))) = nothing_reads

-- a spelling of the goal in these bytes
abbrev IsSpelled : RecordVersion → Option Goal → List ℕ → Type 0
IsSpelled version = Spelled (IsGoal version) goal_bytes

-- a kind and what stands behind it are the spelling of a goal, or of none
goal-there : (version : RecordVersion) (kind : ℕ) (value : Option Goal) (bytes back : List ℕ) → bytes ≡ kind ∷ back → WasGoal version kind value back → IsSpelled version value bytes
goal-there version zero value bytes back parts s = subst (λ (v : Option Goal). IsSpelled version v bytes) (sym s.same) (record { fits = tt; are = parts ∙ ap (λ (t : List ℕ). 0 ∷ t) s.none })
goal-there version (suc zero) value bytes back parts s = subst (λ (v : Option Goal). IsSpelled version v bytes) (sym s.same) (record { fits = tt; are = parts ∙ ap (λ (t : List ℕ). 1 ∷ t) s.none })
goal-there version (suc (suc zero)) value bytes back parts s = subst (λ (v : Option Goal). IsSpelled version v bytes) (sym s.same) (record { fits = s.fits; are = parts ∙ ap (λ (t : List ℕ). 2 ∷ t) s.are })
goal-there version (suc (suc (suc zero))) value bytes back parts s =
    subst (λ (v : Option Goal). IsSpelled version v bytes) (sym s.second.same)
    (record { fits = (s.fits, s.second.fits); are = parts ∙ ap (λ (t : List ℕ). 3 ∷ t) (s.parts ∙ ap (λ (t : List ℕ). spelling.text s.before ++ t) s.second.are) })
goal-there version (suc (suc (suc (suc zero)))) value bytes back parts s = subst (λ (v : Option Goal). IsSpelled version v bytes) (sym s.same) (record { fits = tt; are = parts ∙ ap (λ (t : List ℕ). 4 ∷ t) s.none })
goal-there version (suc (suc (suc (suc (suc n))))) value bytes back parts s = absurd s

-- the spelling of a goal, or of none, is a kind and what stands behind it
goal-back : (version : RecordVersion) (value : Option Goal) (bytes : List ℕ) → IsSpelled version value bytes → After Always one_byte (WasGoal version) value bytes
goal-back version None bytes s = record { before = 0; fits = tt; back = []; parts = s.are; second = record { same = refl; none = refl } }
goal-back version (Some Create) bytes s = record { before = 1; fits = tt; back = []; parts = s.are; second = record { same = refl; none = refl } }
goal-back version (Some (Use usage)) bytes s = record { before = 2; fits = tt; back = usage_bytes usage; parts = s.are; second = record { before = usage; fits = s.fits; same = refl; are = refl } }
goal-back version (Some (Stop node target)) bytes s =
    record {
      before = 3;
      fits = tt;
      back = spelling.text node ++ spelling.text target;
      parts = s.are;
      second = record { before = node; fits = s.fits.0; back = spelling.text target; parts = refl; second = record { before = target; fits = s.fits.1; same = refl; are = refl } };
    }
goal-back version (Some Delete) bytes s = record { before = 4; fits = tt; back = []; parts = s.are; second = record { same = refl; none = refl } }

-- the reader of a goal, or of none, reads what spells it
pub goal_reads : (version : RecordVersion) → Reads (read_goal version) (IsSpelled version)
unfolding read_goal
goal_reads version =
    in_words (IsSpelled version) (λ value bytes s. goal-there version s.before value bytes s.back s.parts s.second) (goal-back version)
    (after byte_reads (λ kind. goal_of_reads version kind))

-- ---- a node's entry

-- the reader of a node's entry reads what spells it
pub node_entry_reads : (version : RecordVersion) → Reads (read_node_entry version) (Spelled (IsNodeEntry version) node_entry_bytes)
unfolding read_node_entry
node_entry_reads version =
    fields
    (also (text_reads 1 255) (λ node.
    also (capability_reads version) (λ capability.
    also flag_reads (λ readonly.
    also known_reads (λ attached.
    also known_reads (λ staged.
    makes (λ targets. record { node = node; capability = capability; readonly = readonly; attached = attached; staged = staged; target_entries = targets }) (counted_reads IsTargetEntry target_entry_bytes 16 target_entry_reads)))))))
    (λ e f. (
      (e.node, (e.capability, (e.readonly, (e.attached, (e.staged, e.target_entries))))),
      (f.node, (f.capability, (tt, (tt, (tt, record { few = f.count; each = f.targets }))))),
      refl,
    ))
    (λ y f. record { node = f.0; capability = f.1.0; count = f.1.1.1.1.1.few; targets = f.1.1.1.1.1.each })
    (λ y. simp append_assoc)

-- ---- a row

-- a row's value behind the version
abbrev row_body : RowShown → List ℕ
row_body row =
    spelling.text row.name ++ arguments_bytes row.arguments ++ id_bytes row.id ++ known_bytes row.exists ++ goal_bytes row.goal
    ++ row.tries ∷ list_spelling node_entry_bytes row.node_entries

-- the reader of an orchestrator's row reads what spells it, behind the version
orchestrator_row_reads : (version : RecordVersion) → Reads (read_orchestrator_row version) (Spelled (IsClosedRow version) row_body)
unfolding read_orchestrator_row
orchestrator_row_reads version =
    fields
    (also (text_reads 1 128) (λ name.
    also (arguments_reads version) (λ arguments.
    also id_if_reads (λ id.
    also known_reads (λ exists.
    also (goal_reads version) (λ goal.
    also (count_reads 3) (λ tries.
    makes (λ entries. record { name = name; arguments = arguments; id = id; exists = exists; goal = goal; open_call = None; tries = tries; node_entries = entries }) (counted_reads (IsNodeEntry version) node_entry_bytes 64 (node_entry_reads version)))))))))
    (λ r f. (
      (r.name, (r.arguments, (r.id, (r.exists, (r.goal, (r.tries, r.node_entries)))))),
      (f.fits.name, (f.fits.arguments, (f.fits.id, (tt, (f.fits.goal, (record { within = f.fits.tries }, record { few = f.fits.count; each = f.fits.entries })))))),
      ap (λ o. record r { open_call = o }) f.closed,
    ))
    (λ y f. record {
      fits = record { name = f.0; arguments = f.1.0; id = f.1.1.0; goal = f.1.1.1.1.0; tries = f.1.1.1.1.1.0.within; count = f.1.1.1.1.1.1.few; entries = f.1.1.1.1.1.1.each };
      closed = refl;
    })
    (λ y. pieces6 (spelling.text y.0) (arguments_bytes y.1.0) (id_bytes y.1.1.0) (known_bytes y.1.1.1.0) (goal_bytes y.1.1.1.1.0) (y.1.1.1.1.1.0 ∷ list_spelling node_entry_bytes y.1.1.1.1.1.1))

-- an orchestrator's row under this key is read as what spells it
pub orchestrator_row_read : (version : RecordVersion) (own : ℕ)
    → IsReadWhole version (λ key. read_orchestrator_row version) (λ key. own ≡ key) (IsClosedRow version) (λ row. orchestrator_part version (record { key = own; row = row }))
orchestrator_row_read version own = read_under own version (IsClosedRow version) row_body (orchestrator_row_reads version)
