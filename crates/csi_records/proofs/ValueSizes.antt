-- How long the values of parts are at most.
use Rattle.std.proofs.Common.{◌≡◌, ℕ, ◌+◌, ◌*◌, ◌≤◌, ◌<◌, ◌^◌, List, [], ◌∷◌, ◌++◌, length, Some, None, arith}
use Rattle.std.specs.Prelude.{Option}
use Rattle.std.specs.List.{flat_map, AllByRecursion}
use Rattle.std.proofs.lemmas.List.{length-append}
use Rattle.std.proofs.Math.Nat.{suc-mul}
use Rattle.csi_types.specs.declared.capability.Access.{Access}
use Rattle.csi_types.specs.declared.capability.Access.TheVariants.{Block, Mount}
use Rattle.csi_types.specs.declared.capability.Capability.{Capability}
use Rattle.csi_types.specs.declared.reply.Reply.{Reply}
use Rattle.csi_fence.specs.Model.Fence.{Kept}
use Rattle.csi_types.specs.Model.Mode.{mode_number}
use Rattle.csi_types.specs.Model.Same.{kind_number}
use Rattle.csi_types.specs.Public.Limits.{IsAccess, IsReply}
use Rattle.csi_frames.specs.Public.Spelling as spelling
use Rattle.csi_records.specs.declared.version.RecordVersion.{RecordVersion}
use Rattle.csi_records.specs.Public.Version.{record_version_number}
use Rattle.csi_controller.specs.declared.row.NodeHolding.{NodeHolding}
use Rattle.csi_node.specs.declared.row.NodeTarget.{NodeTarget}
use Rattle.csi_node.specs.Model.OneRow.{NodeRowShown}
use Rattle.csi_records.specs.Public.Spelling.{VolumeRow, state_byte, list_spelling, holding_bytes, target_bytes, kept_bytes, staged_bytes, volume_bytes, answered_bytes}
use Rattle.csi_records.specs.Public.Records.{IsCapabilityIn, IsHolding, IsTargetRow, IsStagedSo, IsKeptCall, IsVolumeRow, IsAnsweredRow}
use Rattle.csi_types.specs.Public.Text.{IsNodeId}
use Rattle.csi_orchestrator.specs.declared.request.Arguments.{Arguments}
use Rattle.csi_orchestrator.specs.declared.request.Usage.{Usage}
use Rattle.csi_orchestrator.specs.declared.row.Goal.{Goal}
use Rattle.csi_orchestrator.specs.declared.row.Goal.TheVariants.{Create, Use, Stop, Delete}
use Rattle.csi_orchestrator.specs.declared.row.TargetEntry.{TargetEntry}
use Rattle.csi_orchestrator.specs.Model.Shown.{NodeEntryShown, RowShown}
use Rattle.csi_records.specs.Public.OrchestratorSpelling.{orchestrator_head, known_bytes, arguments_bytes, id_bytes, usage_bytes, goal_bytes, target_entry_bytes, node_entry_bytes, orchestrator_row}
use Rattle.csi_records.specs.Public.OrchestratorRows.{OrchestratorHeadShown, IsOrchestratorHead, AreArguments, IsUsage, IsGoal, IsTargetEntry, IsNodeEntry, IsOrchestratorRow}

-- how long the spelling of each value is at most
access-size : (a : Access) → IsAccess a → length (spelling.access a) ≤ 130
access-size Block fits = omega arith
access-size (Mount fs_type) fits = omega (arith, fits.no_longer)

-- a capability has at most 131 bytes
pub capability-size : (version : RecordVersion) (c : Capability) → IsCapabilityIn version c → length (spelling.capability c) ≤ 131
capability-size version c fits = omega (arith, access-size c.access fits.fits, length-append (spelling.access c.access) (mode_number c.mode ∷ []))

-- items of at most so many bytes each
pub flat-size : {X : Type 0} (Fits : X → Type 0) (spell : X → List ℕ) (most : ℕ) → ((x : X) → Fits x → length (spell x) ≤ most) → (xs : List X) → AllByRecursion Fits xs → length (flat_map spell xs) ≤ length xs * most
flat-size Fits spell most one [] fits = omega arith
flat-size Fits spell most one (x ∷ xs) fits = rw (suc-mul (length xs) most) (omega (arith, one x fits.0, flat-size Fits spell most one xs fits.1, length-append (spell x) (flat_map spell xs)))

-- a holding has at most 388 bytes
holding-size : (version : RecordVersion) (h : NodeHolding) → IsHolding version h → length (holding_bytes h) ≤ 388
holding-size version h fits =
    omega (arith, fits.node.no_longer, capability-size version h.capability fits.capability, length-append (spelling.text h.node) (spelling.capability h.capability), length-append (spelling.text h.node ++ spelling.capability h.capability) (spelling.flag h.readonly))

-- a target has at most 257 bytes
target-size : (t : NodeTarget) → IsTargetRow t → length (target_bytes t) ≤ 257
target-size t fits = omega (arith, fits.no_longer, length-append (spelling.text t.target) (spelling.flag t.readonly))

-- a reply's id has at most 8 bytes
id-size : (id : Option ℕ) → length (spelling.reply_id id) ≤ 8
id-size None = omega arith
id-size (Some n) = omega arith

-- a reply has at most 265 bytes
reply-size : (r : Reply) → IsReply r → length (spelling.reply_fields r) ≤ 265
reply-size r fits = omega (arith, fits.detail_fits.no_longer, id-size r.id, length-append (spelling.reply_id r.id) (spelling.text r.detail))

-- a kept reply, with its number and its kind, has at most 282 bytes
kept-size : (k : Kept) → IsKeptCall k → length (kept_bytes k) ≤ 282
kept-size k fits =
    let words : List ℕ = spelling.word k.number.session ++ spelling.word k.number.call in
    omega (arith, reply-size k.reply fits.reply, length-append words ((128 + kind_number k.kind) ∷ spelling.reply_fields k.reply), length-append (spelling.word k.number.session) (spelling.word k.number.call))

-- how a volume is staged has at most 132 bytes
staged-size : (version : RecordVersion) (s : Option Capability) → IsStagedSo version s → length (staged_bytes s) ≤ 132
staged-size version None fits = omega arith
staged-size version (Some c) fits = omega (arith, capability-size version c fits)

-- the length of six pieces, and below of three, is the sum of theirs
pub length6 : (a b c d e f : List ℕ) → length (a ++ b ++ c ++ d ++ e ++ f) ≡ length a + length b + length c + length d + length e + length f
length6 a b c d e f = simp length-append

-- the length of three pieces is the sum of theirs
pub length3 : (a b c : List ℕ) → length (a ++ b ++ c) ≡ length a + length b + length c
length3 a b c = simp length-append

-- lengths below these limits add up to less than 2^32
small : (n a b c d e f : ℕ) → n ≡ a + b + c + d + e + f → a ≤ 200 → b ≤ 200 → c ≤ 200 → d ≤ 2000 → e ≤ 30000 → f ≤ 282 → n < 2 ^ 32
small n a b c d e f is ha hb hc hd he hf = omega arith

-- the value of a volume's part, and below of a node's row, is shorter than 2^32 bytes
pub volume_size : (version : RecordVersion) (row : VolumeRow) → IsVolumeRow version row → length (volume_bytes version row) < 2 ^ 32
volume_size version row fits =
    let a : List ℕ = record_version_number version ∷ state_byte row.volume.is_live ∷ [] in
    let b : List ℕ = spelling.text row.volume.name in
    let c : List ℕ = spelling.word row.volume.capacity in
    let d : List ℕ = list_spelling spelling.capability row.volume.capabilities in
    let e : List ℕ = list_spelling holding_bytes row.holdings in
    small (length (volume_bytes version row)) (length a) (length b) (length c) (length d) (length e) (length (kept_bytes row.volume.kept)) (length6 a b c d e (kept_bytes row.volume.kept))
    (omega arith) (omega (arith, fits.name.no_longer)) (omega arith) (omega (arith, fits.capability_count, flat-size (IsCapabilityIn version) spelling.capability 131 (capability-size version) row.volume.capabilities fits.capabilities))
    (omega (arith, fits.count, flat-size (IsHolding version) holding_bytes 388 (holding-size version) row.holdings fits.holdings)) (kept-size row.volume.kept fits.kept)

-- the value of a node's row is shorter than 2^32 bytes
pub answered_size : (version : RecordVersion) (row : NodeRowShown) → IsAnsweredRow version row → length (answered_bytes version row) < 2 ^ 32
answered_size version row fits =
    let a : List ℕ = record_version_number version ∷ staged_bytes row.staged in
    let b : List ℕ = list_spelling target_bytes row.targets in
    small (length (answered_bytes version row)) (length a) 0 0 0 (length b) (length (kept_bytes row.kept)) (ordered (length a) (length b) (length (kept_bytes row.kept)) (length3 a b (kept_bytes row.kept)))
    (omega (arith, staged-size version row.staged fits.staged)) (omega arith) (omega arith) (omega arith)
    (omega (arith, fits.count, flat-size IsTargetRow target_bytes 257 target-size row.targets fits.targets)) (kept-size row.kept fits.kept)
  where
    ordered : {n : ℕ} (a b c : ℕ) → n ≡ a + b + c → n ≡ a + 0 + 0 + 0 + b + c
    ordered a b c h = omega arith

-- ---- an orchestrator's

-- the length of four pieces is the sum of theirs
length4 : (a b c d : List ℕ) → length (a ++ b ++ c ++ d) ≡ length a + length b + length c + length d
length4 a b c d = simp length-append

-- a node's id has at most 256 bytes
node-size : (node : List ℕ) → IsNodeId node → length (spelling.text node) ≤ 256
node-size node fits = omega (arith, fits.no_longer)

-- a head has at most 16,395 bytes
pub orchestrator_head_size : (version : RecordVersion) (head : OrchestratorHeadShown) → IsOrchestratorHead version head → length (orchestrator_head version head.session head.nodes).value ≤ 16395
orchestrator_head_size version head fits =
    omega (arith, fits.count, flat-size IsNodeId spelling.text 256 node-size head.nodes fits.nodes, length-append (spelling.word head.session) (list_spelling spelling.text head.nodes))

-- what a volume was to be created with has at most 1,065 bytes
arguments-size : (version : RecordVersion) (arguments : Arguments) → AreArguments version arguments → length (arguments_bytes arguments) ≤ 1065
arguments-size version arguments fits =
    omega (
      arith,
      fits.count,
      flat-size (IsCapabilityIn version) spelling.capability 131 (capability-size version) arguments.capabilities fits.capabilities,
      length3 (spelling.word arguments.required) (spelling.word arguments.limit) (list_spelling spelling.capability arguments.capabilities),
    )

-- an id, or none, has at most 9 bytes
id-if-size : (id : Option ℕ) → length (id_bytes id) ≤ 9
id-if-size None = omega arith
id-if-size (Some id) = omega arith

-- a use has at most 644 bytes
usage-size : (version : RecordVersion) (usage : Usage) → IsUsage version usage → length (usage_bytes usage) ≤ 644
usage-size version usage fits =
    omega (
      arith,
      fits.node.no_longer,
      fits.target.no_longer,
      capability-size version usage.capability fits.capability,
      length4 (spelling.text usage.node) (spelling.text usage.target) (spelling.capability usage.capability) (spelling.flag usage.readonly),
    )

-- a goal, or none, has at most 645 bytes
goal-size : (version : RecordVersion) (goal : Option Goal) → IsGoal version goal → length (goal_bytes goal) ≤ 645
goal-size version None fits = omega arith
goal-size version (Some Create) fits = omega arith
goal-size version (Some (Use usage)) fits = omega (arith, usage-size version usage fits)
goal-size version (Some (Stop node target)) fits = omega (arith, fits.0.no_longer, fits.1.no_longer, length-append (spelling.text node) (spelling.text target))
goal-size version (Some Delete) fits = omega arith

-- a target's entry has at most 257 bytes
target-entry-size : (entry : TargetEntry) → IsTargetEntry entry → length (target_entry_bytes entry) ≤ 257
target-entry-size entry fits = omega (arith, fits.no_longer, length-append (spelling.text entry.target) (known_bytes entry.published))

-- a node's entry has at most 4,503 bytes
node-entry-size : (version : RecordVersion) (entry : NodeEntryShown) → IsNodeEntry version entry → length (node_entry_bytes entry) ≤ 4503
node-entry-size version entry fits =
    omega (
      arith,
      fits.node.no_longer,
      capability-size version entry.capability fits.capability,
      fits.count,
      flat-size IsTargetEntry target_entry_bytes 257 target-entry-size entry.target_entries fits.targets,
      length6 (spelling.text entry.node) (spelling.capability entry.capability) (spelling.flag entry.readonly) (known_bytes entry.attached) (known_bytes entry.staged)
          (list_spelling target_entry_bytes entry.target_entries),
    )

-- six lengths below these limits
row-limit : (n a b c d e f : ℕ) → n ≡ a + b + c + d + e + f → a ≤ 130 → b ≤ 1065 → c ≤ 9 → d ≤ 1 → e ≤ 645 → f ≤ 288194 → n ≤ 290044
row-limit n a b c d e f is ha hb hc hd he hf = omega arith

-- the value of a row has at most 290,044 bytes
pub orchestrator_row_size : (version : RecordVersion) (row : RowShown) → IsOrchestratorRow version row → length (orchestrator_row version row) ≤ 290044
orchestrator_row_size version row fits =
    let a : List ℕ = record_version_number version ∷ spelling.text row.name in
    let b : List ℕ = arguments_bytes row.arguments in
    let c : List ℕ = id_bytes row.id in
    let d : List ℕ = known_bytes row.exists in
    let e : List ℕ = goal_bytes row.goal in
    let f : List ℕ = row.tries ∷ list_spelling node_entry_bytes row.node_entries in
    row-limit (length (orchestrator_row version row)) (length a) (length b) (length c) (length d) (length e) (length f) (length6 a b c d e f)
    (omega (arith, fits.name.no_longer)) (arguments-size version row.arguments fits.arguments) (id-if-size row.id) (omega arith) (goal-size version row.goal fits.goal)
    (omega (arith, fits.count, flat-size (IsNodeEntry version) node_entry_bytes 4503 (node-entry-size version) row.node_entries fits.entries))
