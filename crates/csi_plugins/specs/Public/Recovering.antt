-- What becomes of the stores of a recovery, and why nothing is recovered of them. This profile's own.
use Rattle.std.specs.Prelude.{◌≡◌, ◌⊎◌, ℕ, ◌+◌, List, [], ◌∷◌, ◌++◌, map, codes, ◌&&◌, not, Bool, true, false, Some, None, is_some, slice_get}
use Rattle.std.specs.List.{AllByRecursion, AllZip, list_any}
use Rattle.std.specs.Io.KnownBytes.{Appends}
use Rattle.csi_types.specs.Model.Config.{Config}
use Rattle.csi_types.specs.Model.Same.{same_text}
use Rattle.csi_controller.specs.Model.State.{ControllerState}
use Rattle.csi_controller.specs.Public.Views.{RecordParts}
use Rattle.csi_node.specs.Model.Record.{NodeParts}
use Rattle.csi_orchestrator.specs.Public.Record.{RecordParts as OrchestratorRecord}
use Rattle.csi_recovery.specs.Public.Recovered.{GivenNode, recovered, MayRecover}
use Rattle.csi_recovery.specs.declared.fault.RecoveryFault.TheVariants.{SameNode, Disagrees, BadNodes, BadRow}
use Rattle.csi_recovery.specs.Public.Judged.{IsKeptOf, AreGiven, record_of, IsRecoveryRefusal}
use Rattle.csi_recovery.specs.Public.Session.{recovery_session}
use Rattle.csi_stores.specs.Public.Counting.{HasRisen}
use Rattle.csi_stores.specs.Public.Part.{StoredPart}
use Rattle.csi_stores.specs.Public.Stores.{Store, Found, Parts, IsOnly, FindsSome, FindsEither}
use Rattle.csi_stores.specs.Public.Writing.{WritesFront}
use Rattle.csi_records.specs.declared.fault.RecordStop.TheVariants.{BadRecord}
use Rattle.csi_records.specs.declared.version.RecordVersion.{RecordVersion}
use Rattle.csi_records.specs.Public.OrchestratorRecords.{kept_parts}
use Rattle.csi_service.specs.Public.Opening.{Records, controller_records}
use Rattle.csi_service.specs.Public.Renewed.{any_node_records, IsUnread, IsRaisedAs}
use Rattle.csi_service.specs.Public.Services.{controller_view, node_view}
use Rattle.csi_reports.specs.Public.Recoveries.{IsRecoveryLine}
use Rattle.csi_streams.specs.declared.ending.Ending.{Ending}
use Rattle.csi_streams.specs.declared.ending.Ending.TheVariants as endings
use Rattle.csi_plugins.specs.Public.Recording.{Writer}

-- ---- what becomes of a store

-- it has what it had; it has that, or what it is to get; or it has what it is to get
pub data Fate : Type 0 where
  Stays : Fate
  MayChange : Fate
  Changes : Fate

-- each stays
abbrev pub AllStay : List Fate → Type 0
AllStay fates = AllByRecursion (λ fate. fate ≡ Stays) fates

-- stores are changed one after another: behind one that isn't changed, or may not be, each stays
abbrev pub AreInTurn : List Fate → Type 0
AreInTurn [] = Unit {0}
AreInTurn (Stays ∷ fates) = AllStay fates
AreInTurn (MayChange ∷ fates) = AllStay fates
AreInTurn (Changes ∷ fates) = AreInTurn fates

-- all are changed
abbrev pub AllChange : List Fate → Type 0
AllChange fates = AllByRecursion (λ fate. fate ≡ Changes) fates

-- what opening the store again finds, which had the old parts and is to get the new ones
abbrev pub IsLeft : Fate → Store → List StoredPart → List StoredPart → Type 0
IsLeft Stays now old new = IsOnly now (Parts old)
IsLeft MayChange now old new = FindsEither now old new
IsLeft Changes now old new = IsOnly now (Parts new)

-- nothing is committed: opening it again finds nothing that it wouldn't have found before, and something
pub record IsUnchanged (before after : Store) : Type 0 where
  pub honest : after.honest → before.honest
  pub left : after.honest → (found : Found) → after.leaves found → before.leaves found
  pub some : after.honest → (found : Found) → IsOnly before found → FindsSome after

-- ---- a plugin's store

-- the parts are read as this record, in some version
pub record IsRecordIn {X : Type 0} (records : Records X) (parts : List StoredPart) (kept : X) : Type 0 where
  pub version : RecordVersion
  pub is : records.are_of version parts kept

-- the store's parts are read as this record, and this becomes of them, where they are to be the record in which the session is raised
pub record IsRaisedBy {X : Type 0} (records : Records X) (Raised : X → List StoredPart → Type 0) (fate : Fate) (before after : Store) (kept : X) : Type 0 where
  pub honest : after.honest → before.honest
  pub each : after.honest → (old : List StoredPart) → before.holds old → IsRecordIn records old kept × ((new : List StoredPart) × Raised kept new × IsLeft fate after old new)

-- the record of a node as it was, but that the session was raised in it
abbrev pub IsRaisedNode : ℕ → NodeParts → List StoredPart → Type 0
IsRaisedNode session kept parts = IsRaisedAs node_view session kept parts

-- the record of a controller, under some configuration, of which it says nothing
abbrev pub IsRaisedController : ℕ → RecordParts → List StoredPart → Type 0
IsRaisedController session kept parts = (config : Config) × IsRaisedAs controller_view session (record { config = config; next_id = kept.next_id; session = kept.session; rows = kept.rows }) parts

-- a node's store in a recovery: before and after it, the record that was read of it, and what becomes of it
pub record NodeStore (K : Type 0) : Type 0 where
  pub before : K
  pub after : K
  pub kept : NodeParts
  pub fate : Fate

-- ---- what is recovered

-- these records are of an orchestrator that is made in this session
pub record IsRecovered (nodes : List (List ℕ)) (known session : ℕ) (kept : RecordParts) (given : List NodeParts) (made : OrchestratorRecord) : Type 0 where
  pub session_is : (state : ControllerState) (gs : List GivenNode) → IsKeptOf kept state → AreGiven given gs → recovery_session known state gs ≡ Some session
  pub may : (state : ControllerState) (gs : List GivenNode) → IsKeptOf kept state → AreGiven given gs → MayRecover nodes session state gs
  pub is : (state : ControllerState) (gs : List GivenNode) → IsKeptOf kept state → AreGiven given gs → made ≡ record_of (recovered nodes session state gs)

-- the record has something staged, and is of a node that isn't listed
abbrev pub is_left_out : List (List ℕ) → NodeParts → Bool
is_left_out nodes kept = list_any (λ row. is_some row.staged) kept.rows && not (list_any (λ other. same_text other kept.id) nodes)

-- so is one of these
abbrev pub leave_out_used : List (List ℕ) → List NodeParts → Bool
leave_out_used nodes given = list_any (is_left_out nodes) given

-- a refusal of the records, in the session of the recovery
abbrev pub IsRefused : List (List ℕ) → ℕ → ControllerState → List GivenNode → (ℕ → Type 0) → Type 0
IsRefused nodes known state gs Why = (session : ℕ) × (recovery_session known state gs ≡ Some session) × Why session

-- Why nothing is recovered of records: no session is left; two of the stores disagree, at this place among the words; the nodes leave out one
-- that is used; they are no orchestrator's; or memory ran out.
abbrev pub IsNoRecovery : List (List ℕ) → ℕ → List NodeParts → ControllerState → List GivenNode → Ending → Type 0
IsNoRecovery nodes known given state gs endings.NumbersSpent = recovery_session known state gs ≡ None
IsNoRecovery nodes known given state gs (endings.StoresDisagree store) =
    IsRefused nodes known state gs (λ session. ((place : ℕ) × (store ≡ place + 1) × (IsRecoveryRefusal nodes session state gs (SameNode place) ⊎ IsRecoveryRefusal nodes session state gs (Disagrees place)))
    ⊎ ((leave_out_used nodes given ≡ false) × ((row : ℕ) × IsRecoveryRefusal nodes session state gs (BadRow row))))
IsNoRecovery nodes known given state gs endings.NodeInUse = (leave_out_used nodes given ≡ true) × IsRefused nodes known state gs (λ session. (row : ℕ) × IsRecoveryRefusal nodes session state gs (BadRow row))
IsNoRecovery nodes known given state gs endings.ConfigRefused = IsRefused nodes known state gs (λ session. IsRecoveryRefusal nodes session state gs BadNodes)
IsNoRecovery nodes known given state gs endings.Memory = Unit {0}
IsNoRecovery nodes known given state gs _ = ⊥

-- the same of the records, whatever they show
abbrev pub AreRefused : List (List ℕ) → ℕ → RecordParts → List NodeParts → Ending → Type 0
AreRefused nodes known kept given ending = (state : ControllerState) (gs : List GivenNode) → IsKeptOf kept state → AreGiven given gs → IsNoRecovery nodes known given state gs ending

-- ---- all stores

-- the stores of a recovery: the new one, the controller's and the nodes'
pub record Stores (K : Type 0) : Type 0 where
  pub new : K
  pub controller : K
  pub nodes : List K

-- no store is changed
pub record AreUnchanged {K : Type 0} (seen : K → Store) (before after : Stores K) : Type 0 where
  pub new : IsUnchanged (seen before.new) (seen after.new)
  pub controller : IsUnchanged (seen before.controller) (seen after.controller)
  pub nodes : AllZip (λ (old now : K). IsUnchanged (seen old) (seen now)) before.nodes after.nodes

-- one of the stores is as its plugin's record isn't: the first part that is refused stands at this place
abbrev pub IsNoRecord : {X : Type 0} → Records X → Store → Store → ℕ → Type 0
IsNoRecord records before after place =
    after.honest → (content : List StoredPart) → before.holds content → IsUnread records content (BadRecord place)

-- that store is the one at this place among the words: the controller's is the first
abbrev pub IsNoRecordAt : {K : Type 0} → (K → Store) → Stores K → Stores K → ℕ → ℕ → Type 0
IsNoRecordAt {K} seen before after place store =
    ((store ≡ 1) × IsNoRecord controller_records (seen before.controller) (seen after.controller) place)
    ⊎ ((index : ℕ) × (old : K) × (now : K) × (store ≡ index + 2) × (slice_get before.nodes index ≡ Some old) × (slice_get after.nodes index ≡ Some now) × IsNoRecord any_node_records (seen old) (seen now) place)

-- the device under one of the stores failed
abbrev pub HasFailed : {K : Type 0} → (K → Store) → Stores K → Stores K → Type 0
HasFailed {K} seen before after =
    HasRisen (seen before.new).faults (seen after.new).faults ⊎ HasRisen (seen before.controller).faults (seen after.controller).faults
    ⊎ ((index : ℕ) × (old : K) × (now : K) × (slice_get before.nodes index ≡ Some old) × (slice_get after.nodes index ≡ Some now) × HasRisen (seen old).faults (seen now).faults)

-- the stores' parts are read as these records
pub record AreRead {K : Type 0} (seen : K → Store) (before after : Stores K) (kept : RecordParts) (given : List NodeParts) : Type 0 where
  pub controller : (seen after.controller).honest → (content : List StoredPart) → (seen before.controller).holds content → IsRecordIn controller_records content kept
  pub nodes : List (NodeStore K)
  pub before_are : map (λ node. node.before) nodes ≡ before.nodes
  pub after_are : map (λ node. node.after) nodes ≡ after.nodes
  pub kept_are : map (λ node. node.kept) nodes ≡ given
  pub each : AllByRecursion (λ node. (seen node.after).honest → (content : List StoredPart) → (seen node.before).holds content → IsRecordIn any_node_records content node.kept) nodes

-- why not all stores are read: the new one isn't new; one has no record; a device failed; or memory ran out
abbrev pub AreNotRead : {K : Type 0} → (K → Store) → Stores K → Stores K → Ending → Type 0
AreNotRead seen before after endings.StoreNotNew = (seen after.new).honest → (seen before.new).holds [] → ⊥
AreNotRead seen before after (endings.StoreFault place store) = IsNoRecordAt seen before after place store
AreNotRead seen before after endings.Device = HasFailed seen before after
AreNotRead seen before after endings.Memory = Unit {0}
AreNotRead seen before after _ = ⊥

-- why nothing is done: not all stores are read, or nothing is recovered of their records
abbrev pub IsNotBegun : {K : Type 0} → (K → Store) → List (List ℕ) → ℕ → Stores K → Stores K → Ending → Type 0
IsNotBegun seen nodes known before after ending = AreNotRead seen before after ending ⊎ ((kept : RecordParts) × (given : List NodeParts) × AreRead seen before after kept given × AreRefused nodes known kept given ending)

-- ---- a recovery

-- no store is changed, and nothing is written
pub record IsNotRecovered {K : Type 0} (seen : K → Store) (nodes : List (List ℕ)) (known : ℕ) (before after : Stores K) (had has : Writer) (ending : Ending) : Type 0 where
  pub stores : AreUnchanged seen before after
  pub written : has ≡ had
  pub cause : IsNotBegun seen nodes known before after ending

-- how it ends that changed these stores, of which the last is the new one: all is done and told, or a front of the line is written where the writer
-- failed; or a store refused
abbrev pub IsRecoveryEnd : Ending → List Fate → Writer → Writer → List (List ℕ) → OrchestratorRecord → Type 0
IsRecoveryEnd endings.Done fates had has given made = AllChange fates × (has.faults ≡ had.faults) × ((line : List ℕ) × IsRecoveryLine given made line × Appends had.contents has.contents (line ++ codes "\n"))
IsRecoveryEnd endings.Device fates had has given made =
    (AreInTurn fates × (has ≡ had)) ⊎ (AllChange fates × HasRisen had.faults has.faults × ((line : List ℕ) × IsRecoveryLine given made line × WritesFront had.contents has.contents (line ++ codes "\n")))
IsRecoveryEnd endings.Memory fates had has given made = AreInTurn fates × (has ≡ had)
IsRecoveryEnd _ fates had has given made = ⊥

-- Records were read, an orchestrator's record was made of them, and what each store is to get, before a store was changed; then the nodes' stores
-- were changed in order, then the controller's, and then the new one, until one refused.
pub record IsBegun {K : Type 0} (seen : K → Store) (nodes : List (List ℕ)) (known : ℕ) (before after : Stores K) (had has : Writer) (ending : Ending) : Type 0 where
  pub session : ℕ
  pub kept : RecordParts
  pub given : List (NodeStore K)
  pub made : OrchestratorRecord
  pub is_made : IsRecovered nodes known session kept (map (λ node. node.kept) given) made
  pub before_are : map (λ node. node.before) given ≡ before.nodes
  pub after_are : map (λ node. node.after) given ≡ after.nodes
  pub each : AllByRecursion (λ node. IsRaisedBy any_node_records (IsRaisedNode session) node.fate (seen node.before) (seen node.after) node.kept) given
  pub controller_fate : Fate
  pub controller : IsRaisedBy controller_records (IsRaisedController session) controller_fate (seen before.controller) (seen after.controller) kept
  pub new_fate : Fate
  pub new_honest : (seen after.new).honest → (seen before.new).honest
  pub new_store : (seen after.new).honest → (content : List StoredPart) → (seen before.new).holds content → (content ≡ []) × IsLeft new_fate (seen after.new) [] (kept_parts made)
  pub ends : IsRecoveryEnd ending (map (λ node. node.fate) given ++ controller_fate ∷ new_fate ∷ []) had has (map (λ node. node.kept.id) given) made

-- one or the other
abbrev pub Recovers : {K : Type 0} → (K → Store) → List (List ℕ) → ℕ → Stores K → Stores K → Writer → Writer → Ending → Type 0
Recovers seen nodes known before after had has ending = IsNotRecovered seen nodes known before after had has ending ⊎ IsBegun seen nodes known before after had has ending
