-- What the parts of a recovery do, each by itself. This profile's own.
use Rattle.std.specs.Prelude.{◌≡◌, ℕ, ◌+◌, min, Bool, true, false, List, [], ◌∷◌, ◌++◌, map, codes, Some, slice_get}
use Rattle.std.specs.List.{AllByRecursion}
use Rattle.std.specs.Global.{Vec}
use Rattle.csi_controller.specs.Public.Views.{RecordParts}
use Rattle.csi_node.specs.Model.Record.{NodeParts}
use Rattle.csi_orchestrator.specs.Public.Record.{RecordParts as OrchestratorRecord}
use Rattle.csi_recovery.specs.declared.fault.RecoveryFault.{RecoveryFault}
use Rattle.csi_recovery.specs.declared.fault.RecoveryFault.TheVariants.{SameNode, NotLater, Disagrees, BadNodes, BadRow, NoMemory as RefusedMemory}
use Rattle.csi_stores.specs.declared.part.Part.{Part}
use Rattle.csi_stores.specs.declared.keep.KeepFault.{KeepFault}
use Rattle.csi_stores.specs.declared.keep.KeepFault.TheVariants.{Device, NoMemory, BadRecord, Full}
use Rattle.csi_stores.specs.Public.Counting.{HasRisen}
use Rattle.csi_stores.specs.Public.Content.{all_changed}
use Rattle.csi_stores.specs.Public.Part.{StoredPart, StoredChange, part_change, put_all}
use Rattle.csi_stores.specs.Public.Stores.{Store, Parts, IsOnly}
use Rattle.csi_records.specs.Public.OrchestratorRecords.{kept_parts}
use Rattle.csi_service.specs.Public.Opening.{Records, controller_records}
use Rattle.csi_service.specs.Public.Renewed.{any_node_records, IsReadAs}
use Rattle.csi_reports.specs.Public.Recoveries.{IsRecoveryLine}
use Rattle.csi_streams.specs.declared.ending.Ending.{Ending}
use Rattle.csi_streams.specs.declared.ending.Ending.TheVariants as endings
use Rattle.csi_plugins.specs.Public.Recovering.{Fate, Stores, IsLeft, IsUnchanged, IsNoRecord, IsRaisedNode, IsRaisedController, IsRecovered}

-- parts as changes
abbrev pub changes_of : Vec Part → List StoredChange
changes_of parts = map part_change parts.items

-- ---- reading

-- how a process ends where the store at this place among the words refuses so
abbrev pub ending_at : KeepFault → ℕ → Ending
ending_at Device store = endings.Device
ending_at NoMemory store = endings.Memory
ending_at (BadRecord place) store = endings.StoreFault place store
ending_at Full store = endings.Device

-- and where the store that is to be made does
abbrev pub ending_of_new : KeepFault → Ending
ending_of_new Device = endings.Device
ending_of_new NoMemory = endings.Memory
ending_of_new (BadRecord place) = endings.StoreNotNew
ending_of_new Full = endings.Device

-- why a store isn't known to be new
abbrev pub IsNotNew : Store → Store → Ending → Type 0
IsNotNew before after endings.StoreNotNew = after.honest → before.holds [] → ⊥
IsNotNew before after endings.Device = HasRisen before.faults after.faults
IsNotNew before after endings.Memory = Unit {0}
IsNotNew before after _ = ⊥

-- a new store has no part, alone
abbrev pub IsNew : Store → Store → Type 0
IsNew before after = after.honest → (content : List StoredPart) → before.holds content → (content ≡ []) × IsOnly after (Parts [])

-- the record and what renews it were read of the store, which has what it had
pub record HasRead {X : Type 0} (records : Records X) (before after : Store) (kept : X) (renewal : List StoredChange) : Type 0 where
  pub unchanged : IsUnchanged before after
  pub each : after.honest → (content : List StoredPart) → before.holds content → IsReadAs records content kept renewal × IsOnly after (Parts content)

-- why no record was read of the store at this place among the words
abbrev pub IsNotRead : {X : Type 0} → Records X → Store → Store → ℕ → Ending → Type 0
IsNotRead records before after at (endings.StoreFault place store) = (store ≡ at) × IsNoRecord records before after place
IsNotRead records before after at endings.Device = HasRisen before.faults after.faults
IsNotRead records before after at endings.Memory = Unit {0}
IsNotRead records before after at _ = ⊥

-- a node's store that was read
pub record ReadStore (K : Type 0) : Type 0 where
  pub before : K
  pub after : K
  pub kept : NodeParts
  pub renewal : List StoredChange

-- the stores were read, one by one
pub record HaveRead {K : Type 0} (seen : K → Store) (olds news : List K) (kepts : List NodeParts) (renewals : List (List StoredChange)) : Type 0 where
  pub stores : List (ReadStore K)
  pub olds_are : map (λ s. s.before) stores ≡ olds
  pub news_are : map (λ s. s.after) stores ≡ news
  pub kepts_are : map (λ s. s.kept) stores ≡ kepts
  pub renewals_are : map (λ s. s.renewal) stores ≡ renewals
  pub each : AllByRecursion (λ s. HasRead any_node_records (seen s.before) (seen s.after) s.kept s.renewal) stores

-- why they weren't: one has no record; one failed; or memory ran out
pub record IsOneNotRead {K : Type 0} (seen : K → Store) (olds news : List K) (ending : Ending) : Type 0 where
  pub index : ℕ
  pub old : K
  pub now : K
  pub there : slice_get olds index ≡ Some old
  pub now_there : slice_get news index ≡ Some now
  pub why : IsNotRead any_node_records (seen old) (seen now) (index + 2) ending

-- ---- judging

-- how a process ends where a live volume can have no row: the nodes leave out one that is used, or two stores disagree
abbrev pub EndsByRow : Bool → Ending → Type 0
EndsByRow true ending = ending ≡ endings.NodeInUse
EndsByRow false ending = (store : ℕ) × (ending ≡ endings.StoresDisagree store)

-- how a process ends where the records of this many nodes are refused so
abbrev pub EndsByFault : Bool → ℕ → RecoveryFault → Ending → Type 0
EndsByFault leaves_out count (SameNode place) ending = ending ≡ endings.StoresDisagree (min place count + 1)
EndsByFault leaves_out count NotLater ending = ending ≡ endings.NumbersSpent
EndsByFault leaves_out count (Disagrees place) ending = ending ≡ endings.StoresDisagree (min place count + 1)
EndsByFault leaves_out count BadNodes ending = ending ≡ endings.ConfigRefused
EndsByFault leaves_out count (BadRow place) ending = EndsByRow leaves_out ending
EndsByFault leaves_out count RefusedMemory ending = ending ≡ endings.Memory

-- ---- what each store is to get

-- what renews a store and what it is to be given, which make of a record the one in which the session is raised
abbrev pub LeadsOn : {X : Type 0} → Records X → (X → List StoredPart → Type 0) → X → List StoredChange → List StoredChange → Type 0
LeadsOn records Raised kept renewal changes = (content : List StoredPart) → all_changed renewal content ≡ records.parts_of kept → Raised kept (all_changed changes content)

-- a node's record, and what is made of it
pub record MadeChanges : Type 0 where
  pub kept : NodeParts
  pub renewal : List StoredChange
  pub changes : List StoredChange

-- so for each node
pub record AreMade (session : ℕ) (kepts : List NodeParts) (renewals all_changes : List (List StoredChange)) : Type 0 where
  pub made : List MadeChanges
  pub kepts_are : map (λ m. m.kept) made ≡ kepts
  pub renewals_are : map (λ m. m.renewal) made ≡ renewals
  pub changes_are : map (λ m. m.changes) made ≡ all_changes
  pub each : AllByRecursion (λ m. LeadsOn any_node_records (IsRaisedNode session) m.kept m.renewal m.changes) made

-- the line of a recovery, and a newline
pub record IsToldSo (given : List (List ℕ)) (made : OrchestratorRecord) (text : List ℕ) : Type 0 where
  pub line : List ℕ
  pub is_line : IsRecoveryLine given made line
  pub ended : text ≡ line ++ codes "\n"

-- what is to be done where these records were read
pub record IsPlanned (nodes : List (List ℕ)) (known : ℕ) (kept : RecordParts) (renewal : List StoredChange) (kepts : List NodeParts) (renewals : List (List StoredChange))
    (node_changes : List (List StoredChange)) (controller_changes new_changes : List StoredChange) (line : List ℕ) : Type 0 where
  pub session : ℕ
  pub made : OrchestratorRecord
  pub is_made : IsRecovered nodes known session kept kepts made
  pub of_nodes : AreMade session kepts renewals node_changes
  pub of_controller : LeadsOn controller_records (IsRaisedController session) kept renewal controller_changes
  pub of_new : new_changes ≡ put_all (kept_parts made)
  pub told : IsToldSo (map (λ k. k.id) kepts) made line

-- ---- giving it

-- a store that was given changes, or not
pub record GivenStore (K : Type 0) : Type 0 where
  pub before : K
  pub after : K
  pub changes : List StoredChange
  pub fate : Fate

-- what becomes of a store that is given these changes, and had its parts alone
pub record IsGiven (fate : Fate) (before after : Store) (changes : List StoredChange) : Type 0 where
  pub honest : after.honest → before.honest
  pub left : after.honest → (content : List StoredPart) → IsOnly before (Parts content) → IsLeft fate after content (all_changed changes content)

-- the stores were given their changes in order
pub record AreGivenTo {K : Type 0} (seen : K → Store) (olds news : List K) (all_changes : List (List StoredChange)) (Fates : List Fate → Type 0) : Type 0 where
  pub stores : List (GivenStore K)
  pub olds_are : map (λ s. s.before) stores ≡ olds
  pub news_are : map (λ s. s.after) stores ≡ news
  pub changes_are : map (λ s. s.changes) stores ≡ all_changes
  pub each : AllByRecursion (λ s. IsGiven s.fate (seen s.before) (seen s.after) s.changes) stores
  pub fates : Fates (map (λ s. s.fate) stores)

-- a refusal of a commit ends so
abbrev pub IsCommitEnd : KeepFault → Type 0
IsCommitEnd Device = Unit {0}
IsCommitEnd NoMemory = Unit {0}
IsCommitEnd (BadRecord place) = ⊥
IsCommitEnd Full = Unit {0}

-- the nodes' stores, the controller's and the new one were given their changes, in this order
pub record AreAllGiven {K : Type 0} (seen : K → Store) (before after : Stores K) (node_changes : List (List StoredChange)) (controller_changes new_changes : List StoredChange) (Fates : List Fate → Type 0) : Type 0 where
  pub stores : List (GivenStore K)
  pub olds_are : map (λ s. s.before) stores ≡ before.nodes
  pub news_are : map (λ s. s.after) stores ≡ after.nodes
  pub changes_are : map (λ s. s.changes) stores ≡ node_changes
  pub each : AllByRecursion (λ s. IsGiven s.fate (seen s.before) (seen s.after) s.changes) stores
  pub controller_fate : Fate
  pub controller : IsGiven controller_fate (seen before.controller) (seen after.controller) controller_changes
  pub new_fate : Fate
  pub new : IsGiven new_fate (seen before.new) (seen after.new) new_changes
  pub fates : Fates (map (λ s. s.fate) stores ++ controller_fate ∷ new_fate ∷ [])

-- ---- all of it

-- all stores were read, and what is to be done was made
pub record IsReady {K : Type 0} (seen : K → Store) (nodes : List (List ℕ)) (known : ℕ) (before after : Stores K) (node_changes : List (List StoredChange)) (controller_changes new_changes : List StoredChange) (line : List ℕ) : Type 0 where
  pub kept : RecordParts
  pub renewal : List StoredChange
  pub kepts : List NodeParts
  pub renewals : List (List StoredChange)
  pub new : IsNew (seen before.new) (seen after.new)
  pub new_unchanged : IsUnchanged (seen before.new) (seen after.new)
  pub controller : HasRead controller_records (seen before.controller) (seen after.controller) kept renewal
  pub of_nodes : HaveRead seen before.nodes after.nodes kepts renewals
  pub planned : IsPlanned nodes known kept renewal kepts renewals node_changes controller_changes new_changes line
