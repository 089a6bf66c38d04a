-- What becomes of the stores where a controller's is made of the orchestrator's, and why none is made. This profile's own.
use Rattle.std.specs.Prelude.{◌≡◌, ◌⊎◌, ℕ, ◌+◌, List, [], ◌∷◌, ◌++◌, map, codes, slice_get, Some}
use Rattle.std.specs.List.{AllByRecursion, AllZip}
use Rattle.std.specs.Io.KnownBytes.{Appends}
use Rattle.csi_controller.specs.Model.State.{ControllerState}
use Rattle.csi_controller.specs.Public.Views.{RecordParts}
use Rattle.csi_node.specs.Model.Record.{NodeParts}
use Rattle.csi_orchestrator.specs.Public.Record.{RecordParts as OrchestratorRecord}
use Rattle.csi_recovery.specs.Public.Recovered.{GivenNode}
use Rattle.csi_recovery.specs.declared.fault.RecoveryFault.TheVariants.{SameNode, NotLater, Disagrees}
use Rattle.csi_recovery.specs.declared.rebuilding_fault.RebuildingFault.TheVariants.{NumbersSpent, IdTaken, BadRow}
use Rattle.csi_recovery.specs.Public.Judged.{IsKeptOf, AreGiven}
use Rattle.csi_recovery.specs.Public.Rebuilding.{AreLike, IsUnlike, IsRebuiltOf, IsRebuildingRefusal}
use Rattle.csi_stores.specs.Public.Counting.{HasRisen}
use Rattle.csi_stores.specs.Public.Part.{StoredPart}
use Rattle.csi_stores.specs.Public.Stores.{Store}
use Rattle.csi_stores.specs.Public.Writing.{WritesFront}
use Rattle.csi_records.specs.Public.OrchestratorRecords.{orchestrator_layout, kept_parts, IsOrchestratorOf}
use Rattle.csi_records.specs.Public.Records.{IsRecordOf}
use Rattle.csi_service.specs.Public.Opening.{Records, controller_records}
use Rattle.csi_service.specs.Public.Renewed.{any_node_records}
use Rattle.csi_reports.specs.Public.Rebuildings.{IsRebuildingLine}
use Rattle.csi_streams.specs.declared.ending.Ending.{Ending}
use Rattle.csi_streams.specs.declared.ending.Ending.TheVariants as endings
use Rattle.csi_plugins.specs.Public.Recording.{Writer}
use Rattle.csi_plugins.specs.Public.Recovering.{Fate, AreInTurn, IsLeft, IsUnchanged, IsRecordIn, IsNoRecord, NodeStore}
use Rattle.csi_plugins.specs.Public.Recovering.Fate.{Changes}

-- the records of orchestrators
abbrev pub orchestrator_records : Records OrchestratorRecord
orchestrator_records = record {
  are = λ version. IsRecordOf (orchestrator_layout version);
  are_of = IsOrchestratorOf;
  parts_of = kept_parts;
}

-- the stores: the new one, the orchestrator's and the nodes'
pub record Sources (K : Type 0) : Type 0 where
  pub new : K
  pub orchestrator : K
  pub nodes : List K

-- the orchestrator's and the nodes' stores aren't changed
pub record AreKept {K : Type 0} (seen : K → Store) (before after : Sources K) : Type 0 where
  pub orchestrator : IsUnchanged (seen before.orchestrator) (seen after.orchestrator)
  pub nodes : AllZip (λ (old now : K). IsUnchanged (seen old) (seen now)) before.nodes after.nodes

-- ---- why nothing is made

-- one of the stores is as its record isn't: the first part that is refused stands at this place, and the store at that one among the words: the
-- orchestrator's is the first
abbrev pub IsNoSourceAt : {K : Type 0} → (K → Store) → Sources K → Sources K → ℕ → ℕ → Type 0
IsNoSourceAt {K} seen before after place store =
    ((store ≡ 1) × IsNoRecord orchestrator_records (seen before.orchestrator) (seen after.orchestrator) place)
    ⊎ ((index : ℕ) × (old : K) × (now : K) × (store ≡ index + 2) × (slice_get before.nodes index ≡ Some old) × (slice_get after.nodes index ≡ Some now) × IsNoRecord any_node_records (seen old) (seen now) place)

-- the device under one of the stores failed
abbrev pub HasSourceFailed : {K : Type 0} → (K → Store) → Sources K → Sources K → Type 0
HasSourceFailed {K} seen before after =
    HasRisen (seen before.new).faults (seen after.new).faults ⊎ HasRisen (seen before.orchestrator).faults (seen after.orchestrator).faults
    ⊎ ((index : ℕ) × (old : K) × (now : K) × (slice_get before.nodes index ≡ Some old) × (slice_get after.nodes index ≡ Some now) × HasRisen (seen old).faults (seen now).faults)

-- the stores' parts are read as these records
pub record AreSourcesRead {K : Type 0} (seen : K → Store) (before after : Sources K) (kept : OrchestratorRecord) (given : List NodeParts) : Type 0 where
  pub orchestrator : (seen after.orchestrator).honest → (content : List StoredPart) → (seen before.orchestrator).holds content → IsRecordIn orchestrator_records content kept
  pub nodes : List (NodeStore K)
  pub before_are : map (λ node. node.before) nodes ≡ before.nodes
  pub after_are : map (λ node. node.after) nodes ≡ after.nodes
  pub kept_are : map (λ node. node.kept) nodes ≡ given
  pub each : AllByRecursion (λ node. (seen node.after).honest → (content : List StoredPart) → (seen node.before).holds content → IsRecordIn any_node_records content node.kept) nodes

-- why not all stores are read: the new one isn't new; one has no record; a device failed; or memory ran out
abbrev pub AreSourcesNotRead : {K : Type 0} → (K → Store) → Sources K → Sources K → Ending → Type 0
AreSourcesNotRead seen before after endings.StoreNotNew = (seen after.new).honest → (seen before.new).holds [] → ⊥
AreSourcesNotRead seen before after (endings.StoreFault place store) = IsNoSourceAt seen before after place store
AreSourcesNotRead seen before after endings.Device = HasSourceFailed seen before after
AreSourcesNotRead seen before after endings.Memory = Unit {0}
AreSourcesNotRead seen before after _ = ⊥

-- the nodes' records don't go with this one of a controller, for this cause
abbrev pub AreUnlike : RecordParts → List NodeParts → (ControllerState → List GivenNode → Type 0) → Type 0
AreUnlike made given Why = (state : ControllerState) (gs : List GivenNode) → IsKeptOf made state → AreGiven given gs → Why state gs

-- a controller's record was made, and the nodes' records don't go with it
abbrev pub IsUnlikeMade : ℕ → OrchestratorRecord → List NodeParts → (ControllerState → List GivenNode → Type 0) → Type 0
IsUnlikeMade next_id kept given Why = (made : RecordParts) × IsRebuiltOf (kept.session + 1) next_id kept.rows made × AreUnlike made given Why

-- Why nothing is made of records: no session is left; the next id isn't above one that is known; a row can't be a controller's; two of the stores
-- disagree, at this place among the words; a node heard of a later session; or memory ran out.
abbrev pub IsNoRebuilding : ℕ → OrchestratorRecord → List NodeParts → Ending → Type 0
IsNoRebuilding next_id kept given endings.NumbersSpent = IsRebuildingRefusal next_id kept NumbersSpent
IsNoRebuilding next_id kept given endings.IdTaken = (place : ℕ) × IsRebuildingRefusal next_id kept (IdTaken place)
IsNoRebuilding next_id kept given (endings.StoreFault place store) = (store ≡ 1) × ((row : ℕ) × IsRebuildingRefusal next_id kept (BadRow row))
IsNoRebuilding next_id kept given (endings.StoresDisagree store) =
    IsUnlikeMade next_id kept given (λ state gs. (place : ℕ) × (store ≡ place + 1) × (IsUnlike state gs (SameNode place) ⊎ IsUnlike state gs (Disagrees place)))
IsNoRebuilding next_id kept given endings.OlderStore = IsUnlikeMade next_id kept given (λ state gs. IsUnlike state gs NotLater)
IsNoRebuilding next_id kept given endings.Memory = Unit {0}
IsNoRebuilding next_id kept given _ = ⊥

-- why nothing is made: not all stores are read, or nothing is made of their records
abbrev pub IsNotMade : {K : Type 0} → (K → Store) → ℕ → Sources K → Sources K → Ending → Type 0
IsNotMade seen next_id before after ending =
    AreSourcesNotRead seen before after ending ⊎ ((kept : OrchestratorRecord) × (given : List NodeParts) × AreSourcesRead seen before after kept given × IsNoRebuilding next_id kept given ending)

-- nothing is changed or written
pub record IsNotRebuilt {K : Type 0} (seen : K → Store) (next_id : ℕ) (before after : Sources K) (had has : Writer) (ending : Ending) : Type 0 where
  pub kept : AreKept seen before after
  pub new : IsUnchanged (seen before.new) (seen after.new)
  pub written : has ≡ had
  pub cause : IsNotMade seen next_id before after ending

-- ---- what is made

-- this record of a controller is made of the orchestrator's, and the nodes' go with it
pub record IsRebuiltFrom (next_id : ℕ) (kept : OrchestratorRecord) (given : List NodeParts) (made : RecordParts) : Type 0 where
  pub is : IsRebuiltOf (kept.session + 1) next_id kept.rows made
  pub like : AreUnlike made given AreLike

-- how it ends, by what becomes of the new store: all is done and told, or a front of the line is written where the writer failed; or the store refused
abbrev pub IsRebuildingEnd : Ending → Fate → Writer → Writer → OrchestratorRecord → RecordParts → Type 0
IsRebuildingEnd endings.Done fate had has kept made =
    (fate ≡ Changes) × (has.faults ≡ had.faults) × ((line : List ℕ) × IsRebuildingLine kept made line × Appends had.contents has.contents (line ++ codes "\n"))
IsRebuildingEnd endings.Device fate had has kept made =
    (AreInTurn (fate ∷ []) × (has ≡ had)) ⊎ ((fate ≡ Changes) × HasRisen had.faults has.faults × ((line : List ℕ) × IsRebuildingLine kept made line × WritesFront had.contents has.contents (line ++ codes "\n")))
IsRebuildingEnd endings.Memory fate had has kept made = AreInTurn (fate ∷ []) × (has ≡ had)
IsRebuildingEnd _ fate had has kept made = ⊥

-- Records were read, a controller's was made of them, and then the new store was given its parts, or refused them; no other store is changed.
pub record IsRebuildingBegun {K : Type 0} (seen : K → Store) (next_id : ℕ) (before after : Sources K) (had has : Writer) (ending : Ending) : Type 0 where
  pub orchestrators : OrchestratorRecord
  pub given : List NodeParts
  pub made : RecordParts
  pub is_made : IsRebuiltFrom next_id orchestrators given made
  pub read : AreSourcesRead seen before after orchestrators given
  pub kept : AreKept seen before after
  pub fate : Fate
  pub new_honest : (seen after.new).honest → (seen before.new).honest
  pub new_store : (seen after.new).honest → (content : List StoredPart) → (seen before.new).holds content → (content ≡ []) × IsLeft fate (seen after.new) [] (controller_records.parts_of made)
  pub ends : IsRebuildingEnd ending fate had has orchestrators made

-- one or the other
abbrev pub Rebuilds : {K : Type 0} → (K → Store) → ℕ → Sources K → Sources K → Writer → Writer → Ending → Type 0
Rebuilds seen next_id before after had has ending = IsNotRebuilt seen next_id before after had has ending ⊎ IsRebuildingBegun seen next_id before after had has ending
