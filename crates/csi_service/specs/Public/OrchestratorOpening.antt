-- What opening an orchestrator's store with a list of nodes finds and leaves: of a record it makes the orchestrator after a restart with that
-- list, in the next session, and of no parts a new one, in session 1, or in a later one that is asked for; what it changed is committed before it is
-- given. This profile's own.
use Rattle.std.specs.Prelude.{◌≡◌, ◌⊎◌, ℕ, ◌-◌, List, [], Option, Some, None, Result, Ok, Err}
use Rattle.csi_orchestrator.specs.declared.fault.OrchFault.{OrchFault}
use Rattle.csi_orchestrator.specs.declared.fault.OrchFault.TheVariants as refusals
use Rattle.csi_orchestrator.specs.declared.fault.OrchRecordFault.{OrchRecordFault}
use Rattle.csi_orchestrator.specs.declared.fault.OrchRecordFault.TheVariants as faults
use Rattle.csi_orchestrator.specs.Model.Shown.{OrchestratorParts}
use Rattle.csi_orchestrator.specs.Public.Beginning.{restart_refusal}
use Rattle.csi_orchestrator.specs.Public.Laws.{opened_parts}
use Rattle.csi_orchestrator.specs.Public.Raised.{raised_record}
use Rattle.csi_orchestrator.specs.Public.Record.{RecordParts, AreNodesFit}
use Rattle.csi_stores.specs.Public.Keeping.{IsForeignFault}
use Rattle.csi_stores.specs.Public.Part.{StoredPart}
use Rattle.csi_stores.specs.Public.Stores.{Store, Parts, IsOnly}
use Rattle.csi_records.specs.Public.OrchestratorRecords.{orchestrator_layout, IsOrchestratorOf}
use Rattle.csi_records.specs.Public.Records.{IsRecordOf, IsInSome, IsRefusedAt}
use Rattle.csi_records.specs.Public.Spelling.{present}
use Rattle.csi_service.specs.declared.orchestrator_unopened.OrchestratorUnopened.{OrchestratorUnopened}
use Rattle.csi_service.specs.declared.orchestrator_unopened.OrchestratorUnopened.TheVariants.{Keep, BadNodes, NumbersSpent, NodeInUse}
use Rattle.csi_service.specs.Public.OrchestratorServices.{ServedOrchestrator, parts_of_orchestrator, orchestrator_service_parts}
use Rattle.csi_service.specs.Public.StoreOpening.{OpeningRules, IsUnopened, StaysFor}

-- ---- what opening makes

-- the record of an orchestrator before its first session: without a node, and without a row
abbrev pub new_record : RecordParts
new_record = record { nodes = []; session = 0; rows = [] }

-- the record that a store's parts are opened from: no parts stand for one before the first session
abbrev pub IsOpenedFrom : List StoredPart → RecordParts → Type 0
IsOpenedFrom content kept = ((content ≡ []) × (kept ≡ new_record)) ⊎ IsOrchestratorOf present content kept

-- why no session begins with these nodes, after those of a record
abbrev pub opening_refusal : RecordParts → List (List ℕ) → Option OrchFault
opening_refusal kept nodes = restart_refusal kept.session kept.nodes nodes kept.rows

-- the record, raised to the session before this one
abbrev pub raised_before : ℕ → RecordParts → RecordParts
raised_before least kept = raised_record (least - 1) kept

-- the orchestrator of that record with these nodes, in the next session, or in this one, where that is later
pub record IsOrchestratorOpened (least : ℕ) (nodes : List (List ℕ)) (content : List StoredPart) (orchestrator : OrchestratorParts) : Type 0 where
  pub kept : RecordParts
  pub from : IsOpenedFrom content kept
  pub unrefused : opening_refusal (raised_before least kept) nodes ≡ None
  pub is : orchestrator ≡ opened_parts (raised_before least kept) nodes

-- the parts of such a one, which the commit of opening makes
pub record OpensOrchestrator (least : ℕ) (nodes : List (List ℕ)) (content new : List StoredPart) : Type 0 where
  pub orchestrator : OrchestratorParts
  pub opened : IsOrchestratorOpened least nodes content orchestrator
  pub are : new ≡ parts_of_orchestrator orchestrator

-- what opening is to make of a store's parts: BadRecord where they are an orchestrator's record in no version, at the first that is refused
abbrev pub orchestrator_rules : ℕ → List (List ℕ) → OpeningRules
orchestrator_rules least nodes = record {
  refused = IsRefusedAt (IsInSome (λ version. IsRecordOf (orchestrator_layout version)));
  becomes = OpensOrchestrator least nodes;
  is_record = IsRecordOf (orchestrator_layout present);
}

-- ---- what becomes of the store

-- the orchestrator that opening makes of what was there; and the store has its record alone
abbrev pub HasOrchestrator : ℕ → List (List ℕ) → Store → Store → ServedOrchestrator → Type 0
HasOrchestrator least nodes before after service =
    after.honest → (content : List StoredPart) → before.holds content → IsOrchestratorOpened least nodes content service.orchestrator
    × IsRecordOf (orchestrator_layout present) (orchestrator_service_parts service) × IsOnly after (Parts (orchestrator_service_parts service))

-- the parts are a record after which no session begins with these nodes, for this reason
pub record IsNotBegun (least : ℕ) (nodes : List (List ℕ)) (fault : OrchFault) (content : List StoredPart) : Type 0 where
  pub kept : RecordParts
  pub was : IsOrchestratorOf present content kept
  pub refused : opening_refusal (raised_before least kept) nodes ≡ Some fault

-- why an orchestrator of these nodes isn't opened from a store
abbrev pub IsOrchestratorUnopened : ℕ → List (List ℕ) → Store → Store → OrchestratorUnopened → Type 0
IsOrchestratorUnopened least nodes before after (Keep fault) = IsUnopened (orchestrator_rules least nodes) before after fault
IsOrchestratorUnopened least nodes before after BadNodes = (AreNodesFit nodes → ⊥) × StaysFor (λ content. Unit {0}) before after
IsOrchestratorUnopened least nodes before after NumbersSpent = StaysFor (IsNotBegun least nodes refusals.NumbersSpent) before after
IsOrchestratorUnopened least nodes before after NodeInUse = StaysFor (IsNotBegun least nodes refusals.NodeInUse) before after

-- where a store has no list of parts, that is refused
abbrev pub RefusesForeign : {A : Type 0} → ℕ → Result A OrchestratorUnopened → Type 0
RefusesForeign place (Ok a) = ⊥
RefusesForeign place (Err (Keep fault)) = IsForeignFault place fault
RefusesForeign place (Err BadNodes) = ⊥
RefusesForeign place (Err NumbersSpent) = ⊥
RefusesForeign place (Err NodeInUse) = ⊥

-- why an orchestrator of these nodes isn't made of a record that was read
abbrev pub IsRecordUnopened : RecordParts → List (List ℕ) → OrchestratorUnopened → Type 0
IsRecordUnopened kept nodes (Keep fault) = ⊥
IsRecordUnopened kept nodes BadNodes = AreNodesFit nodes → ⊥
IsRecordUnopened kept nodes NumbersSpent = opening_refusal kept nodes ≡ Some refusals.NumbersSpent
IsRecordUnopened kept nodes NodeInUse = opening_refusal kept nodes ≡ Some refusals.NodeInUse

-- why there is no new orchestrator of these nodes
abbrev pub IsNewRefusal : List (List ℕ) → OrchRecordFault → Type 0
IsNewRefusal nodes faults.BadNodes = AreNodesFit nodes → ⊥
IsNewRefusal nodes (faults.BadRow place) = ⊥
IsNewRefusal nodes faults.NoMemory = Unit {0}
