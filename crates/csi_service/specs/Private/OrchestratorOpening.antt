-- What is made of the parts of an orchestrator's store before it is changed. This profile's own.
use Rattle.std.specs.Prelude.{◌≡◌, ℕ, List, [], length, Some, None}
use Rattle.csi_orchestrator.specs.declared.fault.OrchFault.TheVariants as refusals
use Rattle.csi_orchestrator.specs.Public.Laws.{opened_parts}
use Rattle.csi_orchestrator.specs.Public.Record.{RecordParts, AreNodesFit}
use Rattle.csi_stores.specs.Public.Part.{StoredPart, StoredChange}
use Rattle.csi_records.specs.Public.OrchestratorRecords.{orchestrator_layout, IsOrchestratorOf}
use Rattle.csi_records.specs.Public.Records.{IsRecordOf}
use Rattle.csi_records.specs.Public.Spelling.{present}
use Rattle.csi_service.specs.declared.orchestrator_changes.OrchestratorChanged.TheVariants.{Nothing}
use Rattle.csi_service.specs.declared.orchestrator_opening.OrchestratorMade.{OrchestratorMade}
use Rattle.csi_service.specs.declared.orchestrator_opening.OrchestratorMade.TheVariants.{Opened, BadNodes, NumbersSpent, NodeInUse}
use Rattle.csi_service.specs.Public.OrchestratorOpening.{opening_refusal, IsOrchestratorOpened, IsNotBegun, orchestrator_rules}
use Rattle.csi_service.specs.Public.OrchestratorServices.{kept_of, parts_of_orchestrator, orchestrator_service_parts, orchestrator_service_changes}
use Rattle.csi_service.specs.Public.OrchestratorServices.{session_changes, AreFitOrchestratorRows}
use Rattle.csi_service.specs.Public.StoreOpening.{Opening}

-- an orchestrator, or why there is none, of the parts that were found
abbrev pub IsOrchestratorMade : ℕ → List (List ℕ) → List StoredPart → OrchestratorMade → Type 0
IsOrchestratorMade least nodes found (Opened service) = IsOrchestratorOpened least nodes found service.orchestrator
IsOrchestratorMade least nodes found BadNodes = Unit {0}
IsOrchestratorMade least nodes found NumbersSpent = IsNotBegun least nodes refusals.NumbersSpent found
IsOrchestratorMade least nodes found NodeInUse = IsNotBegun least nodes refusals.NodeInUse found

-- the parts of the orchestrator are a record
abbrev pub IsMadeRecord : OrchestratorMade → Type 0
IsMadeRecord (Opened service) = IsRecordOf (orchestrator_layout present) (orchestrator_service_parts service)
IsMadeRecord BadNodes = Unit {0}
IsMadeRecord NumbersSpent = Unit {0}
IsMadeRecord NodeInUse = Unit {0}

-- the orchestrator's parts are left; without one, those that were found
abbrev pub left_by : List StoredPart → OrchestratorMade → List StoredPart
left_by found (Opened service) = orchestrator_service_parts service
left_by found BadNodes = found
left_by found NumbersSpent = found
left_by found NodeInUse = found

-- what opening an orchestrator's store gives
abbrev pub orchestrator_opening : ℕ → List (List ℕ) → Opening OrchestratorMade
orchestrator_opening least nodes = record { rules = orchestrator_rules least nodes; makes = IsOrchestratorMade least nodes; is = IsMadeRecord; leaves = left_by }

-- the orchestrator of a record in its next session, with these nodes, of which what changed is to be committed; where all that its rows have is
-- within its limits, its parts are those of its record; or no session begins
abbrev pub IsBegun : RecordParts → List (List ℕ) → OrchestratorMade → List StoredChange → Type 0
IsBegun kept nodes (Opened service) changes =
    (service ≡ record { orchestrator = opened_parts kept nodes; changed = Nothing }) × (opening_refusal kept nodes ≡ None)
    × (changes ≡ session_changes (length kept.rows) (opened_parts kept nodes))
    × (AreFitOrchestratorRows (opened_parts kept nodes).rows → IsOrchestratorOf present (parts_of_orchestrator (opened_parts kept nodes)) (kept_of (opened_parts kept nodes)))
IsBegun kept nodes BadNodes changes = ⊥
IsBegun kept nodes NumbersSpent changes = (opening_refusal kept nodes ≡ Some refusals.NumbersSpent) × (changes ≡ [])
IsBegun kept nodes NodeInUse changes = (opening_refusal kept nodes ≡ Some refusals.NodeInUse) × (changes ≡ [])

-- the orchestrator is of the nodes that were asked for, all in it is within its limits, and nothing is to be told of it; nodes that are bad are none
-- of a record
abbrev pub IsNewlyMade : List (List ℕ) → OrchestratorMade → Type 0
IsNewlyMade nodes (Opened service) =
    (service.orchestrator.nodes ≡ nodes) × (orchestrator_service_changes service ≡ []) × AreFitOrchestratorRows service.orchestrator.rows
IsNewlyMade nodes BadNodes = AreNodesFit nodes → ⊥
IsNewlyMade nodes NumbersSpent = Unit {0}
IsNewlyMade nodes NodeInUse = Unit {0}
