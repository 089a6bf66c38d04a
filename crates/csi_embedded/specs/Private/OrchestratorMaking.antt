-- What an orchestrator is made of, read; and one that is made of its record. This profile's own.
use Rattle.std.specs.Prelude.{◌≡◌, ℕ, List, Some}
use Rattle.csi_orchestrator.specs.declared.fault.OrchFault.TheVariants as refusals
use Rattle.csi_orchestrator.specs.Public.Record.{RecordParts, AreNodesFit}
use Rattle.csi_records.specs.Public.OrchestratorRecords.{orchestrator_layout}
use Rattle.csi_records.specs.Public.Places.{IsBadAt}
use Rattle.csi_records.specs.Public.Records.{IsRecordOf}
use Rattle.csi_service.specs.Public.OrchestratorOpening.{opening_refusal}
use Rattle.csi_embedded.specs.declared.ending.CallEnding.{CallEnding}
use Rattle.csi_embedded.specs.declared.ending.CallEnding.TheVariants.{NoMemory, BadName, BadRecord, Refused, NodeInUse}

-- why the bytes are no orchestrator's record
abbrev pub IsNoRecord : List ℕ → CallEnding → Type 0
IsNoRecord bytes NoMemory = Unit {0}
IsNoRecord bytes BadRecord = (place : ℕ) × IsBadAt (λ v. IsRecordOf (orchestrator_layout v)) bytes place
IsNoRecord bytes _ = ⊥

-- why none is made of a record with these nodes
abbrev pub IsNotReopened : RecordParts → List (List ℕ) → CallEnding → Type 0
IsNotReopened kept nodes NoMemory = Unit {0}
IsNotReopened kept nodes BadName = AreNodesFit nodes → ⊥
IsNotReopened kept nodes Refused = opening_refusal kept nodes ≡ Some refusals.NumbersSpent
IsNotReopened kept nodes NodeInUse = opening_refusal kept nodes ≡ Some refusals.NodeInUse
IsNotReopened kept nodes _ = ⊥
