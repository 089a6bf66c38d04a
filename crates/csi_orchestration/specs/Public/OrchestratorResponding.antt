-- An orchestrator that answers lines over a store. This profile's own.
use Rattle.std.specs.Prelude.{ℕ, List, [], if◌then◌else◌, Bool, true, false}
use Rattle.csi_orchestrator.specs.Public.Laws.{RestartsAreTold}
use Rattle.csi_orchestrator.specs.Public.Record.{RecordParts}
use Rattle.csi_stores.specs.Public.Part.{StoredPart, StoredChange}
use Rattle.csi_records.specs.Public.OrchestratorRecords.{IsOrchestratorOf}
use Rattle.csi_records.specs.Public.Spelling.{present}
use Rattle.csi_service.specs.Public.OrchestratorOpening.{IsOrchestratorOpened}
use Rattle.csi_service.specs.Public.OrchestratorServices.{kept_of, orchestrator_service_parts, orchestrator_service_changes, AreFitOrchestratorRows, IsChangedRowFit}
use Rattle.csi_orchestration.specs.declared.orchestrator_responder.OrchestratorResponder.{OrchestratorResponder}
use Rattle.csi_orchestration.specs.Public.OrchestratorLines.{AnswersLine, IsToldStaleIn}

-- a record that parts are of, in the present version
abbrev pub SpellsOrchestrator : RecordParts → List StoredPart → Type 0
SpellsOrchestrator kept parts = IsOrchestratorOf present parts kept

-- its parts
abbrev pub responder_parts : OrchestratorResponder → List StoredPart
responder_parts responder = orchestrator_service_parts responder.service

-- what the last line changed of them: nothing, if it didn't ask the orchestrator
abbrev pub responder_changes : OrchestratorResponder → List StoredChange
responder_changes responder = if responder.has_asked then orchestrator_service_changes responder.service else []

-- all in its record is within its limits
abbrev pub IsFitResponder : OrchestratorResponder → Type 0
IsFitResponder responder = AreFitOrchestratorRows responder.service.orchestrator.rows

-- so is what the last line changed
abbrev pub IsFitWhere : Bool → OrchestratorResponder → Type 0
IsFitWhere true responder = IsChangedRowFit responder.service.changed responder.service.orchestrator.rows
IsFitWhere false responder = Unit {0}

-- the same, by whether it asked the orchestrator
abbrev pub IsFitResponderChange : OrchestratorResponder → Type 0
IsFitResponderChange responder = IsFitWhere responder.has_asked responder

-- its parts are those of its own record
abbrev pub HasItsRecord : OrchestratorResponder → Type 0
HasItsRecord responder = SpellsOrchestrator (kept_of responder.service.orchestrator) (responder_parts responder)

-- it answers a line so, and then, where all in it is within its limits, its parts are those of its record; and a restart is told by each history that
-- it shows
abbrev pub ResponderAnswers : OrchestratorResponder → List ℕ → List ℕ → OrchestratorResponder → Type 0
ResponderAnswers old line answer new =
    AnswersLine line old.service answer new.service × (IsFitResponder new → HasItsRecord new) × RestartsAreTold new.service.orchestrator

-- the line tells it that its store is an older one
abbrev pub IsOlderLine : OrchestratorResponder → List ℕ → Type 0
IsOlderLine responder line = IsToldStaleIn line responder.service

-- opening makes it of a store with this content: the orchestrator in the next session, or in the one that was asked for, whose record is within its
-- limits
pub record OpensResponder (content : List StoredPart) (responder : OrchestratorResponder) : Type 0 where
  pub least : ℕ
  pub opened : IsOrchestratorOpened least responder.service.orchestrator.nodes content responder.service.orchestrator
  pub fit : IsFitResponder responder
  pub its : HasItsRecord responder
  pub restarts : RestartsAreTold responder.service.orchestrator
