-- An orchestrator that is served: the parts of its record, what a call changed of them, and how it answers. This profile's own.
use Rattle.std.specs.Prelude.{◌≡◌, ℕ, true, false, zero, suc, ◌+◌, ◌-◌, ◌^◌, ◌==◌, List, [], ◌∷◌, ◌++◌, length, map, slice_get, if◌then◌else◌, Option, Some, None, Result, Ok, Err, OnOk, OnErr, IfErr, IfSome}
use Rattle.std.specs.List.{AllByRecursion}
use Rattle.csi_types.specs.Model.Frame.{Frame}
use Rattle.csi_orchestrator.specs.declared.fault.OrchFault.{OrchFault}
use Rattle.csi_orchestrator.specs.declared.fault.OrchFault.TheVariants.{NumbersSpent}
use Rattle.csi_orchestrator.specs.Model.History.{History}
use Rattle.csi_orchestrator.specs.Model.Moves.{Input, Loses, Answer, GivenUp, moves}
use Rattle.csi_orchestrator.specs.Model.Shown.{RowShown, OrchestratorParts, Shows}
use Rattle.csi_orchestrator.specs.Model.WellFormed.{IsWellFormed}
use Rattle.csi_orchestrator.specs.Public.Beginning.{parts_at_loss}
use Rattle.csi_orchestrator.specs.Public.Promises.{FollowsUnrefused}
use Rattle.csi_orchestrator.specs.Public.Record.{RecordParts}
use Rattle.csi_orchestrator.specs.Public.RowMoves.{IsRefusal}
use Rattle.csi_orchestrator.specs.Public.Shown.{closed}
use Rattle.csi_orchestrator.specs.Public.Stale.{is_told_stale}
use Rattle.csi_stores.specs.Public.Content.{all_changed}
use Rattle.csi_stores.specs.Public.Part.{StoredPart, StoredChange, put_all, take_all}
use Rattle.csi_records.specs.Public.OrchestratorRecords.{kept_parts}
use Rattle.csi_records.specs.Public.OrchestratorRows.{IsOrchestratorRow}
use Rattle.csi_records.specs.Public.OrchestratorSpelling.{orchestrator_head, orchestrator_part}
use Rattle.csi_records.specs.Public.Spelling.{present}
use Rattle.csi_service.specs.declared.orchestrator_changes.OrchestratorChanged.{OrchestratorChanged}
use Rattle.csi_service.specs.declared.orchestrator_changes.OrchestratorChanged.TheVariants.{Nothing, Head, Row, Whole}

-- an orchestrator that is served, to its callers: itself, and what its last call changed, or its opening
pub record ServedOrchestrator : Type 0 where
  pub orchestrator : OrchestratorParts
  pub changed : OrchestratorChanged

-- ---- its parts

-- what an orchestrator keeps: its open calls are given up
abbrev pub kept_of : OrchestratorParts → RecordParts
kept_of orchestrator = record { nodes = orchestrator.nodes; session = orchestrator.last.session; rows = map closed orchestrator.rows }

-- the parts of its record
abbrev pub parts_of_orchestrator : OrchestratorParts → List StoredPart
parts_of_orchestrator orchestrator = kept_parts (kept_of orchestrator)

-- those of one that is served
abbrev pub orchestrator_service_parts : ServedOrchestrator → List StoredPart
orchestrator_service_parts service = parts_of_orchestrator service.orchestrator

-- the row at a place, counted from 0, if there is one; its key is its place, counted from 1
abbrev pub orchestrator_row_change : ℕ → Option RowShown → List StoredChange
orchestrator_row_change place None = []
orchestrator_row_change place (Some row) = put_all (orchestrator_part present (record { key = place + 1; row = closed row }) ∷ [])

-- so many keys, one after another, from this one on
abbrev pub keys_from : ℕ → ℕ → List ℕ
keys_from key zero = []
keys_from key (suc count) = key ∷ keys_from (suc key) count

-- all of it is put in, where so many rows were before; and what stood under the keys behind its rows is taken out
abbrev pub whole_change : ℕ → OrchestratorParts → List StoredChange
whole_change before orchestrator =
    put_all (parts_of_orchestrator orchestrator) ++ take_all (keys_from (length orchestrator.rows + 1) (before - length orchestrator.rows))

-- what was changed, as the orchestrator has it now: nothing, the head, one row, or all of it
abbrev pub orchestrator_changes_of : OrchestratorChanged → OrchestratorParts → List StoredChange
orchestrator_changes_of Nothing orchestrator = []
orchestrator_changes_of Head orchestrator = put_all (orchestrator_head present orchestrator.last.session orchestrator.nodes ∷ [])
orchestrator_changes_of (Row place) orchestrator = orchestrator_row_change place (slice_get orchestrator.rows place)
orchestrator_changes_of (Whole before) orchestrator = whole_change before orchestrator

-- the same, of its last call, or its opening
abbrev pub orchestrator_service_changes : ServedOrchestrator → List StoredChange
orchestrator_service_changes service = orchestrator_changes_of service.changed service.orchestrator

-- one row at most: no head, and not all of it
abbrev pub IsOneRow : OrchestratorChanged → Type 0
IsOneRow Nothing = Unit {0}
IsOneRow Head = ⊥
IsOneRow (Row place) = Unit {0}
IsOneRow (Whole before) = ⊥

-- what is changed where a session begins and so many rows were there before: the head, or all of it, where names were forgotten, since
-- a row's key is its place
abbrev pub session_change : ℕ → ℕ → OrchestratorChanged
session_change before now = if before == now then Head else Whole before

-- what is to be committed for a session that began, where so many rows were there before
abbrev pub session_changes : ℕ → OrchestratorParts → List StoredChange
session_changes before orchestrator = orchestrator_changes_of (session_change before (length orchestrator.rows)) orchestrator

-- ---- the limits of what is in them

-- all that rows have is within its limits
abbrev pub AreFitOrchestratorRows : List RowShown → Type 0
AreFitOrchestratorRows rows = AllByRecursion (IsOrchestratorRow present) rows

-- so is all that the row has that was changed, if one was, or all rows, where all were
abbrev pub IsChangedRowFit : OrchestratorChanged → List RowShown → Type 0
IsChangedRowFit Nothing rows = Unit {0}
IsChangedRowFit Head rows = Unit {0}
IsChangedRowFit (Row place) rows = IfSome (slice_get rows place) (IsOrchestratorRow present)
IsChangedRowFit (Whole before) rows = AreFitOrchestratorRows rows

-- where all that the old rows have is, and what was changed, all that the new rows have is
abbrev pub OrchestratorStaysFit : ServedOrchestrator → ServedOrchestrator → Type 0
OrchestratorStaysFit old new =
    AreFitOrchestratorRows old.orchestrator.rows → IsChangedRowFit new.changed new.orchestrator.rows → AreFitOrchestratorRows new.orchestrator.rows

-- ---- how it answers

-- for a history: the answer, as the definitions have it, is the one that the history tells, and what is shown then agrees with the history that
-- goes on so; a refusal is the one that it tells, or, where it tells none, one of memory
abbrev pub IsToldBy : {A : Type 0} → (A → Answer) → Input → History → Result A OrchFault → OrchestratorParts → Type 0
IsToldBy told input history (Ok answer) new = FollowsUnrefused history (moves history input) (told answer) new
IsToldBy told input history (Err fault) new = IsRefusal (moves history input) fault

-- A command, a timeout or a frame that came is answered so, where `told` is the answer as the definitions have it: for every history that the
-- orchestrator shows. Its nodes and its session stay, and a refusal leaves it as it was.
pub record OrchestratorAnswers {A : Type 0} (told : A → Answer) (old : ServedOrchestrator) (input : Input) (result : Result A OrchFault)
    (new : ServedOrchestrator) : Type 0 where
  pub follows : (history : History) → IsWellFormed history → Shows old.orchestrator history → IsToldBy told input history result new.orchestrator
  pub nodes : new.orchestrator.nodes ≡ old.orchestrator.nodes
  pub session : new.orchestrator.last.session ≡ old.orchestrator.last.session
  pub stays : OnErr result (new.orchestrator ≡ old.orchestrator)

-- the frame says of an open call that it was stale, by each history that is shown: the store is an older one
abbrev pub IsToldStale : Frame → ServedOrchestrator → Type 0
IsToldStale frame service = (history : History) → IsWellFormed history → Shows service.orchestrator history → is_told_stale history frame ≡ true

-- it says so of none
abbrev pub IsTimely : Frame → ServedOrchestrator → Type 0
IsTimely frame service = (history : History) → IsWellFormed history → Shows service.orchestrator history → is_told_stale history frame ≡ false

-- the loss of a node: for every history that the orchestrator shows, and by its rows alone; it is refused in the last session only, and then
-- leaves it as it was
pub record OrchestratorLoses {A : Type 0} (old : ServedOrchestrator) (node : List ℕ) (result : Result A OrchFault) (new : ServedOrchestrator) : Type 0 where
  pub follows : (history : History) → IsWellFormed history → Shows old.orchestrator history
      → IsToldBy (λ done. GivenUp) (Loses node) history result new.orchestrator
  pub value : OnOk result (new.orchestrator ≡ parts_at_loss node old.orchestrator)
  pub spent : IfErr result (λ fault. (fault ≡ NumbersSpent) × (old.orchestrator.last.session + 1 ≡ 2 ^ 64))
  pub stays : OnErr result (new.orchestrator ≡ old.orchestrator)

-- what a call changed leads from the parts before it to those after it, which stay within their limits; a refusal changes nothing
pub record TellsChanges {A : Type 0} (old : ServedOrchestrator) (result : Result A OrchFault) (new : ServedOrchestrator) : Type 0 where
  pub parts : orchestrator_service_parts new ≡ all_changed (orchestrator_service_changes new) (orchestrator_service_parts old)
  pub fit : OrchestratorStaysFit old new
  pub none : OnErr result (orchestrator_service_changes new ≡ [])
