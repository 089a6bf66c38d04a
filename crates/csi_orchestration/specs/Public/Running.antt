-- What an orchestrator's process does: it is opened from its store, writes its first line, and serves. This profile's own.
use Rattle.std.specs.Prelude.{◌≡◌, ◌⊎◌, ℕ, List, Option, Result, Ok, Err}
use Rattle.std.specs.Io.KnownBytes.{Appends}
use Rattle.csi_orchestrator.specs.Model.Shown.{OrchestratorParts}
use Rattle.csi_stores.specs.declared.counted.Counted.{Counted}
use Rattle.csi_stores.specs.Public.Counting.{HasRisen}
use Rattle.csi_stores.specs.Public.Stores.{Store}
use Rattle.csi_stores.specs.Public.Writing.{WritesFront}
use Rattle.csi_streams.specs.Public.LinesOf.{with_newline}
use Rattle.csi_orchestrator.specs.Public.Laws.{RestartsAreTold}
use Rattle.csi_service.specs.declared.orchestrator_unopened.OrchestratorUnopened.{OrchestratorUnopened}
use Rattle.csi_service.specs.Public.OrchestratorOpening.{HasOrchestrator, IsOrchestratorUnopened, orchestrator_rules}
use Rattle.csi_service.specs.Public.StoreOpening.{LeavesOpening}
use Rattle.csi_reports.specs.Public.Responses.{IsOpenedLine}
use Rattle.csi_streams.specs.declared.ending.Ending.{Ending}
use Rattle.csi_streams.specs.declared.ending.Ending.TheVariants as endings
use Rattle.csi_orchestration.specs.declared.lines_serving.fault.ServedLines.{ServedLines}
use Rattle.csi_orchestration.specs.declared.lines_serving.fault.LinesServeFault.{LinesServeFault}
use Rattle.csi_orchestration.specs.declared.orchestrator_responder.OrchestratorResponder.{OrchestratorResponder}
use Rattle.csi_orchestration.specs.Public.Ending.{ending_unopened, ending_of_serving}
use Rattle.csi_orchestration.specs.Public.LinesAnswering.{AnswersInRecord}
use Rattle.csi_orchestration.specs.Public.LinesRuns.{RunSetting, Ran}
use Rattle.csi_orchestration.specs.Public.OrchestratorResponding.{SpellsOrchestrator, HasItsRecord, responder_parts, IsFitResponder, ResponderAnswers, IsOlderLine, OpensResponder}

-- what its runs are judged by, where stores, readers and writers are seen so
abbrev pub orchestrator_setting : {K R W : Type 0} → (K → Store) → (R → Option (List ℕ)) → (W → Option (List ℕ)) → RunSetting OrchestratorResponder K R W
orchestrator_setting seen remaining contents = record {
  opens = OpensResponder;
  answers = AnswersInRecord IsFitResponder SpellsOrchestrator responder_parts ResponderAnswers;
  parts_of = responder_parts;
  is_older = IsOlderLine;
  seen = seen;
  remaining = remaining;
  contents = contents;
}

-- ---- the first line

-- a text is its first line, with the newline
pub record IsFirstLine (orchestrator : OrchestratorParts) (text : List ℕ) : Type 0 where
  pub line : List ℕ
  pub opened : IsOpenedLine orchestrator.last.session orchestrator.rows line
  pub ended : text ≡ with_newline line

-- it was written; or the writer failed, which is counted, and a front of it was; or an allocation was refused, and nothing was
abbrev pub WritesFirst : {W : Type 0} → (W → Option (List ℕ)) → OrchestratorParts → Counted W → Counted W → Result (Unit {0}) Ending → Type 0
WritesFirst contents orchestrator had has (Ok done) =
    ((text : List ℕ) × IsFirstLine orchestrator text × Appends (contents had.inner) (contents has.inner) text) × (has.faults ≡ had.faults)
WritesFirst contents orchestrator had has (Err endings.Device) =
    ((text : List ℕ) × IsFirstLine orchestrator text × WritesFront (contents had.inner) (contents has.inner) text) × HasRisen had.faults has.faults
WritesFirst contents orchestrator had has (Err endings.Memory) = has ≡ had
WritesFirst contents orchestrator had has (Err ending) = ⊥

-- ---- the process

-- the orchestrator wasn't opened: nothing was read nor written
pub record IsNotOpened {K R W : Type 0} (setting : RunSetting OrchestratorResponder K R W) (least : ℕ) (nodes : List (List ℕ)) (before after : K) (reader read : Counted R) (writer written : Counted W) (ending : Ending) : Type 0 where
  pub why : OrchestratorUnopened
  pub cause : IsOrchestratorUnopened least nodes (setting.seen before) (setting.seen after) why
  pub left : LeavesOpening (orchestrator_rules least nodes) (setting.seen before) (setting.seen after)
  pub unread : read ≡ reader
  pub unwritten : written ≡ writer
  pub ends : ending ≡ ending_unopened why

-- the orchestrator of these nodes was opened from the store, in this session or a later one; the store has its record then
pub record IsOpened {K R W : Type 0} (setting : RunSetting OrchestratorResponder K R W) (least : ℕ) (nodes : List (List ℕ)) (before opened : K) (responder : OrchestratorResponder) : Type 0 where
  pub found : HasOrchestrator least nodes (setting.seen before) (setting.seen opened) responder.service
  pub asked : responder.service.orchestrator.nodes ≡ nodes
  pub fit : IsFitResponder responder
  pub its : HasItsRecord responder
  pub restarts : RestartsAreTold responder.service.orchestrator
  pub honest : (setting.seen opened).honest → (setting.seen before).honest
  pub left : LeavesOpening (orchestrator_rules least nodes) (setting.seen before) (setting.seen opened)

-- it was opened, and its first line wasn't written: nothing was read
pub record IsNotBegun {K R W : Type 0} (setting : RunSetting OrchestratorResponder K R W) (least : ℕ) (nodes : List (List ℕ)) (before after : K) (reader read : Counted R) (writer written : Counted W) (ending : Ending) : Type 0 where
  pub responder : OrchestratorResponder
  pub is_opened : IsOpened setting least nodes before after responder
  pub unread : read ≡ reader
  pub first : WritesFirst setting.contents responder.service.orchestrator writer written (Err ending)

-- it was opened, its first line was written, and it was served over its store
pub record IsRun {K R W : Type 0} (setting : RunSetting OrchestratorResponder K R W) (least : ℕ) (nodes : List (List ℕ)) (before after : K) (reader read : Counted R) (writer written : Counted W) (ending : Ending) : Type 0 where
  pub begun : Counted W
  pub result : Result ServedLines LinesServeFault
  pub ran : Ran setting before after reader read begun written result
  pub is_opened : IsOpened setting least nodes before ran.opened ran.responder
  pub first : WritesFirst setting.contents ran.responder.service.orchestrator writer begun (Ok tt)
  pub ends : ending ≡ ending_of_serving result

-- one of these
abbrev pub OrchestratorRuns : {K R W : Type 0} → RunSetting OrchestratorResponder K R W → ℕ → List (List ℕ) → K → K → Counted R → Counted R → Counted W → Counted W → Ending → Type 0
OrchestratorRuns setting least nodes before after reader read writer written ending =
    IsNotOpened setting least nodes before after reader read writer written ending
    ⊎ IsNotBegun setting least nodes before after reader read writer written ending
    ⊎ IsRun setting least nodes before after reader read writer written ending
