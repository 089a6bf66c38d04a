-- What an orchestrator that was opened does. This profile's own.
use Rattle.std.specs.Prelude.{◌≡◌, ◌⊎◌, Result, Ok, Err}
use Rattle.csi_stores.specs.declared.counted.Counted.{Counted}
use Rattle.csi_streams.specs.declared.ending.Ending.{Ending}
use Rattle.csi_orchestration.specs.declared.lines_serving.fault.ServedLines.{ServedLines}
use Rattle.csi_orchestration.specs.declared.lines_serving.fault.LinesServeFault.{LinesServeFault}
use Rattle.csi_orchestration.specs.declared.orchestrator_responder.OrchestratorResponder.{OrchestratorResponder}
use Rattle.csi_orchestration.specs.Public.Ending.{ending_of_serving}
use Rattle.csi_orchestration.specs.Public.LinesRuns.{RunSetting, IsServed}
use Rattle.csi_orchestration.specs.Public.Running.{WritesFirst}

-- its first line wasn't written
pub record StopsFirst {K R W : Type 0} (setting : RunSetting OrchestratorResponder K R W) (responder : OrchestratorResponder) (before after : K) (reader read : Counted R) (writer written : Counted W) (ending : Ending) : Type 0 where
  pub same : after ≡ before
  pub unread : read ≡ reader
  pub first : WritesFirst setting.contents responder.service.orchestrator writer written (Err ending)

-- its first line was written, and it was served
pub record GoesOn {K R W : Type 0} (setting : RunSetting OrchestratorResponder K R W) (responder : OrchestratorResponder) (before after : K) (reader read : Counted R) (writer written : Counted W) (ending : Ending) : Type 0 where
  pub begun : Counted W
  pub first : WritesFirst setting.contents responder.service.orchestrator writer begun (Ok tt)
  pub result : Result ServedLines LinesServeFault
  pub served : IsServed setting responder before after reader read begun written result
  pub ends : ending ≡ ending_of_serving result

-- one or the other
abbrev pub Begins : {K R W : Type 0} → RunSetting OrchestratorResponder K R W → OrchestratorResponder → K → K → Counted R → Counted R → Counted W → Counted W → Ending → Type 0
Begins setting responder before after reader read writer written ending =
    StopsFirst setting responder before after reader read writer written ending ⊎ GoesOn setting responder before after reader read writer written ending
