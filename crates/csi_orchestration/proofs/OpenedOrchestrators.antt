-- An orchestrator that was opened, and what it did then.
use Rattle.std.proofs.Common.{◌≡◌, inl, inr, sym, subst, ℕ, List}
use Rattle.csi_stores.specs.declared.counted.Counted.{Counted}
use Rattle.csi_orchestrator.specs.Public.Laws.{RestartsAreTold}
use Rattle.csi_records.specs.Public.OrchestratorRecords.{IsOrchestratorOf}
use Rattle.csi_records.specs.Public.Spelling.{present}
use Rattle.csi_service.specs.Public.OrchestratorOpening.{HasOrchestrator, IsOrchestratorOpened, orchestrator_rules}
use Rattle.csi_service.specs.Public.OrchestratorServices.{ServedOrchestrator, kept_of, orchestrator_service_parts, AreFitOrchestratorRows}
use Rattle.csi_service.specs.Public.StoreOpening.{LeavesOpening}
use Rattle.csi_streams.specs.declared.ending.Ending.{Ending}
use Rattle.csi_orchestration.specs.declared.orchestrator_responder.OrchestratorResponder.{OrchestratorResponder}
use Rattle.csi_orchestration.specs.Public.LinesRuns.{RunSetting}
use Rattle.csi_orchestration.specs.Public.Running.{IsOpened, OrchestratorRuns, orchestrator_setting}
use Rattle.csi_orchestration.specs.Private.Running.{Begins}
use Rattle.csi_stores.specs.Public.Stores.{Store}
use Rattle.std.specs.Prelude.{Option}

-- what opening gave is a responder's
pub opened-with : {K R W : Type 0} (setting : RunSetting OrchestratorResponder K R W) (least : ℕ) (nodes : List (List ℕ)) (before opened : K) (service : ServedOrchestrator) (responder : OrchestratorResponder) → responder.service ≡ service
    → HasOrchestrator least nodes (setting.seen before) (setting.seen opened) service → service.orchestrator.nodes ≡ nodes → AreFitOrchestratorRows service.orchestrator.rows → IsOrchestratorOf present (orchestrator_service_parts service) (kept_of service.orchestrator) → RestartsAreTold service.orchestrator
    → ((setting.seen opened).honest → (setting.seen before).honest) → LeavesOpening (orchestrator_rules least nodes) (setting.seen before) (setting.seen opened) → IsOpened setting least nodes before opened responder
opened-with setting least nodes before opened service responder same found asked fit its restarts honest left = record {
  found = subst (HasOrchestrator least nodes (setting.seen before) (setting.seen opened)) (sym same) found;
  asked = subst (λ (s : ServedOrchestrator). s.orchestrator.nodes ≡ nodes) (sym same) asked;
  fit = subst (λ (s : ServedOrchestrator). AreFitOrchestratorRows s.orchestrator.rows) (sym same) fit;
  its = subst (λ (s : ServedOrchestrator). IsOrchestratorOf present (orchestrator_service_parts s) (kept_of s.orchestrator)) (sym same) its;
  restarts = subst (λ (s : ServedOrchestrator). RestartsAreTold s.orchestrator) (sym same) restarts;
  honest = honest;
  left = left;
}

-- what was opened went on, or stopped at its first line
pub run : {K R W : Type 0} (seen : K → Store) (remaining : R → Option (List ℕ)) (contents : W → Option (List ℕ)) (least : ℕ) (nodes : List (List ℕ)) (before opened after : K) (reader read : Counted R) (writer written : Counted W)
    (responder : OrchestratorResponder) (ending : Ending)
    → IsOpened (orchestrator_setting {R = R} {W = W} seen remaining contents) least nodes before opened responder
    → Begins (orchestrator_setting seen remaining contents) responder opened after reader read writer written ending
    → OrchestratorRuns (orchestrator_setting seen remaining contents) least nodes before after reader read writer written ending
run {K} seen remaining contents least nodes before opened after reader read writer written responder ending is (inl stop) =
    inr (inl (record {
      responder = responder;
      is_opened = subst (λ (k : K). IsOpened (orchestrator_setting seen remaining contents) least nodes before k responder) (sym stop.same) is;
      unread = stop.unread;
      first = stop.first;
    }))
run seen remaining contents least nodes before opened after reader read writer written responder ending is (inr on) =
    inr (inr (record {
      begun = on.begun;
      result = on.result;
      ran = record {
        responder = responder;
        opened = opened;
        is_opened = λ honest content holds.
            let found = is.found honest content holds in (
              record {
                least = least;
                opened = subst (λ (asked : List (List ℕ)). IsOrchestratorOpened least asked content responder.service.orchestrator) (sym is.asked) found.0;
                fit = is.fit;
                its = is.its;
                restarts = is.restarts;
              },
              found.2,
            );
        served = on.served;
      };
      is_opened = is;
      first = on.first;
      ends = on.ends;
    }))
