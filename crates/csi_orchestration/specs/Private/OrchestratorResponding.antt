-- What a line that was answered leaves of an orchestrator. This profile's own.
use Rattle.std.specs.Prelude.{◌≡◌, ℕ, List}
use Rattle.csi_stores.specs.Public.Content.{all_changed}
use Rattle.csi_service.specs.Public.OrchestratorServices.{ServedOrchestrator}
use Rattle.csi_orchestration.specs.declared.orchestrator_responder.OrchestratorResponder.{OrchestratorResponder}
use Rattle.csi_orchestration.specs.Public.OrchestratorResponding.{responder_parts, responder_changes, IsFitResponder, IsFitResponderChange}

-- what the line changed leads from the parts before it to those after it, which stay within their limits
pub record LeadsOn (old new : OrchestratorResponder) : Type 0 where
  pub parts : responder_parts new ≡ all_changed (responder_changes new) (responder_parts old)
  pub fit : IsFitResponder old → IsFitResponderChange new → IsFitResponder new

-- it was answered so, and leads on
abbrev pub IsTold : (ServedOrchestrator → List ℕ → ServedOrchestrator → Type 0) → OrchestratorResponder → List ℕ → OrchestratorResponder → Type 0
IsTold answers old text new = answers old.service text new.service × LeadsOn old new
