-- The value is that of the head with the orchestrator's session and nodes.
use Rattle.std.proofs.Common.{◌≡◌, ◌∙◌, ◌++◌, ◌∷◌, [], ap, subst, map, ℕ, List, OnOk}
use Rattle.csi_stores.specs.Public.Part.{part_change, put_all}
use Rattle.csi_records.specs.Public.OrchestratorSpelling.{orchestrator_head}
use Rattle.csi_records.specs.Public.Spelling.{present}
use Rattle.csi_service.specs.Public.OrchestratorServices.{ServedOrchestrator}
use Rattle.csi_service.proofs.orchestrator_service.OrchestratorService.push_head.Goals as goal

pub returns : goal.returns
returns c =
    let session : c.session.result ≡ c.args.self.now.orchestrator.last.session = c.session.ensures.value ∙ ap (λ (service : ServedOrchestrator). service.orchestrator.last.session) c.self.view_is in
    let nodes : c.nodes.result.now ≡ c.args.self.now.orchestrator.nodes = c.nodes.ensures ∙ ap (λ (service : ServedOrchestrator). service.orchestrator.nodes) c.self.view_is in
    subst (λ (bytes : List ℕ). OnOk c.push_value.result (map part_change c.push_value.new.parts.items ≡ map part_change c.args.parts.now.items ++ put_all (record { key = 0; value = bytes } ∷ [])))
    (c.in_ok-value.ensures.value ∙ (λ i. (orchestrator_head present (session i) (nodes i)).value)) c.push_value.ensures.ok
