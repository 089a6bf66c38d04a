use Rattle.std.proofs.Common.{rules}
use Rattle.csi_embedded.specs.Public.Making.{EndsDone}
use Rattle.csi_embedded.specs.Public.OrchestratorMaking.{IsNewOrchestrator, IsNoOrchestrator}
use Rattle.csi_embedded.proofs.Handles.{full-made, put-made}
use Rattle.csi_embedded.proofs.orchestrator_exports.tufayon_orchestrator_new.Goals as goal

pub returns-then-is_full : goal.returns-then-is_full
returns-then-is_full c = full-made (λ made ending. IsNewOrchestrator c.args.config.now made × EndsDone ending) (IsNoOrchestrator c.args.config.now) c.args.orchestrator.now.held.embedded c.number.result (search rules) c.number.ensures

pub returns : goal.returns
returns c = put-made (λ made ending. IsNewOrchestrator c.args.config.now made × EndsDone ending) (IsNoOrchestrator c.args.config.now) c.args.orchestrator.now.held.embedded c.put.new.plugin.held.embedded c.put.result c.new_orchestrator.result (search rules) c.new_orchestrator.ensures.made c.new_orchestrator.ensures.refused tt c.put.ensures
