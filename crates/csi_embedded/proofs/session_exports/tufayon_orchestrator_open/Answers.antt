use Rattle.std.proofs.Common.{rules}
use Rattle.csi_embedded.specs.Public.Making.{EndsDone}
use Rattle.csi_embedded.specs.Public.OrchestratorMaking.{IsOpenedOrchestrator, IsNotOpened}
use Rattle.csi_embedded.proofs.Handles.{full-made, put-made}
use Rattle.csi_embedded.proofs.session_exports.tufayon_orchestrator_open.Goals as goal

pub returns-then-is_full : goal.returns-then-is_full
returns-then-is_full c = full-made (λ made ending. IsOpenedOrchestrator c.args.config.now c.args.bytes.now c.args.session made × EndsDone ending) (IsNotOpened c.args.config.now c.args.bytes.now c.args.session) c.args.orchestrator.now.held.embedded c.number.result (search rules) c.number.ensures

pub returns : goal.returns
returns c = put-made (λ made ending. IsOpenedOrchestrator c.args.config.now c.args.bytes.now c.args.session made × EndsDone ending) (IsNotOpened c.args.config.now c.args.bytes.now c.args.session) c.args.orchestrator.now.held.embedded c.put.new.plugin.held.embedded c.put.result c.open_orchestrator.result (search rules) c.open_orchestrator.ensures.made c.open_orchestrator.ensures.refused tt c.put.ensures
