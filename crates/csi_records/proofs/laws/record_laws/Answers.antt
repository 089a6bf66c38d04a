use Rattle.std.proofs.Common.{arith}
use Rattle.csi_records.specs.Public.Records.{controller_layout, node_layout}
use Rattle.csi_records.specs.Public.OrchestratorRecords.{orchestrator_layout}
use Rattle.csi_records.proofs.Versions.{laws-of, kinds-apart}
use Rattle.csi_records.proofs.PluginLayouts.{controller_one, node_one, controller_plain, node_plain, controller_kind, node_kind}
use Rattle.csi_records.proofs.OrchestratorLayouts.{orchestrator_one, orchestrator_plain, orchestrator_kind}
use Rattle.csi_records.proofs.laws.record_laws.Goals as goal

pub returns : goal.returns
returns c = record {
  controller = laws-of controller_layout controller_one controller_plain controller_kind;
  node = λ wanted. laws-of (λ version. node_layout version wanted) (λ version. node_one version wanted) (λ version. node_plain version wanted) (node_kind wanted);
  orchestrator = laws-of orchestrator_layout orchestrator_one orchestrator_plain orchestrator_kind;
  controller_and_node = λ wanted. kinds-apart controller_layout (λ version. node_layout version wanted) 0 1 controller_kind (node_kind wanted) (λ e. omega (arith, e));
  controller_and_orchestrator = kinds-apart controller_layout orchestrator_layout 0 2 controller_kind orchestrator_kind (λ e. omega (arith, e));
  node_and_orchestrator = λ wanted. kinds-apart (λ version. node_layout version wanted) orchestrator_layout 1 2 (node_kind wanted) orchestrator_kind (λ e. omega (arith, e));
}
