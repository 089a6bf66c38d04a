use Rattle.csi_types.specs.Public.Text.{IsNodeId}
use Rattle.csi_service.proofs.SoFar.{each-more}
use Rattle.csi_service.proofs.orchestrator_changes.nodes_law.Goals as goal

pub loop-node-preserved : goal.loop-node-preserved
loop-node-preserved c =
    each-more IsNodeId c.args.nodes.now c.loop-node.node-index c.node-item.result c.loop-node-test.true c.node-item.is c.loop-node.invariant c.as_str-text.ensures.limits
