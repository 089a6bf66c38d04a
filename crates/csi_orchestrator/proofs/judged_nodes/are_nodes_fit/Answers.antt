-- By the test.
use Rattle.std.proofs.Common.{sym, ◌∙◌, arith}
use Rattle.csi_orchestrator.proofs.NodesFit.{fit-from, unfit-from}
use Rattle.csi_orchestrator.proofs.judged_nodes.are_nodes_fit.Goals as goal

pub returns-then-nodes-le-MAX_NODES-clause-fit : goal.returns-then-nodes-le-MAX_NODES-clause-fit
returns-then-nodes-le-MAX_NODES-clause-fit c = λ passes. let few = c.if-nodes-le-MAX_NODES.true in fit-from c.args.nodes.now (omega (arith, few)) (sym c.are_nodes_apart.ensures ∙ passes)

pub returns-then-nodes-le-MAX_NODES-clause-unfit : goal.returns-then-nodes-le-MAX_NODES-clause-unfit
returns-then-nodes-le-MAX_NODES-clause-unfit c = λ fails. unfit-from c.args.nodes.now (sym c.are_nodes_apart.ensures ∙ fails)
