-- One node more.
use Rattle.std.proofs.Common.{◌≡◌, ◌+◌, List, [], ◌∷◌, ◌++◌, take, ap, sym, ◌∙◌, subst}
use Rattle.std.specs.List.{AllByRecursion}
use Rattle.std.proofs.lemmas.List.{take_more}
use Rattle.csi_node.specs.Model.Record.{NodeParts}
use Rattle.csi_types.proofs.Each.{each-append_one}
use Rattle.csi_reports.specs.Private.Laws.{ShowsAState}
use Rattle.csi_reports.proofs.laws.nodes_show.Goals as goal

pub loop-node-preserved : goal.loop-node-preserved
loop-node-preserved c =
    let nodes : List NodeParts = c.args.nodes.now in
    let i = c.loop-node.node-index in
    let parts : NodeParts = c.node-item.result in
    let front : take i nodes ++ parts ∷ [] ≡ take (i + 1) nodes = ap (λ (p : NodeParts). take i nodes ++ p ∷ []) c.node-item.is ∙ sym (take_more nodes i parts c.loop-node-test.true) in
    subst (AllByRecursion ShowsAState) front (each-append_one ShowsAState (take i nodes) parts c.loop-node.invariant c.showing_law.ensures)
