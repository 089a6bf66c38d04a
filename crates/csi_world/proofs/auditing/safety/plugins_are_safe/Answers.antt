-- One node more, and by the plugins' laws.
use Rattle.csi_world.proofs.Words.{◌≡◌, ◌+◌, List, [], ◌∷◌, ◌++◌, take, ap, sym, ◌∙◌, subst, AllByRecursion, NodeParts}
use Rattle.csi_world.proofs.Words.{IsPublishing}
use Rattle.csi_world.proofs.Lemmas.{take_more, each-append_one}
use Rattle.csi_world.proofs.PartsSafe.{plugins-safe}
use Rattle.csi_world.proofs.WholeLists.{take-whole}
use Rattle.csi_world.proofs.auditing.safety.plugins_are_safe.Goals as goal

pub loop-node-preserved : goal.loop-node-preserved
loop-node-preserved c =
    let nodes : List NodeParts = c.args.nodes.now in
    let i = c.loop-node.node-index in
    let parts : NodeParts = c.node-item.result in
    let front : take i nodes ++ parts ∷ [] ≡ take (i + 1) nodes = ap (λ (p : NodeParts). take i nodes ++ p ∷ []) c.node-item.is ∙ sym (take_more nodes i parts c.loop-node-test.true) in
    subst (AllByRecursion IsPublishing) front (each-append_one IsPublishing (take i nodes) parts c.loop-node.invariant c.publishing_law.ensures)

pub returns : goal.returns
returns c world plugins =
    let publish : AllByRecursion IsPublishing c.args.nodes.now
    = subst (AllByRecursion IsPublishing) (take-whole c.args.nodes.now c.loop-node.node-index c.loop-node-test.false) c.loop-node.invariant
    in
    plugins-safe c.args.controller.now c.args.nodes.now world c.exclusive_law.ensures publish plugins
