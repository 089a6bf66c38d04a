-- By where the node is.
use Rattle.csi_world.proofs.Words.{Bool, sym, ◌∙◌, same_text, NodeParts}
use Rattle.csi_world.proofs.Lemmas.{FirstAt-position, FirstAt-find, find-no_place}
use Rattle.csi_world.proofs.plugins.node_with_id.Goals as goal

pub returns-in-Some : goal.returns-in-Some
returns-in-Some c =
    let p : NodeParts → Bool = λ node. same_text node.id c.args.id.now in
    let node : NodeParts = c.index-nodes-place.result in
    let place = c.in-Some.place in
    sym (FirstAt-find p c.args.nodes.now place node (FirstAt-position p c.args.nodes.now place node (sym c.place_of.ensures ∙ c.in-Some.is) c.index-nodes-place.is))

pub returns-in-None : goal.returns-in-None
returns-in-None c = sym (find-no_place (λ (node : NodeParts). same_text node.id c.args.id.now) c.args.nodes.now (sym c.place_of.ensures ∙ c.in-None.is))
