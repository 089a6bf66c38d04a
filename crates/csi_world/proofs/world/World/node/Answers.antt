-- The node of an id shows what the node of that id in the world knows.
use Rattle.csi_world.proofs.Words.{◌≡◌, find, Option, sym, ◌∙◌, ap, subst, NodeParts, node_state, WorldParts, ShowsNode}
use Rattle.std.specs.Option.{option_copied}
use Rattle.csi_world.proofs.SystemNodes.{is_shown_node, node-shown}
use Rattle.csi_world.proofs.world.World.node.Goals as goal

pub returns-clause-world : goal.returns-clause-world
returns-clause-world c = λ world shows.
    let id = c.args.id.now in
    let nodes : c.deref.result.now ≡ c.args.self.now.nodes = c.deref.ensures.value ∙ ap (λ (shown : WorldParts). shown.nodes) c.self.view_is in
    let is : option_copied c.node_with_id.result ≡ find (is_shown_node id) c.args.self.now.nodes = c.node_with_id.ensures ∙ ap (find (is_shown_node id)) nodes in
    subst (λ (node : Option NodeParts). ShowsNode node (node_state id world)) (sym is) (node-shown id c.args.self.now.nodes world.nodes shows.nodes)
