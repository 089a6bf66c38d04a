-- One node's lists more, by what each reader says.
use Rattle.csi_world.proofs.Words.{◌≡◌, ◌+◌, List, [], ◌∷◌, ◌++◌, map, take, ap, sym, ◌∙◌, subst, NodeParts, NodeAt}
use Rattle.csi_world.proofs.Words.{AreDistinctTexts, node_listed, AreListsOf}
use Rattle.csi_world.proofs.Lemmas.{take_more}
use Rattle.std.proofs.lemmas.List.{map-append}
use Rattle.csi_world.proofs.ListedNodes.{lists-alike, lists-more, shown-ids}
use Rattle.csi_world.proofs.WholeLists.{take-whole}
use Rattle.csi_world.proofs.auditing.gathering.list_plugins.Goals as goal

pub loop-node-preserved : goal.loop-node-preserved
loop-node-preserved c =
    let nodes : List NodeParts = c.args.nodes.now in
    let i = c.loop-node.node-index in
    let parts : NodeParts = c.node-item.result in
    let listed : NodeAt = node_listed c.in_ok-listed.listed in
    let more = lists-more (take i nodes) (map node_listed c.loop-node.lists.items) parts listed c.loop-node.invariant c.in_ok-listed.ensures in
    let front : take i nodes ++ parts ∷ [] ≡ take (i + 1) nodes = ap (λ (p : NodeParts). take i nodes ++ p ∷ []) c.node-item.is ∙ sym (take_more nodes i parts c.loop-node-test.true) in
    let back : map node_listed c.loop-node.lists.items ++ listed ∷ [] ≡ map node_listed c.push.new.self.items = sym (ap (map node_listed) c.in_ok-push.ensures.items ∙ map-append node_listed c.loop-node.lists.items (c.in_ok-listed.listed ∷ [])) in
    subst (λ (ls : List NodeAt). AreListsOf (take (i + 1) nodes) ls) back
    (subst (λ (ns : List NodeParts). AreListsOf ns (map node_listed c.loop-node.lists.items ++ listed ∷ [])) front more)

pub returns : goal.returns
returns c world plugins =
    let shows = (plugins.controller).shows in
    let lists : AreListsOf c.args.nodes.now (map node_listed c.loop-node.lists.items)
    = subst (λ (ns : List NodeParts). AreListsOf ns (map node_listed c.loop-node.lists.items)) (take-whole c.args.nodes.now c.loop-node.node-index c.loop-node-test.false) c.loop-node.invariant
    in
    record {
      volumes = shows.volumes;
      holdings = shows.holdings;
      nodes = lists-alike c.args.nodes.now (map node_listed c.loop-node.lists.items) world.nodes lists plugins.nodes;
      apart = subst AreDistinctTexts (shown-ids c.args.nodes.now world.nodes plugins.nodes) c.requires;
    }
