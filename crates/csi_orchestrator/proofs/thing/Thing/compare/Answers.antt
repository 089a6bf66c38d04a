-- By the four comparisons.
use Rattle.csi_orchestrator.proofs.Words.{◌≡◌, ◌∙◌, ap, rules, ordering_then, nat_cmp, option_cmp, name_in}
use Rattle.csi_orchestrator.proofs.Words.{node_of_thing, target_of_thing, kind_place, text_order}
use Rattle.csi_orchestrator.proofs.thing.Thing.compare.Goals as goal

pub returns : goal.returns
returns c =
    let a = c.args.self.now in
    let b = c.args.other.now in
    let names : c.cmp-names.result ≡ text_order (name_in a) (name_in b) = search rules in
    let nodes : c.cmp-nodes.result ≡ option_cmp text_order (node_of_thing a) (node_of_thing b) = search rules in
    let kinds : c.cmp-kinds.result ≡ nat_cmp (kind_place a) (kind_place b) = search rules in
    let targets : c.cmp-targets.result ≡ option_cmp text_order (target_of_thing a) (target_of_thing b) = search rules in
    c.then-3.ensures
    ∙ ap (λ r. ordering_then r c.then-2.result) names
    ∙ ap (ordering_then (text_order (name_in a) (name_in b)))
    (c.then-2.ensures
    ∙ ap (λ r. ordering_then r c.then.result) nodes
    ∙ ap (ordering_then (option_cmp text_order (node_of_thing a) (node_of_thing b)))
    (c.then.ensures ∙ ap (λ r. ordering_then r c.cmp-targets.result) kinds ∙ ap (ordering_then (nat_cmp (kind_place a) (kind_place b))) targets))
