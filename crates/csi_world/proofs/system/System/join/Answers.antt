-- The node stands after the others.
use Rattle.csi_world.proofs.Words.{◌≡◌, List, [], ◌∷◌, ◌++◌, sym, ◌∙◌, ap, subst, NodeParts, node_state, joined_at}
use Rattle.csi_world.proofs.Words.{IsWorldAfter, new_node_parts}
use Rattle.std.proofs.Common.{rules}
use Rattle.csi_world.specs.declared.outcomes.Outcome.TheVariants as outcomes
use Rattle.csi_world.specs.Public.System.{world_parts}
use Rattle.csi_world.proofs.SystemChanges.{node-joins, there-joins}
use Rattle.csi_world.proofs.system.System.join.Goals as goal

pub returns-in-Some : goal.returns-in-Some
returns-in-Some c = λ world own shows. there-joins (world_parts c.args.self.now) c.args.id.now c.in-Some.field-0 world own shows (cc)

pub returns-in_ok-push-in-None : goal.returns-in_ok-push-in-None
returns-in_ok-push-in-None c = λ world own shows.
    let name : c.in_ok-own-in-None.own ≡ c.args.id.now = search rules in
    let made : c.new.result ≡ new_node_parts c.session-session.result c.args.id.now = λ i. record { id = (c.new.ensures.id ∙ name) i; session = c.new.ensures.session i; rows = c.new.ensures.rows i } in
    subst (λ (nodes : List NodeParts). IsWorldAfter (world_parts c.args.self.now) (record (world_parts c.args.self.now) { nodes = nodes }) outcomes.Joined (joined_at world c.args.id.now (node_state c.args.id.now world)))
    (sym (c.in_ok-push-in-None.ensures.items ∙ ap (λ (node : NodeParts). c.args.self.now.nodes.items ++ node ∷ []) made))
    (node-joins (world_parts c.args.self.now) c.args.id.now c.session-session.result world own shows (cc) (c.session-session.ensures.agrees world.history shows.orchestrator))
