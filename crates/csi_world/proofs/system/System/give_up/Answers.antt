-- The orchestrator gives the node up, which is no more then.
use Rattle.csi_world.proofs.Words.{◌≡◌, refl, List, ℕ, None, Some, Option, sym, ◌∙◌, subst, NodeParts, moves, lost_by}
use Rattle.csi_world.proofs.Words.{IsWorldAfter}
use Rattle.csi_orchestrator.specs.Model.Moves.{Loses}
use Rattle.csi_world.specs.declared.outcomes.Outcome.TheVariants as outcomes
use Rattle.csi_world.specs.Public.System.{world_parts}
use Rattle.csi_world.proofs.SystemChanges.{gives-up, taken-left, none-left}
use Rattle.csi_world.proofs.system.System.give_up.Goals as goal

-- a place that is not some is none
none-of : (o : Option ℕ) → ((p : ℕ) → o ≡ Some p → ⊥) → o ≡ None
none-of None not = refl
none-of (Some p) not = absurd (not p refl)

pub returns-in-Some : goal.returns-in-Some
returns-in-Some c = λ world own shows.
    subst (λ (nodes : List NodeParts). IsWorldAfter (world_parts c.args.self.now) (record (world_parts c.args.self.now) { nodes = nodes; orchestrator = c.lose.new.self }) outcomes.Lost (lost_by world c.args.id.now (moves world.history (Loses c.args.id.now))))
    (sym c.remove-node.ensures.items)
    (gives-up c.form_law.ensures (world_parts c.args.self.now) c.args.id.now c.lose.new.self _ world own shows (taken-left c.args.id.now c.args.self.now.nodes.items c.in-Some.place own.apart (cc))
    (c.in-Ok.ensures.ok world.history shows.form shows.orchestrator))

pub returns-in_default : goal.returns-in_default
returns-in_default c = λ world own shows.
    gives-up c.form_law.ensures (world_parts c.args.self.now) c.args.id.now c.lose.new.self c.args.self.now.nodes.items world own shows (none-left c.args.id.now c.args.self.now.nodes.items own.apart (sym c.requires ∙ none-of c.args.place c.in_default.not-Some))
    (c.in-Ok.ensures.ok world.history shows.form shows.orchestrator)
