-- Each part is new.
use Rattle.csi_world.proofs.Words.{ℕ, List, ◌∙◌, ap, map, subst, new_history, Shows, node_id, new_node_parts}
use Rattle.csi_types.specs.declared.config.NodeSlots.{NodeSlots}
use Rattle.csi_world.proofs.SimulatedRuns.{run-first}
use Rattle.csi_world.proofs.simulation.new_system.Goals as goal

pub returns : goal.returns
returns c =
    run-first c.args.config.now _ c.fit_law.ensures c.in_ok-own.ensures c.new.ensures.items c.new-2.ensures.items c.new-controller.ensures.empty (c.new-controller.ensures.config ∙ c.in_ok-given.ensures)
    (c.in_ok-nodes.ensures ∙ ap (λ (slots : List NodeSlots). map (new_node_parts 0) (map node_id slots)) c.nodes-2.ensures)
    (subst (λ (ids : List (List ℕ)). Shows c.new-orchestrator.result (new_history ids)) (c.in_ok-ids.ensures ∙ ap (map node_id) c.nodes.ensures) c.new-orchestrator.ensures.agrees)
