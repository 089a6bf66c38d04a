-- Runs, event by event.
use Rattle.csi_world.proofs.Words.{◌≡◌, List, [], ◌∷◌, ◌++◌, map, None, refl, ap, Config, config_fault}
use Rattle.csi_world.proofs.Words.{empty_controller, new_history, Event, World, node_id, Occurred, Run, occurs}
use Rattle.csi_world.proofs.Words.{after_from, after, WorldParts, IsLogged, IsRun, new_node_parts, arith}
use Rattle.csi_controller.specs.Model.Core.{Shows as ControllerShows}
use Rattle.csi_orchestrator.specs.Model.Shown.{Shows as OrchestratorShows}
use Rattle.csi_world.proofs.SystemNodes.{new-shown, new-apart}

-- one event more
pub after-more : (world : World) (events : List Event) (event : Event) → after_from world (events ++ event ∷ [])
    ≡ (let before : Run = after_from world events in let occurred : Occurred = occurs before.world event in record { world = occurred.world; outcomes = before.outcomes ++ occurred.outcome ∷ [] })
after-more world [] event = refl
after-more world (x ∷ xs) event =
    let first : Occurred = occurs world x in
    ap (λ (rest : Run). let run : Run = record { world = rest.world; outcomes = first.outcome ∷ rest.outcomes } in run) (after-more first.world xs event)

-- a run with one more event that is logged is a run
pub run-more : (config : Config) (events : List Event) (event : Event) (old new : WorldParts) → IsRun config events old → IsLogged old new (occurs (after config events).world event) → IsRun config (events ++ event ∷ []) new
run-more config events event old new was now = grind (arith, after-more)

-- nothing happened
pub run-first : (config : Config) (shown : WorldParts) → config_fault config.greatest config.nodes ≡ None → shown.config ≡ config → shown.frames ≡ [] → shown.outcomes ≡ []
    → ControllerShows shown.controller empty_controller → (shown.controller).config ≡ config → shown.nodes ≡ map (new_node_parts 0) (map node_id config.nodes)
    → OrchestratorShows shown.orchestrator (new_history (map node_id config.nodes)) → IsRun config [] shown
run-first config shown fit configured frames outcomes controller own_config nodes agrees = grind (arith, new-shown, new-apart)
