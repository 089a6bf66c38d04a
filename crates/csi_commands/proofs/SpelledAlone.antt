-- Events that settle nothing tell themselves.
use Rattle.std.proofs.Common.{◌≡◌, List, [], ◌∷◌, map, false, refl, ap, sym}
use Rattle.std.specs.List.{list_any}
use Rattle.std.proofs.lemmas.Bool.{true≢false}
use Rattle.csi_types.specs.Model.Config.{Config}
use Rattle.csi_types.specs.declared.event.Event.{Event}
use Rattle.csi_types.specs.declared.event.Event.TheVariants.{Create, Use, Stop, Delete, Timeout, Deliver, RestartOrchestrator, RestartOrchestratorWith, RestartController, RestartControllerWith, RestartNode, Join, Lose, Settle}
use Rattle.csi_world.specs.Model.World.{World, empty_world}
use Rattle.csi_world.specs.Model.After.{occurs}
use Rattle.csi_world.specs.Public.Settling.{spelled_from, spelled_out}
use Rattle.csi_json.specs.declared.happening.Happening.TheVariants.{Occurs}
use Rattle.csi_commands.specs.Public.Running.{settles}

spelled-alone : (world : World) (events : List Event) → list_any settles (map Occurs events) ≡ false → spelled_from world events ≡ events
spelled-alone world [] none = refl
spelled-alone world (Create name required limit capabilities ∷ others) none = ap (λ es. Create name required limit capabilities ∷ es) (spelled-alone (occurs world (Create name required limit capabilities)).world others none)
spelled-alone world (Use name node target capability readonly ∷ others) none = ap (λ es. Use name node target capability readonly ∷ es) (spelled-alone (occurs world (Use name node target capability readonly)).world others none)
spelled-alone world (Stop name node target ∷ others) none = ap (λ es. Stop name node target ∷ es) (spelled-alone (occurs world (Stop name node target)).world others none)
spelled-alone world (Delete name ∷ others) none = ap (λ es. Delete name ∷ es) (spelled-alone (occurs world (Delete name)).world others none)
spelled-alone world (Timeout name ∷ others) none = ap (λ es. Timeout name ∷ es) (spelled-alone (occurs world (Timeout name)).world others none)
spelled-alone world (Deliver number ∷ others) none = ap (λ es. Deliver number ∷ es) (spelled-alone (occurs world (Deliver number)).world others none)
spelled-alone world (RestartOrchestrator ∷ others) none = ap (λ es. RestartOrchestrator ∷ es) (spelled-alone (occurs world RestartOrchestrator).world others none)
spelled-alone world (RestartOrchestratorWith nodes ∷ others) none = ap (λ es. RestartOrchestratorWith nodes ∷ es) (spelled-alone (occurs world (RestartOrchestratorWith nodes)).world others none)
spelled-alone world (RestartController ∷ others) none = ap (λ es. RestartController ∷ es) (spelled-alone (occurs world RestartController).world others none)
spelled-alone world (RestartControllerWith config ∷ others) none = ap (λ es. RestartControllerWith config ∷ es) (spelled-alone (occurs world (RestartControllerWith config)).world others none)
spelled-alone world (RestartNode node ∷ others) none = ap (λ es. RestartNode node ∷ es) (spelled-alone (occurs world (RestartNode node)).world others none)
spelled-alone world (Join node ∷ others) none = ap (λ es. Join node ∷ es) (spelled-alone (occurs world (Join node)).world others none)
spelled-alone world (Lose node ∷ others) none = ap (λ es. Lose node ∷ es) (spelled-alone (occurs world (Lose node)).world others none)
spelled-alone world (Settle name ∷ others) none = absurd (true≢false none)

-- so do those of a run
pub told-alone : (config : Config) (events : List Event) → list_any settles (map Occurs events) ≡ false → events ≡ spelled_out config events
told-alone config events none = sym (spelled-alone (empty_world config) events none)
