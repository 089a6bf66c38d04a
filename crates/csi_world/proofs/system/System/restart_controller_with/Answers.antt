-- The controller has the configuration.
use Rattle.csi_world.proofs.Words.{sym, subst, Config, IsWorldAfter}
use Rattle.csi_world.specs.Public.System.{world_parts}
use Rattle.csi_world.specs.declared.outcomes.Outcome.TheVariants as outcomes
use Rattle.csi_world.proofs.SystemChanges.{configured}
use Rattle.csi_world.proofs.system.System.restart_controller_with.Goals as goal

pub returns : goal.returns
returns c = λ world own shows.
    subst (λ (config : Config). IsWorldAfter (world_parts c.args.self.now) (record (world_parts c.args.self.now) { config = config; controller = c.in_ok-controller.controller }) outcomes.Restarted (record { world = record world { config = c.args.config.now }; outcome = outcomes.Restarted }))
    (sym c.in_ok-own.ensures) (configured (world_parts c.args.self.now) c.args.config.now c.in_ok-controller.controller world own shows c.fit_law.ensures c.in_ok-controller.ensures)
