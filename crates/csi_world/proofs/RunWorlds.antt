-- Worlds to which events lead.
use Rattle.csi_world.proofs.Words.{List, [], ◌∷◌, map, subst, Event, Config, History, IsWellFormed, MovesKeepForm}
use Rattle.csi_world.proofs.Words.{IsReached, Begins, MovesLaw, World, node_id, empty_world, occurs, after, after_from}
use Rattle.csi_types.specs.declared.event.Event.TheVariants as events
use Rattle.csi_world.proofs.Deliveries.{PluginLaws}
use Rattle.csi_world.proofs.RightWorlds.{IsRight}
use Rattle.csi_world.proofs.ChoicesRight.{empty-right, all-right}
use Rattle.csi_world.proofs.HeardNumbers.{HasHeard, all-heard, empty-heard}
use Rattle.csi_world.proofs.MovesRowed.{IsMoved, IsPlain, stays, goes, event-moved, moved-rowed}
use Rattle.csi_world.proofs.NamesRowed.{AreRowed, first-rowed}
use Rattle.csi_world.proofs.NodeRows.{AllCalled, all-called, empty-called}
use Rattle.csi_world.proofs.RowsShown.{HasRows, have-ids, rows-next, first-rows}
use Rattle.csi_world.proofs.RunSteps.{one-event}
use Rattle.csi_world.proofs.SettledWorlds.{settled-keeps}

-- what is kept of every such world
pub record IsRun (world : World) : Type 0 where
  pub right : IsRight world
  pub reached : IsReached world.history
  pub form : IsWellFormed world.history
  pub heard : HasHeard world
  pub rowed : AreRowed world.history
  pub called : AllCalled world
  pub rows : HasRows world.history

-- the laws by which it is kept
pub record RunLaws : Type 0 where
  pub plugins : PluginLaws
  pub moves : MovesLaw
  pub form : MovesKeepForm

-- the history after an event
moved-on : RunLaws → (world : World) (history : History) → IsRun world → IsMoved world history → IsWellFormed history × AreRowed history × HasRows history
moved-on laws world _ run stays = (run.form, run.rowed, run.rows)
moved-on laws world _ run (goes input) =
    ((laws.form).then world.history input run.form, moved-rowed world.history input run.form run.rowed (laws.moves world.history input run.reached), rows-next world.history input run.form (have-ids world run.right) run.rows)

-- it is kept by each event that settles nothing
plain-run : RunLaws → (world : World) (event : Event) → IsPlain event → IsRun world → IsRun (occurs world event).world
plain-run laws world event plain run =
    let step = one-event world event laws.moves run.reached in
    let history = moved-on laws world (occurs world event).world.history run (event-moved world event plain) in
    record {
      right = subst IsRight (step.comes).same_world (all-right laws.plugins world (step.comes).choices run.right (step.comes).may);
      reached = step.reached;
      form = history.0;
      heard = subst HasHeard (step.comes).same_world (all-heard laws.plugins world (step.comes).choices run.right (step.comes).may run.heard);
      rowed = history.1;
      called = subst AllCalled (step.comes).same_world (all-called laws.plugins world (step.comes).choices run.right (step.comes).may run.called);
      rows = history.2;
    }

-- and so by each event
pub next-run : RunLaws → (world : World) (event : Event) → IsRun world → IsRun (occurs world event).world
next-run laws world (events.Create name required limit capabilities) run = plain-run laws world (events.Create name required limit capabilities) tt run
next-run laws world (events.Use name node target capability readonly) run = plain-run laws world (events.Use name node target capability readonly) tt run
next-run laws world (events.Stop name node target) run = plain-run laws world (events.Stop name node target) tt run
next-run laws world (events.Delete name) run = plain-run laws world (events.Delete name) tt run
next-run laws world (events.Timeout name) run = plain-run laws world (events.Timeout name) tt run
next-run laws world (events.Deliver number) run = plain-run laws world (events.Deliver number) tt run
next-run laws world events.RestartOrchestrator run = plain-run laws world events.RestartOrchestrator tt run
next-run laws world (events.RestartOrchestratorWith nodes) run = plain-run laws world (events.RestartOrchestratorWith nodes) tt run
next-run laws world events.RestartController run = plain-run laws world events.RestartController tt run
next-run laws world (events.RestartControllerWith config) run = plain-run laws world (events.RestartControllerWith config) tt run
next-run laws world (events.RestartNode node) run = plain-run laws world (events.RestartNode node) tt run
next-run laws world (events.Join node) run = plain-run laws world (events.Join node) tt run
next-run laws world (events.Lose node) run = plain-run laws world (events.Lose node) tt run
next-run laws world (events.Settle name) run =
    settled-keeps IsRun name (λ w r. plain-run laws w (events.Timeout name) tt r) (λ w number r. plain-run laws w (events.Deliver number) tt r) world run

-- and by many
pub run-on : RunLaws → (world : World) (events : List Event) → IsRun world → IsRun (after_from world events).world
run-on laws world [] run = run
run-on laws world (event ∷ others) run = run-on laws (occurs world event).world others (next-run laws world event run)

-- so it is of every run
pub is-run : RunLaws → (config : Config) (events : List Event) → IsRun (after config events).world
is-run laws config events =
    run-on laws (empty_world config) events
    (record {
      right = empty-right laws.plugins config;
      reached = Begins (map node_id config.nodes) (record { session = 1; call = 0 });
      form = (laws.form).first (map node_id config.nodes) (record { session = 1; call = 0 });
      heard = empty-heard config;
      rowed = first-rowed (map node_id config.nodes) (record { session = 1; call = 0 });
      called = empty-called config;
      rows = first-rows (map node_id config.nodes) (record { session = 1; call = 0 });
    })
