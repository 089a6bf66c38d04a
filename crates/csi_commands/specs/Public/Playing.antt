-- To which worlds a schedule leads: event by event, and where an orchestrator is recovered, with some history. This profile's own.
use Rattle.std.specs.Prelude.{List, [], ◌∷◌, ◌++◌}
use Rattle.csi_json.specs.declared.happening.Recovery.{Recovery}
use Rattle.csi_json.specs.declared.happening.Happening.{Happening}
use Rattle.csi_json.specs.declared.happening.Happening.TheVariants as happenings
use Rattle.csi_json.specs.Public.Schedule.{Schedule}
use Rattle.csi_world.specs.declared.outcomes.Outcome.{Outcome}
use Rattle.csi_world.specs.declared.outcomes.Outcome.TheVariants as outcomes
use Rattle.csi_world.specs.Model.After.{occurs}
use Rattle.csi_world.specs.Model.Safe.{Safe}
use Rattle.csi_world.specs.Model.Simulated.{WorldParts, ShowsRun}
use Rattle.csi_world.specs.Model.World.{World, empty_world}
use Rattle.csi_recovery.specs.Public.Laws.{Recovers}
use Rattle.csi_recovery.specs.Public.Worlds as worlds

-- what an operator says
abbrev pub asked : Recovery → worlds.Recovery
asked recovery = record { nodes = recovery.nodes; session = recovery.session; given = recovery.given }

-- what comes of a recovery, by its outcome: it is allowed, and the recovered orchestrator has a history with which this holds of the recovered world; or
-- it is refused, and this holds of the same world
abbrev pub ComesOf : (World → Type 0) → Recovery → World → Outcome → Type 0
ComesOf Holds recovery world outcomes.Recovered = worlds.IsAllowedIn (asked recovery) world × Recovers Holds recovery.nodes recovery.session recovery.given world
ComesOf Holds recovery world (outcomes.NotRecovered why) = worlds.IsRefusedIn (asked recovery) world why × Holds world
ComesOf Holds recovery world outcome = ⊥

-- it is safe, and this holds of it
pub record IsSafeAnd (world : World) (Holds : Type 0) : Type 0 where
  pub safe : Safe world
  pub holds : Holds

-- this came of a recovery, and then this holds
pub record CameThen (Holds : World → Outcome → Type 0) (recovery : Recovery) (world : World) : Type 0 where
  pub outcome : Outcome
  pub comes : ComesOf (λ next. Holds next outcome) recovery world outcome

-- after these outcomes all this happens to a world, one after another, and leads to a world of which this holds with all outcomes; each world on the
-- way is safe
abbrev pub LeadsTo : (World → List Outcome → Type 0) → List Happening → World → List Outcome → Type 0
LeadsTo Holds [] world came = IsSafeAnd world (Holds world came)
LeadsTo Holds (happenings.Occurs event ∷ others) world came = IsSafeAnd world (LeadsTo Holds others (occurs world event).world (came ++ (occurs world event).outcome ∷ []))
LeadsTo Holds (happenings.Recovers recovery ∷ others) world came = IsSafeAnd world (CameThen (λ next outcome. LeadsTo Holds others next (came ++ outcome ∷ [])) recovery world)

-- it is the last world to which a schedule leads from an empty one of its configuration, and has its outcomes
abbrev pub IsPlayed : Schedule → WorldParts → Type 0
IsPlayed schedule shown = LeadsTo (λ last came. ShowsRun shown (record { world = last; outcomes = came })) schedule.happenings (empty_world schedule.config) []
