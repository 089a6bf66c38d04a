-- The world went on by these events.
use Rattle.csi_world.proofs.Words.{◌≡◌, ◌++◌, List, sym, ◌∙◌, subst, Event, Config, after, settling, WorldParts}
use Rattle.csi_world.proofs.Words.{ShowsRun, IsRun, IsSoundWorld}
use Rattle.csi_world.specs.Public.System.{world_parts}
use Rattle.csi_world.proofs.SettledEvents.{sound-stays, rest-then}
use Rattle.csi_world.proofs.world.World.settle.Goals as goal

pub of-requires : goal.of-requires
of-requires c = sound-stays (world_parts c.into_system-system.result) (world_parts c.settle.new.self) c.in-Ok.ensures.make c.into_system-system.ensures.sound

-- the run that the system has
has-run : (shown : WorldParts) (parts : WorldParts) (config : Config) (events : List Event) → parts ≡ shown → IsSoundWorld parts → ShowsRun shown (after config events) → IsRun config events parts
has-run shown parts config events is sound shows = record { own = sound; shows = subst (λ (w : WorldParts). ShowsRun w (after config events)) (sym is) shows }

pub returns-in-Ok-clause-run : goal.returns-in-Ok-clause-run
returns-in-Ok-clause-run c = λ config events shows.
    let run = has-run c.args.self (world_parts c.into_system-system.result) config events c.into_system-system.ensures.parts c.into_system-system.ensures.sound shows in
    subst (λ (w : WorldParts). ShowsRun w (after config (events ++ settling (after config events).world c.args.name.now))) (sym c.of.ensures) ((c.in-Ok.ensures.went config events run).is_run).shows

pub returns-in-Ok-clause-rest : goal.returns-in-Ok-clause-rest
returns-in-Ok-clause-rest c = λ config events shows.
    let run = has-run c.args.self (world_parts c.into_system-system.result) config events c.into_system-system.ensures.parts c.into_system-system.ensures.sound shows in
    rest-then config events c.args.name.now (world_parts c.settle.new.self) c.is_wanted-wanted.result c.is_wanted-wanted.ensures ((c.in-Ok.ensures.went config events run).is_run).shows

pub returns-in-Ok-clause-settles : goal.returns-in-Ok-clause-settles
returns-in-Ok-clause-settles c = λ config events shows may.
    let run = has-run c.args.self (world_parts c.into_system-system.result) config events c.into_system-system.ensures.parts c.into_system-system.ensures.sound shows in
    let went = c.in-Ok.ensures.went config events run in
    let settles = (c.settling_law.ensures config events c.args.name.now).1 may in
    rest-then config events c.args.name.now (world_parts c.settle.new.self) c.is_wanted-wanted.result c.is_wanted-wanted.ensures (went.is_run).shows ∙ settles.rest
