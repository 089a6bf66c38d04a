-- The system is the recovered world's.
use Rattle.csi_world.proofs.Words.{◌++◌, ◌∷◌, [], sym, ◌∙◌, ap, subst, WorldParts, ShowsWorld}
use Rattle.csi_world.specs.declared.outcomes.Outcome.TheVariants.{Recovered}
use Rattle.csi_world.specs.Public.Recovery.{recovered_world}
use Rattle.csi_world.specs.Public.System.{world_parts}
use Rattle.csi_world.proofs.RaisedNodes.{recovered-shows, recovered-sound}
use Rattle.csi_world.proofs.world.World.recovered.Goals as goal

pub of-requires : goal.of-requires
of-requires c =
    recovered-sound c.args.session c.args.given.now c.args.orchestrator (world_parts c.into_system-system.result) (world_parts c.recover.new.self) c.in-Ok.ensures c.into_system-system.ensures.sound

pub returns-in-Ok-clause-world : goal.returns-in-Ok-clause-world
returns-in-Ok-clause-world c = λ world history shows agrees form.
    let session = c.args.session in
    let given = c.args.given.now in
    let had = subst (λ (parts : WorldParts). ShowsWorld parts world) (sym c.into_system-system.ensures.parts) shows in
    subst (λ (parts : WorldParts). ShowsWorld parts (recovered_world session given history world)) (sym c.of.ensures)
    (recovered-shows session given c.args.orchestrator (world_parts c.into_system-system.result) (world_parts c.recover.new.self) world history c.in-Ok.ensures had agrees form)

pub returns-in-Ok-clause-outcome : goal.returns-in-Ok-clause-outcome
returns-in-Ok-clause-outcome c =
    ap (λ (parts : WorldParts). parts.outcomes) c.of.ensures ∙ c.in-Ok.ensures.outcomes ∙ ap (λ (parts : WorldParts). parts.outcomes ++ Recovered ∷ []) c.into_system-system.ensures.parts
