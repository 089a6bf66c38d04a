-- The event is logged.
use Rattle.csi_world.proofs.Words.{◌++◌, ◌∷◌, [], sym, ◌∙◌, ap, subst, occurs, WorldParts, ShowsWorld}
use Rattle.csi_world.proofs.world.World.occur.Goals as goal

pub of-requires : goal.of-requires
of-requires c =
    (c.in-Ok.ensures (c.requires).world c.into_system-system.ensures.sound
    (subst (λ (parts : WorldParts). ShowsWorld parts (c.requires).world) (sym c.into_system-system.ensures.parts) (c.requires).shows)).own

pub returns-in-Ok-clause-world : goal.returns-in-Ok-clause-world
returns-in-Ok-clause-world c = λ world shows.
    let had = subst (λ (parts : WorldParts). ShowsWorld parts world) (sym c.into_system-system.ensures.parts) shows in
    subst (λ (parts : WorldParts). ShowsWorld parts (occurs world c.args.event.now).world) (sym c.of.ensures) (c.in-Ok.ensures world c.into_system-system.ensures.sound had).world

pub returns-in-Ok-clause-outcome : goal.returns-in-Ok-clause-outcome
returns-in-Ok-clause-outcome c = λ world shows.
    let had = subst (λ (parts : WorldParts). ShowsWorld parts world) (sym c.into_system-system.ensures.parts) shows in
    ap (λ (parts : WorldParts). parts.outcomes) c.of.ensures ∙ (c.in-Ok.ensures world c.into_system-system.ensures.sound had).outcomes
    ∙ ap (λ (parts : WorldParts). parts.outcomes ++ (occurs world c.args.event.now).outcome ∷ []) c.into_system-system.ensures.parts
