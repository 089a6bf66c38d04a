-- As a schedule that is played.
use Rattle.std.proofs.Common.{◌++◌, [], ◌∷◌, List, map, sym, subst, append-nil, append_assoc}
use Rattle.csi_json.specs.declared.happening.Happening.{Happening}
use Rattle.csi_json.specs.declared.happening.Happening.TheVariants.{Occurs}
use Rattle.csi_commands.proofs.Played.{IsOnFrom, played-first, played-more, played-world}
use Rattle.csi_commands.proofs.telling.told_on.Goals as goal

pub loop-happening-init : goal.loop-happening-init
loop-happening-init c =
    let first : List Happening = map Occurs c.args.events.now in
    subst (λ (happenings : List Happening). IsOnFrom c.args.config.now happenings c.in_ok-world.world) (sym (append-nil first))
    (played-first c.moves_law.ensures c.recovery_law.ensures c.args.config.now c.args.events.now c.in_ok-world.world c.in_ok-world.ensures.run)

pub happen-requires : goal.happen-requires
happen-requires c = played-world c.args.config.now _ c.loop-happening.world c.loop-happening.invariant

pub loop-happening-preserved : goal.loop-happening-preserved
loop-happening-preserved c =
    let first : List Happening = map Occurs c.args.events.now in
    subst (λ (happenings : List Happening). IsOnFrom c.args.config.now happenings c.in_ok-world-2.world) (append_assoc first c.loop-happening.yielded (c.in-Some.happening ∷ []))
    (played-more c.moves_law.ensures c.args.config.now (first ++ c.loop-happening.yielded) c.in-Some.happening c.loop-happening.world c.in_ok-world-2.world c.loop-happening.invariant c.in_ok-world-2.ensures)
