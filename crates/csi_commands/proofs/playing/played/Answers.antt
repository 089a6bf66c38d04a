-- The events lead to the first world, and each thing that happens leads on.
use Rattle.std.proofs.Common.{◌++◌, [], ◌∷◌, List, map, take, sym, subst, ◌∙◌, ap, append-nil, append_assoc, arith, ◌≡◌, ◌<◌, length, get_or}
use Rattle.std.proofs.lemmas.List.{take_more, take_all}
use Rattle.csi_types.specs.declared.event.Event.{Event}
use Rattle.csi_json.specs.declared.happening.Happening.{Happening}
use Rattle.csi_json.specs.declared.happening.Happening.TheVariants.{Occurs}
use Rattle.csi_world.specs.Model.After.{after}
use Rattle.csi_world.specs.Model.Simulated.{ShowsRun}
use Rattle.csi_commands.proofs.Played.{IsOnFrom, played-first, played-more, played-all, played-world}
use Rattle.csi_commands.proofs.playing.played.Goals as goal

pub loop-happening-init : goal.loop-happening-init
loop-happening-init c =
    let schedule = c.args.schedule.now in
    let first : List Happening = map Occurs (schedule.events).items in
    subst (λ (happenings : List Happening). IsOnFrom schedule.config happenings c.in_ok-world.world) (sym (append-nil first))
    (played-first c.moves_law.ensures c.recovery_law.ensures schedule.config (schedule.events).items c.in_ok-world.world (subst (λ (events : List Event). ShowsRun c.in_ok-world.world (after schedule.config events)) c.deref.ensures.value c.in_ok-world.ensures.run))

pub happen-requires : goal.happen-requires
happen-requires c = played-world (c.args.schedule.now).config _ c.loop-happening.world c.loop-happening.invariant

pub loop-happening-preserved : goal.loop-happening-preserved
loop-happening-preserved c =
    let schedule = c.args.schedule.now in
    let first : List Happening = map Occurs (schedule.events).items in
    let on : List Happening = (schedule.on).items in
    let index = c.loop-happening.happening-index in
    let happening = c.happening-item.result in
    let same : c.deref-happening-items.result.now ≡ on = c.deref-happening-items.ensures.value in
    let inside : index < length on = subst (λ (items : List Happening). index < length items) same c.loop-happening-test.true in
    let item : happening ≡ get_or on index happening = subst (λ (items : List Happening). happening ≡ get_or items index happening) same c.happening-item.is in
    subst (λ (happenings : List Happening). IsOnFrom schedule.config happenings c.in_ok-world-2.world)
    (append_assoc first (take index on) (happening ∷ []) ∙ ap (λ (happenings : List Happening). first ++ happenings) (sym (take_more on index happening inside ∙ ap (λ (next : Happening). take index on ++ next ∷ []) (sym item))))
    (played-more c.moves_law.ensures schedule.config (first ++ take index on) happening c.loop-happening.world c.in_ok-world-2.world c.loop-happening.invariant c.in_ok-world-2.ensures)

pub returns : goal.returns
returns c =
    let schedule = c.args.schedule.now in
    let index = c.loop-happening.happening-index in
    played-all schedule.config (map Occurs schedule.events.items ++ schedule.on.items) c.loop-happening.world
    (subst (λ (on : List Happening). IsOnFrom schedule.config (map Occurs schedule.events.items ++ on) c.loop-happening.world) (take_all index schedule.on.items (omega (arith, c.loop-happening-test.false))) c.loop-happening.invariant)
