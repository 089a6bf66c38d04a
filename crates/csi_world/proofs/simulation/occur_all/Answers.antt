-- One event more.
use Rattle.csi_world.proofs.Words.{◌≡◌, ◌+◌, ◌++◌, ◌∷◌, [], List, take, sym, ◌∙◌, ap, subst, Event, after, IsRun}
use Rattle.csi_world.proofs.Lemmas.{take_more}
use Rattle.csi_world.specs.Public.System.{world_parts}
use Rattle.csi_world.proofs.SimulatedRuns.{run-more}
use Rattle.csi_world.proofs.simulation.occur_all.Goals as goal

pub loop-event-preserved : goal.loop-event-preserved
loop-event-preserved c = λ config began.
    let events = c.args.events.now in
    let index = c.loop-event.event-index in
    let event = c.event-item.result in
    let before = c.loop-event.invariant config began in
    let more : take (index + 1) events ≡ take index events ++ event ∷ []
    = take_more events index event c.loop-event-test.true ∙ ap (λ (e : Event). take index events ++ e ∷ []) (sym c.event-item.is) in
    subst (λ (es : List Event). IsRun config es (world_parts c.occur.new.self)) (sym more)
    (run-more config (take index events) event (world_parts c.loop-event.system) (world_parts c.occur.new.self) before (c.in_ok-occur.ensures (after config (take index events)).world before.own before.shows.world))
