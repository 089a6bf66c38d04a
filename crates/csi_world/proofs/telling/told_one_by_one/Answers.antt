-- One event more; and what was told leads to the same world.
use Rattle.std.proofs.Common.{◌≡◌, length, rules, sym, ◌∙◌, ap, map-id}
use Rattle.std.specs.Vec.{vec_len}
use Rattle.std.proofs.lemmas.Iterator.Adapters.{YieldsList-from_vec}
use Rattle.std.proofs.lemmas.Iterator.Consumers.{YieldsList-end}
use Rattle.csi_world.specs.Public.Settling.{spelled_out}
use Rattle.csi_world.specs.Public.System.{world_parts}
use Rattle.csi_world.proofs.ToldEvents.{told-next, told-same}
use Rattle.csi_world.proofs.telling.told_one_by_one.Goals as goal

pub loop-event-preserved : goal.loop-event-preserved
loop-event-preserved c =
    told-next c.args.config.now c.loop-event.yielded c.in-Some.event (world_parts c.loop-event.system) (world_parts c.tell.new.system)
    c.loop-event.told.items c.tell.new.told.items
    (λ world at. c.in_ok-tell.ensures.at world at) (λ world at. c.in_ok-tell.ensures.told world at) c.loop-event.invariant

pub returns-clause-world : goal.returns-clause-world
returns-clause-world c =
    let began = c.into_iter-event-iterator.ensures.into_iter_gives in
    let size : vec_len c.args.events ≡ length c.args.events.items = search rules in
    let end = YieldsList-end (YieldsList-from_vec c.args.events.items began.0 (began.1 ∙ size)) c.loop-event.yielded _ c.loop-event.yielded_by _ c.next.new.self c.in-None.is c.next.ensures.steps in
    let all : c.loop-event.yielded ≡ c.args.events.items = sym (map-id c.loop-event.yielded) ∙ end.0 in
    told-same c.args.config.now c.args.events.items c.loop-event.told.items (c.loop-event.invariant.same ∙ ap (spelled_out c.args.config.now) all)
