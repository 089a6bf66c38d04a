-- What settles a volume is told by numbers.
use Rattle.csi_world.proofs.Words.{◌≡◌, ◌++◌, List, length, sym, ◌∙◌, ap, subst, Event, spelled, counted_events}
use Rattle.std.proofs.Common.{OnOk, rules}
use Rattle.csi_world.proofs.SettledWorlds.{settling-counted}
use Rattle.csi_world.proofs.telling.tell.Goals as goal

pub returns-in_ok-count-in-Settle-clause-told : goal.returns-in_ok-count-in-Settle-clause-told
returns-in_ok-count-in-Settle-clause-told c = λ world at.
    let sent : c.len-first.result ≡ length c.args.system.now.frames.items = search rules in
    let same : counted_events c.in-Settle.name c.len-first.result c.in_ok-count-in-Settle.count ≡ spelled world c.args.event
    = ap (λ n. counted_events c.in-Settle.name n c.in_ok-count-in-Settle.count) (sent ∙ ap length at.shows.frames)
    ∙ ap (counted_events c.in-Settle.name (length world.frames)) (c.in_ok-count-in-Settle.ensures.came world at.own at.shows).counted
    ∙ sym (settling-counted world c.in-Settle.name) ∙ ap (spelled world) (sym c.in-Settle.is)
    in
    subst (λ (es : List Event). OnOk c.tell_settling.result (c.tell_settling.new.told.items ≡ c.args.told.now.items ++ es)) same c.tell_settling.ensures
