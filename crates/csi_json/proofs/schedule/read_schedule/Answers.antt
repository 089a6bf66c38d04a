-- What is read as events alone has nothing behind them.
use Rattle.std.proofs.Common.{List, Ok, map, sym, ◌∙◌, ap, append-nil}
use Rattle.csi_json.specs.declared.happening.Happening.{Happening}
use Rattle.csi_json.specs.declared.happening.Happening.TheVariants.{Occurs}
use Rattle.csi_json.proofs.EventsHappen.{events_happen}
use Rattle.csi_json.proofs.schedule.read_schedule.Goals as goal

pub returns-in-Ok-clause-read : goal.returns-in-Ok-clause-read
returns-in-Ok-clause-read c =
    let config = c.in-Ok.config in
    let events = c.in-Ok.events.items in
    rw c.new.ensures.items
    (events_happen c.args.text.now config events c.in-Ok.ensures ∙ ap (λ (happenings : List Happening). Ok (record { config = config; happenings = happenings })) (sym (append-nil (map Occurs events))))
