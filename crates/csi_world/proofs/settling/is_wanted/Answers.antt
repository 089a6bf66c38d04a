-- By the row of the name.
use Rattle.std.proofs.Common.{sym, ◌∙◌, ap, is_some}
use Rattle.csi_orchestrator.specs.declared.row.Row.{Row}
use Rattle.csi_world.proofs.SettledEvents.{none-wanted, row-wanted}
use Rattle.csi_world.proofs.settling.is_wanted.Goals as goal

pub returns-in-Some : goal.returns-in-Some
returns-in-Some c = λ history agrees.
    let row = c.index-rows-place.result in
    let named = sym c.in-Some.is ∙ c.place_of.ensures in
    c.is_some.ensures ∙ ap (λ (r : Row). is_some r.goal) (sym c.index-rows-place.is)
    ∙ row-wanted c.args.orchestrator.now history c.args.name.now c.rows.result.now c.in-Some.place row agrees c.rows.ensures.value named c.index-rows-place.is

pub returns-in-None : goal.returns-in-None
returns-in-None c = λ history agrees. none-wanted c.args.orchestrator.now history c.args.name.now agrees (sym c.in-None.is ∙ c.place_of.ensures)
