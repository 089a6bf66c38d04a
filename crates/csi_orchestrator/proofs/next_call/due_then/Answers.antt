-- An entry for a use tells nothing that wasn't known.
use Rattle.csi_orchestrator.proofs.Words.{Some, None, sym, ◌∙◌, ap, option_map, Marks, due_shown, row_before_call}
use Rattle.csi_orchestrator.proofs.Words.{row_shown, use_due, due_in}
use Rattle.csi_orchestrator.proofs.DueAfterStep.{due-used-by}
use Rattle.csi_orchestrator.proofs.next_call.due_then.Goals as goal

pub returns-in_err-row-in-Use : goal.returns-in_err-row-in-Use
returns-in_err-row-in-Use c =
    let row = row_shown c.args.row.now in
    ap (option_map due_shown) c.from_residual.ensures ∙ due-used-by c.in-Use.usage row None c.in_err-row-in-Use.was ∙ ap (λ step. due_in (row_before_call step row)) (sym c.in-Use.is)

pub returns-in_ok-row-in-Use : goal.returns-in_ok-row-in-Use
returns-in_ok-row-in-Use c =
    let row = row_shown c.args.row.now in
    let id = c.in_ok-row-in-Use.field-0 in
    c.use_due.ensures ∙ ap (λ (marks : Marks). use_due c.in-Use.usage marks id) c.marks_in.ensures ∙ due-used-by c.in-Use.usage row (Some id) c.in_ok-row-in-Use.was
    ∙ ap (λ step. due_in (row_before_call step row)) (sym c.in-Use.is)
