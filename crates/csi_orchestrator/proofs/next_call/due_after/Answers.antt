-- What is due after the success is told by the marks.
use Rattle.csi_orchestrator.proofs.Words.{ℕ, sym, ◌∙◌, ap, Option, option_or, Marks, marks_heard, id_told, row_shown}
use Rattle.csi_orchestrator.proofs.Words.{due_with}
use Rattle.csi_orchestrator.proofs.DueAfterSuccess.{due-after}
use Rattle.csi_orchestrator.proofs.next_call.due_after.Goals as goal

pub returns-in-Some : goal.returns-in-Some
returns-in-Some c =
    let row = c.args.row.now in
    c.due_for.ensures
    ∙ ap (λ (id : Option ℕ). due_with row.name row.arguments id c.marks_after-marks.result c.in-Some.goal) (c.or-id.ensures ∙ ap (λ (id : Option ℕ). option_or id row.id) c.id_told.ensures)
    ∙ ap (λ (marks : Marks). due_with row.name row.arguments (option_or (id_told c.args.kind c.args.id) row.id) marks c.in-Some.goal)
    (c.marks_after-marks.ensures ∙ ap (marks_heard c.args.kind) c.known_for.ensures)
    ∙ sym (due-after (row_shown row) c.args.kind c.args.id c.in-Some.goal c.requires.sound c.requires.due c.in-Some.is)
