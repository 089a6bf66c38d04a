-- Which call is due for a row once the one that was due succeeded, by what was known before.
use Rattle.csi_orchestrator.proofs.Words.{◌≡◌, ℕ, refl, ◌∙◌, ap, Option, Some, option_or, Kind, kind_of, Goal, Due}
use Rattle.csi_orchestrator.proofs.Words.{kind_due, due_heard, IsSoundRow, marked_row, known_by_success_of, id_told}
use Rattle.csi_orchestrator.proofs.Words.{succeeded_row, RowShown, due_with, due_by, due_in, arith}
use Rattle.csi_orchestrator.proofs.DueCases.{due-cases}
use Rattle.csi_orchestrator.proofs.RowMarks.{has-entry, marks-then}
use Rattle.csi_orchestrator.proofs.RowsAfterSending.{marks-same}

-- the call that is due once the due call succeeded, by what was known before; and the same by that call's kind
due-heard : (row : RowShown) (id : Option ℕ) (goal : Goal) (due : Due) → IsSoundRow row → due_in row ≡ Some due → row.goal ≡ Some goal
    → due_in (succeeded_row (kind_of due.call) id row) ≡ due_heard (kind_of due.call) id row (Some goal)
due-heard row id goal due kept e wanted =
    let kind = kind_of due.call in
    ap (due_by (succeeded_row kind id row)) wanted
    ∙ ap (λ marks. due_with row.name row.arguments (option_or (id_told kind id) row.id) marks goal)
    (marks-same goal (succeeded_row kind id row) (marked_row (known_by_success_of kind) kind row) refl refl ∙ marks-then row due goal (known_by_success_of kind) (has-entry row row.goal kept.goal) (due-cases row due e) wanted)

-- the same by that call's kind
pub due-after : (row : RowShown) (kind : Kind) (id : Option ℕ) (goal : Goal) → IsSoundRow row → kind_due (due_in row) ≡ Some kind → row.goal ≡ Some goal
    → due_in (succeeded_row kind id row) ≡ due_heard kind id row (Some goal)
due-after row kind id goal kept is wanted = grind (arith, due-heard)
