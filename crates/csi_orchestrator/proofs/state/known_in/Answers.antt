-- At the index of the name.
use Rattle.csi_orchestrator.proofs.Words.{◌∙◌, ℕ, List, sym, ap, position, same_text, Row, rows_of, name_in, RowShown}
use Rattle.csi_orchestrator.proofs.Words.{mark_in, mark_of, row_shown}
use Rattle.csi_orchestrator.proofs.ChangedEntries.{find-place, find-none_placed}
use Rattle.csi_orchestrator.proofs.RowsUnderNames.{read-at}
use Rattle.csi_orchestrator.proofs.state.known_in.Goals as goal

pub returns-in-Some : goal.returns-in-Some
returns-in-Some c =
    let rows = rows_of c.args.catalog.now in
    let name = name_in c.args.thing.now in
    let there = sym (ap (λ (n : List ℕ). position (λ (row : Row). same_text row.name n) rows) c.name.ensures) ∙ sym c.in-Some.ensures.index in
    c.known_at.ensures
    ∙ sym (ap (mark_in (mark_of c.args.thing.now)) (find-place row_shown (λ (row : RowShown). same_text row.name name) rows c.in-Some.index c.index.result.now there (read-at rows c.in-Some.index c.index.result.now c.index.ensures)))

pub returns-in-None : goal.returns-in-None
returns-in-None c =
    let rows = rows_of c.args.catalog.now in
    let none = sym (ap (λ (n : List ℕ). position (λ (row : Row). same_text row.name n) rows) c.name.ensures) ∙ sym c.in-None.ensures.index in
    sym (ap (mark_in (mark_of c.args.thing.now)) (find-none_placed row_shown (λ (row : RowShown). same_text row.name (name_in c.args.thing.now)) rows none))
