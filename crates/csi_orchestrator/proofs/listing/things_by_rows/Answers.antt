-- Where nothing is noted, no row notes anything.
use Rattle.csi_orchestrator.proofs.Words.{◌≡◌, ◌∙◌, [], ap, arith, Row, noted_of_row, row_shown}
use Rattle.csi_orchestrator.proofs.RowsWithoutNotes.{no-flat_shown}
use Rattle.csi_orchestrator.proofs.listing.things_by_rows.Goals as goal

pub returns-in_err-add_row-clause-empty : goal.returns-in_err-add_row-clause-empty
returns-in_err-add_row-clause-empty c = λ none.
    let row = c.row-item.result in
    let own : noted_of_row (row_shown row) ≡ []
    = ap (λ (r : Row). noted_of_row (row_shown r)) c.row-item.is ∙ no-flat_shown noted_of_row row_shown c.args.rows.now c.loop-row.row-index row none (omega arith) in
    let ok = c.in_err-add_row.ensures.empty own in
    cc
