-- At the index that is noted.
use Rattle.csi_orchestrator.proofs.Words.{List, length, refl, sym, ◌∙◌, ap, slice_get, Row, is_numbered}
use Rattle.csi_orchestrator.proofs.Lemmas.{slice_get_read, slice_get_past}
use Rattle.csi_orchestrator.proofs.OpenCallPlaces.{none-noted, noted-nowhere, noted-otherwise, noted-there, numbered-noted}
use Rattle.csi_orchestrator.proofs.replies.index_numbered.Goals as goal

pub returns-in-None : goal.returns-in-None
returns-in-None c = none-noted c.args.catalog.now c.args.number.call (λ (row : Row). is_numbered c.args.number row.open_call) (numbered-noted c.args.catalog.now c.args.number c.requires) (sym c.in-None.ensures)

pub returns-in-None-get : goal.returns-in-None-get
returns-in-None-get c =
    noted-nowhere c.args.catalog.now c.args.number.call (λ (row : Row). is_numbered c.args.number row.open_call) c.in-Some.index (numbered-noted c.args.catalog.now c.args.number c.requires) (sym c.in-Some.ensures)
    (ap (λ (rows : List Row). slice_get rows c.in-Some.index) (sym c.rows.ensures) ∙ slice_get_past c.rows.result.now c.in-Some.index c.in-None-get.ensures.lookup.3)

pub returns-else-is_open_as : goal.returns-else-is_open_as
returns-else-is_open_as c =
    noted-otherwise c.args.catalog.now c.args.number.call (λ (row : Row). is_numbered c.args.number row.open_call) c.in-Some.index c.in-Some-get.row.now (numbered-noted c.args.catalog.now c.args.number c.requires) (sym c.in-Some.ensures)
    (ap (λ (rows : List Row). slice_get rows c.in-Some.index) (sym c.rows.ensures) ∙ slice_get_read c.rows.result.now (length c.rows.result.now) c.in-Some.index c.in-Some-get.row.now refl c.in-Some-get.ensures.lookup.3.0 c.in-Some-get.ensures.lookup.1) (sym c.is_open_as.ensures ∙ c.if-is_open_as.false)

pub returns-then-is_open_as : goal.returns-then-is_open_as
returns-then-is_open_as c =
    noted-there c.args.catalog.now c.args.number.call (λ (row : Row). is_numbered c.args.number row.open_call) c.in-Some.index c.in-Some-get.row.now (numbered-noted c.args.catalog.now c.args.number c.requires) (sym c.in-Some.ensures)
    (ap (λ (rows : List Row). slice_get rows c.in-Some.index) (sym c.rows.ensures) ∙ slice_get_read c.rows.result.now (length c.rows.result.now) c.in-Some.index c.in-Some-get.row.now refl c.in-Some-get.ensures.lookup.3.0 c.in-Some-get.ensures.lookup.1) (sym c.is_open_as.ensures ∙ c.if-is_open_as.true)
