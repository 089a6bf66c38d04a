use Rattle.std.proofs.Common.{◌∙◌, ℕ, refl, sym, ap, arith}
use Rattle.std.proofs.lemmas.Result.{IfOk-weaker}
use Rattle.csi_orchestrator.specs.Public.Shown.{row_shown}
use Rattle.csi_records.specs.Public.OrchestratorSpelling.{orchestrator_row}
use Rattle.csi_records.proofs.OrchestratorReaders.{orchestrator_row_read}
use Rattle.csi_records.proofs.PartReaders.{make_part, read-of, unread-of}
use Rattle.csi_records.proofs.orchestrator_rows.row_at.Goals as goal

pub returns-clause-row : goal.returns-clause-row
returns-clause-row c =
    let reads = orchestrator_row_read c.args.version c.args.place in
    IfOk-weaker c.orchestrator_row_in.result _ _
    (λ row read.
    let p = read-of reads c.args.part.now c.args.place c.value_of.result.now (sym c.if-part-place.false) c.value_of.ensures refl c.orchestrator_row_in.ensures.bytes (row_shown row) read in
    (record { key = omega arith; row = p.0 }, p.1))
    c.orchestrator_row_in.ensures.read

pub returns-clause-bad : goal.returns-clause-bad
returns-clause-bad c = λ failed keyed under same.
    let reads = orchestrator_row_read c.args.version c.args.place in
    unread-of reads c.args.part.now c.args.place c.value_of.result.now (sym c.if-part-place.false) c.value_of.ensures (c.orchestrator_row_in.ensures.bad failed) keyed.row under.is.row
    (ap (λ (key : ℕ). make_part key (orchestrator_row c.args.version keyed.row)) (sym under.under) ∙ same)
