use Rattle.std.proofs.Common.{◌≡◌, true, false, ap, arith}
use Rattle.std.proofs.lemmas.Result.{IfOk-weaker}
use Rattle.csi_stores.specs.Public.Part.{StoredPart}
use Rattle.csi_records.proofs.PartReaders.{read-of, unread-of}
use Rattle.csi_records.proofs.plugin_rows.row_of.Goals as goal

pub returns-clause-row : goal.returns-clause-row
returns-clause-row g c =
    IfOk-weaker c.row_in.result _ _
    (λ row read. read-of (c.reading_law.ensures c.args.version) c.args.part.now c.in-Some.id c.value_of.result.now c.in-Some.ensures.value c.value_of.ensures c.row_in.ensures.id c.row_in.ensures.bytes (g.T.Row.shown row) read)
    c.row_in.ensures.read

pub returns-clause-bad : goal.returns-clause-bad
returns-clause-bad g c = λ failed. unread-of (c.reading_law.ensures c.args.version) c.args.part.now c.in-Some.id c.value_of.result.now c.in-Some.ensures.value c.value_of.ensures (c.row_in.ensures.bad failed)

pub returns-in_default-clause-bad : goal.returns-in_default-clause-bad
returns-in_default-clause-bad g c = λ failed row fits same.
    let id = (c.reading_law.ensures c.args.version).has_key row fits in
    let key : (g.T.Row.row_part c.args.version row).key ≡ c.args.part.now.key = ap (λ (p : StoredPart). p.key) same in
    let there : false ≡ true = c.in_default.ensures.some.1 (omega (arith, id.from_one, key)) in
    cc
