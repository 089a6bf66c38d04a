-- Rows that are a record's have no first one that is refused.
use Rattle.csi_orchestrator.proofs.Words.{ℕ, List, map, sym, subst, Row, AreRestorable, row_shown}
use Rattle.csi_orchestrator.proofs.FirstRefused.{not-both}
use Rattle.csi_orchestrator.proofs.RowsOfRecord.{rows-apart, rows-closed}
use Rattle.csi_orchestrator.proofs.record.OrchestratorRecord.try_new.Goals as goal

pub of_rows-requires-clause-names : goal.of_rows-requires-clause-names
of_rows-requires-clause-names c =
    let kept : AreRestorable c.as_slice-2.result.now (map row_shown c.as_slice-3.result.now) = rw c.in-Ok-None.field-0-is at c.in-Ok-None.ensures in
    rows-apart c.args.rows.items (subst (λ (rs : List Row). AreRestorable c.as_slice-2.result.now (map row_shown rs)) c.as_slice-3.ensures.value kept).names

pub of_rows-requires-clause-closed : goal.of_rows-requires-clause-closed
of_rows-requires-clause-closed c =
    let kept : AreRestorable c.as_slice-2.result.now (map row_shown c.as_slice-3.result.now) = rw c.in-Ok-None.field-0-is at c.in-Ok-None.ensures in
    rows-closed c.as_slice-2.result.now c.args.rows.items (subst (λ (rs : List Row). AreRestorable c.as_slice-2.result.now (map row_shown rs)) c.as_slice-3.ensures.value kept).each

pub returns-in-Ok-Some-clause-accepted : goal.returns-in-Ok-Some-clause-accepted
returns-in-Ok-Some-clause-accepted c = λ fit kept.
    absurd (not-both c.as_slice-2.result.now (map row_shown c.as_slice-3.result.now) c.in-Ok-Some.place (rw c.in-Ok-Some.field-0-is at c.in-Ok-Some.ensures)
    (subst (λ (ns : List (List ℕ)). AreRestorable ns (map row_shown c.as_slice-3.result.now)) (sym c.as_slice-2.ensures.value)
    (subst (λ (rs : List Row). AreRestorable c.args.nodes.items (map row_shown rs)) (sym c.as_slice-3.ensures.value) kept)))
