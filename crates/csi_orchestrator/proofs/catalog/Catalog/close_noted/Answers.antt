-- The same row, without its open call.
use Rattle.csi_orchestrator.proofs.Words.{◌≡◌, ℕ, List, refl, subst, arith, Row, rows_of, IsClosedAt, without_call}
use Rattle.csi_orchestrator.proofs.RowsUnderNames.{names-set, rows-below, closed-at, closed-nowhere}
use Rattle.csi_orchestrator.proofs.catalog.Catalog.close_noted.Goals as goal

-- the index that is noted is that one
noted-one : (rows new : List Row) (place index : ℕ) → place ≡ index → IsClosedAt place rows new → IsClosedAt index rows new
noted-one rows new place index same closed = subst (λ (i : ℕ). IsClosedAt i rows new) same closed

pub returns-then-index-len-clause-rows : goal.returns-then-index-len-clause-rows
returns-then-index-len-clause-rows c = λ index at.
    let same : c.index-index.result.now ≡ index = cc in
    let closed = closed-at c.args.self.now c.index-index.result.now c.index_mut.result.now c.index_mut.ensures.value in
    noted-one _ _ _ _ same closed

pub returns-then-index-len-clause-names : goal.returns-then-index-len-clause-names
returns-then-index-len-clause-names c = λ names. names-set c.args.self.now c.index-index.result.now c.index_mut.result.now (without_call c.index_mut.result.now) names c.index_mut.ensures.value refl

pub returns-else-index-len-clause-rows : goal.returns-else-index-len-clause-rows
returns-else-index-len-clause-rows c = λ index at.
    let same : c.index-index.result.now ≡ index = cc in
    let long = c.len.ensures.len in
    let over = c.if-index-len.false in
    noted-one _ _ _ _ same (closed-nowhere (rows_of c.args.self.now) c.index-index.result.now (rows-below c.args.self.now c.index-index.result.now (omega (arith, long, over))))
