-- Those that are remembered, in order.
use Rattle.csi_orchestrator.proofs.Words.{rules, ℕ, List, not, Row, is_row_forgotten, row_shown}
use Rattle.csi_orchestrator.proofs.Lemmas.{filter-RetainsPairs}
use Rattle.csi_orchestrator.proofs.RowsForgotten.{rows-remembered, remembered-indexed}
use Rattle.csi_orchestrator.proofs.catalog.Catalog.forget.Goals as goal

pub returns-clause-rows : goal.returns-clause-rows
returns-clause-rows c =
    rows-remembered c.args.self.now (record { rows = c.retain.new.self; calls = c.clear.new.self })
    (filter-RetainsPairs _ (λ (e : List ℕ × Row). not (is_row_forgotten (row_shown e.1))) _ (λ k v b w g call. search rules) _ _ c.retain.ensures.filtered)

pub returns-clause-indexed : goal.returns-clause-indexed
returns-clause-indexed c =
    remembered-indexed c.args.self.now (record { rows = c.retain.new.self; calls = c.clear.new.self }) c.requires.indexed c.requires.closed
    (filter-RetainsPairs _ (λ (e : List ℕ × Row). not (is_row_forgotten (row_shown e.1))) _ (λ k v b w g call. search rules) _ _ c.retain.ensures.filtered)
    c.clear.ensures.empty c.clear.ensures.capacity
