-- Why what has to be spelled of a row is bounded.
use Rattle.csi_orchestrator.proofs.Words.{◌≡◌, ◌≤◌, ℕ, List, [], ◌∷◌, length, map, subst, arith, Option}
use Rattle.csi_orchestrator.proofs.Words.{AllByRecursion, Goal, Row, RowShown, OrchestratorParts, HasFewTargets}
use Rattle.csi_orchestrator.proofs.Words.{AreWithin, IsRowFew, IsRestorable, AreRestorable, row_shown, AreSoundParts}
use Rattle.csi_orchestrator.proofs.Words.{HasTries, IsSteadyRow, AreSteadyRows}
use Rattle.csi_orchestrator.proofs.Lemmas.{length-map, each-weaker}
use Rattle.csi_orchestrator.proofs.RowsOfRecord.{each-unmapped}

-- a row, as it is shown, has few tries and entries, and each of these few targets
record IsShownFew (row : RowShown) : Type 0 where
  pub tries : row.tries ≤ 3
  pub count : length row.node_entries ≤ 64
  pub targets : AllByRecursion HasFewTargets row.node_entries

-- tries are counted up to 3
pub few-tries : (goal : Option Goal) (tries : ℕ) → HasTries goal tries → tries ≤ 3
few-tries goal tries none = grind arith

-- so it is with the row as it is kept
shown-few : (row : Row) → IsShownFew (row_shown row) → IsRowFew row
shown-few row few = grind (arith, length-map, each-unmapped)

-- a row of one, or of an orchestrator
steady-few : (nodes : List (List ℕ)) (row : RowShown) → AreWithin nodes row → IsSteadyRow row → IsShownFew row
steady-few nodes row within steady = grind (arith, few-tries, each-weaker)

-- the rows of a record
pub record-few : (nodes : List (List ℕ)) (rows : List Row) → AreRestorable nodes (map row_shown rows) → AllByRecursion IsRowFew rows
record-few nodes rows kept =
    each-weaker (λ (row : Row). IsRestorable nodes (row_shown row)) IsRowFew rows (λ row own. shown-few row (steady-few nodes (row_shown row) own.within own.steady))
    (each-unmapped row_shown (IsRestorable nodes) rows kept.each)

-- each of them
each-few : (nodes : List (List ℕ)) (rows : List RowShown) → AllByRecursion (AreWithin nodes) rows → AreSteadyRows rows → AllByRecursion IsShownFew rows
each-few nodes [] within steady = tt
each-few nodes (row ∷ rows) within steady = (steady-few nodes row within.0 steady.0, each-few nodes rows within.1 steady.1)

-- as they are kept
pub rows-few : (parts : OrchestratorParts) (rows : List Row) → AreSoundParts parts → parts.rows ≡ map row_shown rows → AllByRecursion IsRowFew rows
rows-few parts rows kept shown =
    each-weaker (λ (row : Row). IsShownFew (row_shown row)) IsRowFew rows shown-few
    (each-unmapped row_shown IsShownFew rows (subst (AllByRecursion IsShownFew) shown (each-few parts.nodes parts.rows kept.within.entries kept.steady)))
