-- Rows once every open call was given up, as they are kept and as they are shown.
use Rattle.csi_orchestrator.proofs.Words.{◌≡◌, List, [], ◌∷◌, map, refl, ap, Row, row_shown, closed, without_call}

-- what is shown of rows without their open calls is what was shown of them, closed
pub shown-closed : (rows : List Row) → map row_shown (map without_call rows) ≡ map closed (map row_shown rows)
shown-closed [] = refl
shown-closed (row ∷ rows) = ap (λ xs. closed (row_shown row) ∷ xs) (shown-closed rows)
