-- Where rows note nothing, no part of them does.
use Rattle.csi_orchestrator.proofs.Words.{◌≡◌, ◌<◌, ℕ, zero, suc, List, [], ◌∷◌, ◌++◌, length, get_or, map, refl, sym}
use Rattle.csi_orchestrator.proofs.Words.{◌∙◌, arith, flat_map, No, Thing, Known, AreSoundRows, known_by_rows, noted_in}
use Rattle.csi_orchestrator.proofs.Words.{RowShown}
use Rattle.csi_orchestrator.proofs.Lemmas.{empty-where}
use Rattle.csi_orchestrator.proofs.ThingsNoted.{rows-list}

-- where lists that are joined have nothing, neither has
pub no-left : {X : Type 0} (xs ys : List X) → xs ++ ys ≡ [] → xs ≡ []
no-left [] ys e = refl
no-left (x ∷ xs) ys e = cc

-- the same of the second
pub no-right : {X : Type 0} (xs ys : List X) → xs ++ ys ≡ [] → ys ≡ []
no-right [] ys e = e
no-right (x ∷ xs) ys e = cc

-- of a list for each, none has any
pub no-flat : {X Y : Type 0} (f : X → List Y) (xs : List X) (i : ℕ) (d : X) → flat_map f xs ≡ [] → i < length xs → f (get_or xs i d) ≡ []
no-flat f [] i d e inside = absurd (omega arith)
no-flat f (x ∷ xs) zero d e inside = no-left (f x) (flat_map f xs) e
no-flat f (x ∷ xs) (suc i) d e inside = no-flat f xs i d (no-right (f x) (flat_map f xs) e) (omega arith)

-- the same of a list that is seen through a function
pub no-flat_shown : {W X Y : Type 0} (f : X → List Y) (view : W → X) (ws : List W) (i : ℕ) (d : W) → flat_map f (map view ws) ≡ [] → i < length ws → f (view (get_or ws i d)) ≡ []
no-flat_shown f view [] i d e inside = absurd (omega arith)
no-flat_shown f view (w ∷ ws) zero d e inside = no-left (f (view w)) (flat_map f (map view ws)) e
no-flat_shown f view (w ∷ ws) (suc i) d e inside = no-flat_shown f view ws i d (no-right (f (view w)) (flat_map f (map view ws)) e) (omega arith)

-- where each thing is known as No, nothing is noted
pub nothing-noted : (rows : List RowShown) → AreSoundRows rows → ((thing : Thing) → known_by_rows rows thing ≡ No) → noted_in rows ≡ []
nothing-noted rows kept unknown = empty-where (noted_in rows) (λ (entry : Thing × Known) among. let told = (rows-list rows kept).told entry among in told.2 (sym told.1 ∙ unknown entry.0))
