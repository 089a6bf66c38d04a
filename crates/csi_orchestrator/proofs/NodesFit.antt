-- The tests of a record's nodes are passed exactly where they keep the rules.
use Rattle.csi_orchestrator.proofs.Words.{◌≡◌, ◌≤◌, ℕ, length, true, false, not, List, [], ◌∷◌, refl, sym, ◌∙◌}
use Rattle.csi_orchestrator.proofs.Words.{list_any, EachTwo, same_text, AreNodesFit, are_nodes_apart}
use Rattle.csi_orchestrator.proofs.Lemmas.{and_from, and_parts, false≢true, not-true, not_from_false}
use Rattle.csi_orchestrator.proofs.FirstRefused.{each-fails}
use Rattle.csi_orchestrator.proofs.SplitLists.{any-of_none}

-- nodes that pass are different
apart-from : (nodes : List (List ℕ)) → are_nodes_apart nodes ≡ true → EachTwo (λ (a b : List ℕ). same_text a b ≡ false) nodes
apart-from [] h = tt
apart-from (node ∷ later) h =
    let parts = and_parts (not (list_any (same_text node) later)) (are_nodes_apart later) h in
    (each-fails (same_text node) later (not-true (list_any (same_text node) later) parts.0), apart-from later parts.1)

-- and back
from-apart : (nodes : List (List ℕ)) → EachTwo (λ (a b : List ℕ). same_text a b ≡ false) nodes → are_nodes_apart nodes ≡ true
from-apart [] two = refl
from-apart (node ∷ later) two =
    and_from (not (list_any (same_text node) later)) (are_nodes_apart later) (not_from_false (list_any (same_text node) later) (any-of_none (same_text node) later two.0)) (from-apart later two.1)

-- few nodes that pass are a record's
pub fit-from : (nodes : List (List ℕ)) → length nodes ≤ 64 → are_nodes_apart nodes ≡ true → AreNodesFit nodes
fit-from nodes few h = record { few = few; apart = apart-from nodes h }

-- nodes that fail aren't
pub unfit-from : (nodes : List (List ℕ)) → are_nodes_apart nodes ≡ false → AreNodesFit nodes → ⊥
unfit-from nodes h fit = false≢true (sym h ∙ from-apart nodes fit.apart)
