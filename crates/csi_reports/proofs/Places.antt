-- The order of places: by the id, and then by the texts in turn.
use Rattle.std.proofs.Common.{◌≡◌, ℕ, Bool, true, false, List, [], ◌∷◌, refl, sym}
use Rattle.std.specs.Ordering.{nat_cmp, bool_cmp, ordering_then}
use Rattle.std.specs.Cmp.{IsTotalOrder, nat_cmp_total}
use Rattle.std.specs.Cmp.Lexicographic.{slice_cmp, lists_total}
use Rattle.std.specs.declared.cmp.Ordering.{Ordering}
use Rattle.std.specs.declared.cmp.Ordering.TheVariants.{Less, Equal, Greater}
use Rattle.csi_reports.specs.Public.Order.{flag_number, place_order}

-- an order and then a tie is that order
then-equal : (r : Ordering) → ordering_then r Equal ≡ r
then-equal Less = refl
then-equal Equal = refl
then-equal Greater = refl

-- flags are ordered as their numbers are
flags : (f g : Bool) → bool_cmp f g ≡ nat_cmp (flag_number f) (flag_number g)
flags true true = refl
flags true false = refl
flags false true = refl
flags false false = refl

-- the order of texts, byte by byte
abbrev texts : List ℕ → List ℕ → Ordering
texts = slice_cmp nat_cmp

-- comparing an attached thing by its id, its node and then the rest is comparing its place; then the same of staged and published
pub attached_places : (a b : ℕ) (n m : List ℕ) (p q : ℕ) (f g : Bool)
    → ordering_then (nat_cmp a b) (ordering_then (texts n m) (ordering_then (nat_cmp p q) (bool_cmp f g)))
    ≡ place_order ((a ∷ []) ∷ n ∷ (p ∷ flag_number f ∷ []) ∷ []) ((b ∷ []) ∷ m ∷ (q ∷ flag_number g ∷ []) ∷ [])
attached_places a b n m p q f g = rw (flags f g) (sym (simp then-equal refl))

-- the same of a staged volume: its id, its node, and then the rest
pub staged_places : (a b : ℕ) (n m : List ℕ) (p q : ℕ)
    → ordering_then (nat_cmp a b) (ordering_then (texts n m) (nat_cmp p q)) ≡ place_order ((a ∷ []) ∷ n ∷ (p ∷ []) ∷ []) ((b ∷ []) ∷ m ∷ (q ∷ []) ∷ [])
staged_places a b n m p q = sym (simp then-equal refl)

-- the same of a published volume: its id, its node, its target, and then the rest
pub published_places : (a b : ℕ) (n m s t : List ℕ) (f g : Bool)
    → ordering_then (nat_cmp a b) (ordering_then (texts n m) (ordering_then (texts s t) (bool_cmp f g)))
    ≡ place_order ((a ∷ []) ∷ n ∷ s ∷ (flag_number f ∷ []) ∷ []) ((b ∷ []) ∷ m ∷ t ∷ (flag_number g ∷ []) ∷ [])
published_places a b n m s t f g = rw (flags f g) (sym (simp then-equal refl))

-- places are totally ordered
pub order-total : IsTotalOrder place_order
order-total = lists_total (lists_total nat_cmp_total)

-- comparing names is comparing their places
pub name_places : (n m : List ℕ) → texts n m ≡ place_order (n ∷ []) (m ∷ [])
name_places n m = sym (simp then-equal refl)
