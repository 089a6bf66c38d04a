-- The order of things is one: it is the order of their texts, one after the other.
use Rattle.csi_orchestrator.proofs.Words.{◌≡◌, ℕ, ◌≤◌, List, [], ◌∷◌, Bool, false, get_or, refl, sym, ◌∙◌, ap, subst}
use Rattle.csi_orchestrator.proofs.Words.{arith, nat_eq, nat_cmp, ordering_then, ordering_reverse, is_lt, is_eq}
use Rattle.csi_orchestrator.proofs.Words.{eq_by_cmp, IsPermutation, IsSortedBy, slice_cmp, lists_total, lists_ties}
use Rattle.csi_orchestrator.proofs.Words.{pointwise, pointwise_decides, bytes_decides, Thing, Exists, Attached, Staged}
use Rattle.csi_orchestrator.proofs.Words.{Published, Known, EachTwo, thing_order, IsInOrder}
use Rattle.std.specs.List.{IsDistinct}
use Rattle.csi_orchestrator.proofs.Lemmas.{ranks_by, sorted_far, false≢true, two-by_places, two-more}
use Rattle.std.specs.Cmp.{IsTotalOrder, nat_cmp_total, on_total, unsigned_ties}
use Rattle.std.proofs.lemmas.Map.Keys.{IsDistinct-IsPermutation, apart_from_distinct}
use Rattle.std.specs.declared.cmp.Ordering.{Ordering}
use Rattle.std.specs.declared.cmp.Ordering.TheVariants.{Less, Equal}
use Rattle.csi_orchestrator.proofs.ThingsNoted.{AreTwoThings}

-- what tells things apart: one text for each of the name, the node, being more than attached, and the target
abbrev pub texts_of : Thing → List (List ℕ)
texts_of (Exists name) = name ∷ []
texts_of (Attached name node) = name ∷ node ∷ []
texts_of (Staged name node) = name ∷ node ∷ [] ∷ []
texts_of (Published name node target) = name ∷ node ∷ [] ∷ target ∷ []

-- the order of these texts
abbrev by_texts : Thing → Thing → Ordering
by_texts a b = slice_cmp (slice_cmp nat_cmp) (texts_of a) (texts_of b)

-- an order stays as it is where the next comparison gives Equal
then-equal : (r : Ordering) → ordering_then r Equal ≡ r
then-equal Less = refl
then-equal order = refl

-- the order of things is that one
pub order-by_texts : (a b : Thing) → thing_order a b ≡ by_texts a b
order-by_texts a b = grind (arith, then-equal)

-- it is a total order
pub order-total : IsTotalOrder thing_order
order-total = subst IsTotalOrder (λ i a b. sym (order-by_texts a b) i) (on_total texts_of (lists_total (lists_total nat_cmp_total)))

-- ---- what comes in one place is one thing

-- equal texts, and equal lists of texts, are those that come in one place
text-ties : (a b : List ℕ) → pointwise nat_eq a b ≡ eq_by_cmp (slice_cmp nat_cmp) a b
text-ties = lists_ties nat_cmp unsigned_ties

-- the same of lists of texts
texts-ties : (a b : List (List ℕ)) → pointwise (pointwise nat_eq) a b ≡ eq_by_cmp (slice_cmp (slice_cmp nat_cmp)) a b
texts-ties = lists_ties (slice_cmp nat_cmp) text-ties

-- lists of texts that come in one place are equal
texts-same : (a b : List (List ℕ)) → slice_cmp (slice_cmp nat_cmp) a b ≡ Equal → a ≡ b
texts-same a b e = (pointwise_decides bytes_decides a b).0 (texts-ties a b ∙ ap is_eq e)

-- things that have the same texts are the same
same-by-texts : (a b : Thing) → texts_of a ≡ texts_of b → a ≡ b
same-by-texts a b e = grind arith

-- things that come in one place are the same
pub order-same : (a b : Thing) → thing_order a b ≡ Equal → a ≡ b
order-same a b e = same-by-texts a b (texts-same (texts_of a) (texts_of b) (sym (order-by_texts a b) ∙ e))

-- ---- things that differ, once they are sorted, rise

-- the two things come in one place
abbrev has_one_place : Thing × Known → Thing × Known → Bool
has_one_place a b = is_eq (thing_order a.0 b.0)

-- an order that is turned around has the same ties
reverse-level : (r : Ordering) → is_eq (ordering_reverse r) ≡ is_eq r
reverse-level Less = refl
reverse-level order = refl

-- whether two things come in one place is the same from both sides
place-flips : (a b : Thing × Known) → has_one_place a b ≡ has_one_place b a
place-flips a b = ap is_eq (order-total.antisymm a.0 b.0) ∙ reverse-level (thing_order b.0 a.0)

-- different things don't come in one place
places-differ : (a b : Thing × Known) → AreTwoThings a b → has_one_place a b ≡ false
places-differ a b differ = grind (arith, order-same)

-- things of which no two come in one place are distinct
distinct-things : (things : List (Thing × Known)) → EachTwo (λ a b. has_one_place a b ≡ false) things → IsDistinct has_one_place things
unfolding IsDistinct
distinct-things [] two = tt
distinct-things (x ∷ xs) two = (two.0, distinct-things xs two.1)

-- what doesn't fall and isn't level rises
rises : (r : Ordering) → is_lt (ordering_reverse r) ≡ false → is_eq r ≡ false → r ≡ Less
rises r e f = grind (arith, false≢true)

-- once entries of different things are sorted, each thing is there once and in order
pub sorted-in-order : (from things : List (Thing × Known)) → EachTwo AreTwoThings from → IsPermutation from things → IsSortedBy (λ a b. is_lt (thing_order a.0 b.0)) things → IsInOrder things
sorted-in-order from things once moved sorted =
    let apart = IsDistinct-IsPermutation has_one_place place-flips from things moved
    (distinct-things from (two-more AreTwoThings (λ a b. has_one_place a b ≡ false) from places-differ once)) in
    two-by_places (λ (a b : Thing × Known). thing_order a.0 b.0 ≡ Less) things (λ i j d before inside.
    let first = get_or things i d in
    let second = get_or things j d in
    let at_most : i ≤ j = omega arith in
    let not_back = sorted_far (λ (a b : Thing × Known). is_lt (thing_order a.0 b.0)) (ranks_by order-total (λ (e : Thing × Known). e.0)) things sorted i j d at_most inside in
    rises (thing_order first.0 second.0) (ap is_lt (sym (order-total.antisymm second.0 first.0)) ∙ not_back) (apart_from_distinct has_one_place things i j d apart before inside))
