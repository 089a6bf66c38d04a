-- What a search by halving tells in a list that is in order: the place of a row by its id, and where something is noted of a thing.
use Rattle.csi_world.proofs.Words.{◌≡◌, ◌≤◌, ◌<◌, ℕ, zero, suc, List, [], ◌∷◌, length, get_or, true, false, Result, Ok}
use Rattle.csi_world.proofs.Words.{Err, refl, sym, ◌∙◌, ap, inl, inr, arith, position, ◌==◌, subst, IsAmong, EachTwo}
use Rattle.csi_world.proofs.Words.{AtMostOne, ControllerRow, list_any, Thing, Known, thing_order, IsInOrder}
use Rattle.csi_world.proofs.Words.{same_thing, is_entry_of}
use Rattle.csi_world.proofs.Lemmas.{nat_tests, eq-eqb, false_from_ne_true, each-at, each-place, FirstAt-only, at-index}
use Rattle.csi_world.proofs.Lemmas.{position-first, position-none, rising-one, each_of, find-none, any-then, then-any}
use Rattle.csi_world.proofs.Lemmas.{none-among}
use Rattle.std.specs.Result.{is_ok, result_ok}
use Rattle.std.specs.List.Sorted.{IsSearchInRange, IsBinarySearchResult, IsNonDecreasingBy, IsSortedBy}
use Rattle.std.specs.Ordering.{ordering_index, nat_cmp, is_lt}
use Rattle.std.specs.declared.cmp.Ordering.{Ordering}
use Rattle.std.specs.declared.cmp.Ordering.TheVariants.{Less, Equal, Greater}
use Rattle.std.proofs.lemmas.Cmp.{ranked, tied_itself}
use Rattle.csi_controller.specs.Public.Core.{AreRisingRows}
use Rattle.std.specs.Cmp.{both_ways}
use Rattle.std.proofs.lemmas.List.Sorted.{searchable_from_sorted}
use Rattle.csi_orchestrator.proofs.ThingOrder.{order-total, order-same}
use Rattle.csi_world.proofs.MarksTold.{same-itself}
use Rattle.csi_world.proofs.NamedCalls.{same-tells}

-- what is among a list stands at a place of it, and the other way round
pub place-of : {X : Type 0} (xs : List X) (x : X) → IsAmong x xs → (k : ℕ) × (k < length xs) × (get_or xs k x ≡ x)
place-of [] x among = absurd among
place-of (y ∷ ys) x (inl e) = (0, omega arith, sym e)
place-of (y ∷ ys) x (inr there) = let found = place-of ys x there in (suc found.0, omega (arith, found.1), found.2)

-- what stands at a place of a list is among it
pub at-place : {X : Type 0} (xs : List X) (k : ℕ) (d : X) → k < length xs → IsAmong (get_or xs k d) xs
at-place [] k d inside = absurd (omega arith)
at-place (x ∷ xs) zero d inside = inl refl
at-place (x ∷ xs) (suc k) d inside = inr (at-place xs k d (omega arith))

-- Less isn't Equal
less_is_not : Less ≡ Equal → ⊥
less_is_not e = cc

-- Greater isn't Equal
greater_is_not : Greater ≡ Equal → ⊥
greater_is_not e = cc

-- where one is found, one of the list ties
pub found-ties : {X : Type 0} (ord : X → Ordering) (xs : List X) (r : Result ℕ ℕ) → IsSearchInRange r (length xs) → IsBinarySearchResult ord xs r → is_ok r ≡ true
    → (x : X) × IsAmong x xs × (ord x ≡ Equal)
found-ties ord [] (Ok i) within equal is = absurd (omega arith)
found-ties ord (x ∷ xs) (Ok i) within equal is = (get_or (x ∷ xs) i x, at-place (x ∷ xs) i x within, equal x)
found-ties ord xs (Err i) within parted is = absurd (false_is_not is)
  where
    false_is_not : false ≡ true → ⊥
    false_is_not e = cc

-- of two numbers the one is less, or else no less
between : (k i : ℕ) → (k < i → ⊥) → (i ≤ k → ⊥) → ⊥
between k i below above = grind (arith, nat_tests)

-- where one of the list ties, one is found
pub ties-found : {X : Type 0} (ord : X → Ordering) (xs : List X) (r : Result ℕ ℕ) → IsNonDecreasingBy (λ x. ordering_index (ord x)) xs → IsSearchInRange r (length xs) → IsBinarySearchResult ord xs r
    → (x : X) → IsAmong x xs → ord x ≡ Equal → is_ok r ≡ true
ties-found ord xs r rising within equal x among ties = grind (arith, place-of, between, less_is_not, greater_is_not)

-- ---- a row, by its id

-- an id is at most a later one
rises : (rows : List ControllerRow) (i j : ℕ) (d : ControllerRow) → AreRisingRows rows → i ≤ j → j < length rows → (get_or rows i d).id ≤ (get_or rows j d).id
rises [] i j d rising le within = absurd (omega arith)
rises (row ∷ rows) zero zero d rising le within = omega arith
rises (row ∷ rows) zero (suc j) d rising le within =
    let above : row.id < (get_or rows j d).id = each-at (λ (later : ControllerRow). row.id < later.id) rows j (get_or rows j d) (rising.0) (at-index rows j d (omega arith)) in
    omega (arith, above)
rises (row ∷ rows) (suc i) zero d rising le within = absurd (omega arith)
rises (row ∷ rows) (suc i) (suc j) d rising le within = rises rows i j d (rising.1) (omega arith) (omega arith)

-- how rising ids compare with an id never goes down
comparisons_rise : (rows : List ControllerRow) (id : ℕ) → AreRisingRows rows → IsNonDecreasingBy (λ (row : ControllerRow). ordering_index (nat_cmp row.id id)) rows
comparisons_rise rows id rising = λ i j d le within.
    let rise = rises rows i j d rising le within in
    grind (arith, nat_tests, rise)

-- ids that aren't equal fail the test
other-id : (a b : ℕ) → (a ≡ b → ⊥) → (a == b) ≡ false
other-id a b differ = grind (arith, nat_tests, differ)

-- the answer of a binary search is the place
pub searched : (rows : List ControllerRow) (id : ℕ) (r : Result ℕ ℕ) → AreRisingRows rows → IsSearchInRange r (length rows) → IsBinarySearchResult (λ (row : ControllerRow). nat_cmp row.id id) rows r
    → result_ok r ≡ position (λ (row : ControllerRow). row.id == id) rows
searched [] id (Ok at) rising within equal = absurd (omega arith)
searched [] id (Err at) rising within parted = refl
searched (first ∷ rest) id (Ok at) rising within equal =
    let rows : List ControllerRow = first ∷ rest in
    let own : (get_or rows at first).id ≡ id = ranked _ id _ (sym (equal first)) in
    position-first (λ (row : ControllerRow). row.id == id) rows at (get_or rows at first)
    (FirstAt-only (λ (row : ControllerRow). row.id == id) rows at (get_or rows at first) (at-index rows at first within) (eq-eqb (get_or rows at first).id id own) (rising-one rows rising id))
searched (first ∷ rest) id (Err at) rising within parted =
    let rows : List ControllerRow = first ∷ rest in
    let halves = parted (comparisons_rise rows id rising) in
    position-none (λ (row : ControllerRow). row.id == id) rows
    (λ k d inside.
    let below : k < at → (get_or rows k d).id < id = λ lt. ranked _ id _ (sym (halves.0 k d (omega arith) lt)) in
    let above : at ≤ k → id < (get_or rows k d).id = λ le. ranked _ id _ (sym (halves.1 k d le inside)) in
    other-id (get_or rows k d).id id (λ same. grind (arith, below, above, same)))

-- ---- a thing, by its order

-- the search tells whether one with this key is in the list
told : {X : Type 0} (key : X → Thing) (xs : List X) (thing : Thing) (r : Result ℕ ℕ) → IsSortedBy (λ a b. is_lt (thing_order (key a) (key b))) xs → IsSearchInRange r (length xs)
    → IsBinarySearchResult (λ x. thing_order (key x) thing) xs r → is_ok r ≡ list_any (λ x. same_thing thing (key x)) xs
told key xs thing r sorted within found = both_ways (is_ok r) (list_any (λ x. same_thing thing (key x)) xs) to back
  where
    to : is_ok r ≡ true → list_any (λ x. same_thing thing (key x)) xs ≡ true
    to h =
        let one = found-ties (λ x. thing_order (key x) thing) xs r within found h in
        let same : key one.0 ≡ thing = order-same (key one.0) thing one.2 in
        then-any (λ x. same_thing thing (key x)) xs one.0 one.1 (subst (λ t. same_thing thing t ≡ true) (sym same) (same-itself thing))

    back : list_any (λ x. same_thing thing (key x)) xs ≡ true → is_ok r ≡ true
    back h =
        let one = any-then (λ x. same_thing thing (key x)) xs h in
        let same : thing ≡ key one.0 = same-tells thing (key one.0) one.2 in
        ties-found (λ x. thing_order (key x) thing) xs r (searchable_from_sorted order-total key xs thing sorted) within found one.0 one.1
        (subst (λ t. thing_order t thing ≡ Equal) same (tied_itself order-total thing))

-- what is so of each one of a list and each after it is so of what stands at two places
two-at : {X : Type 0} (R : X → X → Type 0) (xs : List X) (i j : ℕ) (d : X) → EachTwo R xs → i < j → j < length xs → R (get_or xs i d) (get_or xs j d)
two-at R [] i j d two before inside = absurd (omega arith)
two-at R (x ∷ xs) i zero d two before inside = absurd (omega arith)
two-at R (x ∷ xs) zero (suc j) d two before inside = each-place (R x) xs j d two.0 (omega arith)
two-at R (x ∷ xs) (suc i) (suc j) d two before inside = two-at R xs i j d two.1 (omega arith) (omega arith)

-- what is noted in order is sorted by the order of things
in-order-sorted : (noted : List (Thing × Known)) → IsInOrder noted → IsSortedBy (λ a b. is_lt (thing_order a.0 b.0)) noted
in-order-sorted noted two k d from inside = grind (arith, rises, two-at, order-total)

-- a thing that comes before another isn't it
before-other : (a b : Thing) → thing_order a b ≡ Less → same_thing a b ≡ false
before-other a b less = false_from_ne_true (same_thing a b) (λ same. less_is_not (sym less ∙ ap (thing_order a) (sym (same-tells a b same)) ∙ tied_itself order-total a))

-- where an entry is of the thing, none after it is
pub later-other : (entry : Thing × Known) (noted : List (Thing × Known)) (thing : Thing) → IsInOrder (entry ∷ noted) → same_thing thing entry.0 ≡ true → (later : Thing × Known) → IsAmong later noted
    → same_thing thing later.0 ≡ false
later-other entry noted thing ordered here later among =
    let less : thing_order entry.0 later.0 ≡ Less = each_of (λ (other : Thing × Known). thing_order entry.0 other.0 ≡ Less) noted later (ordered.0) among in
    before-other thing later.0 (ap (λ (t : Thing). thing_order t later.0) (same-tells thing entry.0 here) ∙ less)

-- something is noted of a thing once
pub noted-once : (noted : List (Thing × Known)) (thing : Thing) → IsInOrder noted → AtMostOne (is_entry_of thing) noted
noted-once [] thing ordered = tt
noted-once (entry ∷ noted) thing ordered =
    (λ here. find-none (is_entry_of thing) noted (λ later among. later-other entry noted thing ordered here later among), noted-once noted thing (ordered.1))

-- a search by halving tells where something is noted of a thing
pub noted-place : (noted : List (Thing × Known)) (thing : Thing) (r : Result ℕ ℕ) → IsInOrder noted → IsSearchInRange r (length noted) → IsBinarySearchResult (λ entry. thing_order entry.0 thing) noted r
    → result_ok r ≡ position (is_entry_of thing) noted
noted-place [] thing (Ok at) ordered within found = absurd (omega arith)
noted-place [] thing (Err at) ordered within found = refl
noted-place (first ∷ rest) thing (Ok at) ordered within found =
    let noted : List (Thing × Known) = first ∷ rest in
    let entry : Thing × Known = get_or noted at first in
    let same : entry.0 ≡ thing = order-same entry.0 thing (found first) in
    position-first (is_entry_of thing) noted at entry
    (FirstAt-only (is_entry_of thing) noted at entry (at-index noted at first within) (subst (λ (t : Thing). same_thing thing t ≡ true) (sym same) (same-itself thing)) (noted-once noted thing ordered))
noted-place (first ∷ rest) thing (Err at) ordered within found =
    let noted : List (Thing × Known) = first ∷ rest in
    let none : list_any (is_entry_of thing) noted ≡ false = sym (told (λ (entry : Thing × Known). entry.0) noted thing (Err at) (in-order-sorted noted ordered) within found) in
    position-none (is_entry_of thing) noted (λ k d inside. none-among (is_entry_of thing) noted (get_or noted k d) none (at-place noted k d inside))
