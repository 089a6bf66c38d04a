-- Two lists that have the same of each key, where the first has each key at most once: as many of each pass tests that agree.
use Rattle.std.proofs.Common.{◌≡◌, ◌<◌, ◌+◌, ℕ, List, [], ◌∷◌, Bool, true, false, cond, not, length, refl, sym, ◌∙◌, ap, subst, inl, inr, arith}
use Rattle.std.specs.Prelude.{Option, Some, None, option_map, option_to_list, find, filter, count_by, ◌==◌}
use Rattle.std.proofs.lemmas.Bool.{eq-eqb, eqb-true, ne_eqb, true≢false}
use Rattle.std.proofs.lemmas.List.Sums.{length-filter}
use Rattle.csi_types.specs.Model.Members.{EachTwo, IsAmong}
use Rattle.csi_types.specs.Public.Places.{AtMostOne}
use Rattle.csi_types.proofs.Counts.{count-cons, count-split}
use Rattle.csi_types.proofs.Filters.{filter-filter, filter-none, filter-swap}
use Rattle.csi_types.proofs.Members.{among-empty, among-find, each_of, in_filter}
use Rattle.csi_types.proofs.Searches.{find-missed, find-none, find-none_in_filter, first_of_list}
use Rattle.csi_types.proofs.Tests.{not-where}

-- ---- what a search finds, and what a filter keeps

module _ {X : Type 0} (p : X → Bool) where
  -- what a search finds is the first that a filter keeps
  pub find-head : (xs : List X) → find p xs ≡ first_of_list (filter p xs)
  find-head [] = refl
  find-head (x ∷ xs) = by (p x) (find-head xs)
    where
      by : (b : Bool) → find p xs ≡ first_of_list (filter p xs) → cond b (Some x) (find p xs) ≡ first_of_list (cond b (x ∷ filter p xs) (filter p xs))
      by true h = refl
      by false h = h

  -- where a search finds nothing a filter keeps nothing
  pub filter-missed : (xs : List X) → find p xs ≡ None → filter p xs ≡ []
  filter-missed [] h = refl
  filter-missed (x ∷ xs) h =
      let parts = find-missed (p x) x (find p xs) h in
      ap (λ b. cond b (x ∷ filter p xs) (filter p xs)) parts.0 ∙ filter-missed xs parts.1

  -- where at most one passes, a filter keeps what a search finds
  pub filter-found : (xs : List X) → AtMostOne p xs → filter p xs ≡ option_to_list (find p xs)
  filter-found [] one = refl
  filter-found (x ∷ xs) one = by (p x) refl (filter-found xs one.1)
    where
      by : (b : Bool) → p x ≡ b → filter p xs ≡ option_to_list (find p xs) → cond b (x ∷ filter p xs) (filter p xs) ≡ option_to_list (cond b (Some x) (find p xs))
      by true e h = ap (λ (rest : List X). x ∷ rest) (filter-missed xs (one.0 e))
      by false e h = h

  -- what is there and passes
  abbrev pub passing : Option X → Option X
  passing None = None
  passing (Some x) = cond (p x) (Some x) None

-- where at most one passes a test, a search of those that pass another finds it if it passes both
pub find-passing : {X : Type 0} (p q : X → Bool) (xs : List X) → AtMostOne p xs → find p (filter q xs) ≡ passing q (find p xs)
find-passing p q [] one = refl
find-passing p q (x ∷ xs) one = by (p x) refl (q x) refl (find-passing p q xs one.1)
  where
    by : (b : Bool) → p x ≡ b → (c : Bool) → q x ≡ c → find p (filter q xs) ≡ passing q (find p xs) → find p (cond c (x ∷ filter q xs) (filter q xs)) ≡ passing q (cond b (Some x) (find p xs))
    by true e true f h = rw (e, f) refl
    by true e false f h = find-none_in_filter p q xs (one.0 e) ∙ ap (λ c. cond c (Some x) None) (sym f)
    by false e true f h = rw e h
    by false e false f h = h

-- of a list of one or none the first is that one
first-option : {X : Type 0} (o : Option X) → first_of_list (option_to_list o) ≡ o
first-option None = refl
first-option (Some x) = refl

-- a list that has nothing of any key is empty
none-of_all : {Y : Type 0} (key : Y → ℕ) (ys : List Y) → ((k : ℕ) → filter (λ y. key y == k) ys ≡ []) → ys ≡ []
none-of_all key [] none = refl
none-of_all key (y ∷ ys) none =
    absurd (among-empty y (filter (λ z. key z == key y) (y ∷ ys)) (none (key y)) (in_filter (λ z. key z == key y) (y ∷ ys) y (inl refl) (eq-eqb (key y) (key y) refl)))

-- what counts as one
abbrev weight : Bool → ℕ
weight b = cond b 1 0

-- ---- of each key

module _ {X Y : Type 0} (f : X → Y) (of : X → ℕ) (key : Y → ℕ) where
  -- what is found, seen through a function, as a list
  abbrev pub shown_list : Option X → List Y
  shown_list o = option_to_list (option_map f o)

  -- of each key the second list has what a search of the first finds
  abbrev pub HasOfEach : List X → List Y → Type 0
  HasOfEach xs ys = (k : ℕ) → option_to_list (option_map f (find (λ x. of x == k) xs)) ≡ filter (λ y. key y == k) ys

  -- each key is at most once in the first list
  abbrev pub HasKeysOnce : List X → Type 0
  HasKeysOnce xs = (k : ℕ) → AtMostOne (λ x. of x == k) xs

  -- a search of the second list finds what one of the first does
  pub find-by_key : (xs : List X) (ys : List Y) → HasOfEach xs ys → (k : ℕ) → find (λ y. key y == k) ys ≡ option_map f (find (λ x. of x == k) xs)
  find-by_key xs ys has k = find-head (λ y. key y == k) ys ∙ sym (ap first_of_list (has k)) ∙ first-option (option_map f (find (λ x. of x == k) xs))

  -- without the key of the first one, the second list has of each key what the rest of the first has
  others-by_key : (x : X) (xs : List X) (ys : List Y) → HasKeysOnce (x ∷ xs) → HasOfEach (x ∷ xs) ys → HasOfEach xs (filter (λ y. not (key y == of x)) ys)
  others-by_key x xs ys once has k = by (of x == k) refl
    where
      by : (b : Bool) → (of x == k) ≡ b → shown_list (find (λ z. of z == k) xs) ≡ filter (λ y. key y == k) (filter (λ y. not (key y == of x)) ys)
      by true same =
          subst (λ j. shown_list (find (λ z. of z == j) xs) ≡ filter (λ y. key y == j) (filter (λ y. not (key y == of x)) ys)) (eqb-true (of x) k same)
          (ap shown_list ((once (of x)).0 (eq-eqb (of x) (of x) refl)) ∙ sym (filter-none (λ y. key y == of x) ys))
      by false differ =
          sym (ap (λ b. shown_list (cond b (Some x) (find (λ z. of z == k) xs))) differ)
          ∙ has k
          ∙ sym (filter-filter (λ y. key y == k) (λ y. not (key y == of x)) ys (λ y own. not-where (key y == of x) (λ also.
          true≢false (sym (eq-eqb (of x) k (sym (eqb-true (key y) (of x) also) ∙ eqb-true (key y) k own)) ∙ differ))))

  module _ (p : X → Bool) (q : Y → Bool) where
    -- as many of each list pass tests that agree
    pub count-by_key : (xs : List X) (ys : List Y) → HasKeysOnce xs → HasOfEach xs ys → ((x : X) → IsAmong x xs → q (f x) ≡ p x) → count_by p xs ≡ count_by q ys
    count-by_key [] ys once has same = ap (count_by q) (sym (none-of_all key ys (λ k. sym (has k))))
    count-by_key (x ∷ xs) ys once has same =
        let own : filter (λ y. key y == of x) ys ≡ f x ∷ [] = sym (has (of x)) ∙ ap (λ b. shown_list (cond b (Some x) (find (λ z. of z == of x) xs))) (eq-eqb (of x) (of x) refl) in
        let first : count_by q (filter (λ y. key y == of x) ys) ≡ cond (q (f x)) 1 0 + count_by q [] = ap (count_by q) own ∙ count-cons q (f x) [] in
        let none : count_by q [] ≡ 0 = refl in
        let agree = ap weight (same x (inl refl)) in
        let rest = count-by_key xs (filter (λ y. not (key y == of x)) ys) (λ k. (once k).1) (others-by_key x xs ys once has) (λ z among. same z (inr among)) in
        omega (arith, count-cons p x xs, count-split q (λ y. key y == of x) ys, first, none, agree, rest)

    -- and so the filtered lists are equally long
    pub length-by_key : (xs : List X) (ys : List Y) → HasKeysOnce xs → HasOfEach xs ys → ((x : X) → IsAmong x xs → q (f x) ≡ p x) → length (filter p xs) ≡ length (filter q ys)
    length-by_key xs ys once has same = length-filter p xs ∙ count-by_key xs ys once has same ∙ sym (length-filter q ys)

    -- one that is found is kept in both lists, or in neither
    kept_alike : (o : Option X) → ((x : X) → o ≡ Some x → q (f x) ≡ p x) → shown_list (passing p o) ≡ filter q (shown_list o)
    kept_alike None same = refl
    kept_alike (Some x) same = by (p x) (q (f x)) (same x refl)
      where
        by : (b c : Bool) → c ≡ b → shown_list (cond b (Some x) None) ≡ cond c (f x ∷ []) []
        by true c e = ap (λ d. cond d (f x ∷ []) []) (sym e)
        by false c e = ap (λ d. cond d (f x ∷ []) []) (sym e)

    -- of those that pass, the second list has of each key what a search of the first finds
    pub passing-by_key : (xs : List X) (ys : List Y) → HasKeysOnce xs → HasOfEach xs ys → ((x : X) → IsAmong x xs → q (f x) ≡ p x) → HasOfEach (filter p xs) (filter q ys)
    passing-by_key xs ys once has same k =
        ap shown_list (find-passing (λ x. of x == k) p xs (once k))
        ∙ kept_alike (find (λ x. of x == k) xs) (λ x is. same x (among-find (λ x. of x == k) xs x is))
        ∙ ap (filter q) (has k)
        ∙ filter-swap q (λ y. key y == k) ys

-- keys that rise are there once each
pub once-rising : {X : Type 0} (of : X → ℕ) (xs : List X) → EachTwo (λ a b. of a < of b) xs → (k : ℕ) → AtMostOne (λ x. of x == k) xs
once-rising of [] rising k = tt
once-rising of (x ∷ xs) rising k = (
  λ own. find-none (λ y. of y == k) xs (λ y among. ne_eqb (of y) k (λ same.
      let lower = each_of (λ z. of x < of z) xs y rising.0 among in let here = eqb-true (of x) k own in omega (arith, lower, here, same))),
  once-rising of xs rising.1 k,
)
