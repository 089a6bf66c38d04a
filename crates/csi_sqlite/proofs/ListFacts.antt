-- What the kit's lemmas on lists lack.
use Rattle.std.proofs.Common.{◌≡◌, Bool, true, false, not, ◌&&◌, ◌||◌, cond, List, [], ◌∷◌, map, filter, refl, sym, ap, ap₂, subst, ◌∙◌, inl, inr, arith, true≢false, IsPermutation}
use Rattle.std.specs.List.{list_any}
use Rattle.std.proofs.lemmas.Bool.{false_from_ne_true}
use Rattle.std.proofs.lemmas.List.Elements.{recursion_from_All, All-from_recursion}
use Rattle.std.proofs.lemmas.List.Sorted.{length_permutation, All-permutation}
use Rattle.sqlite_trees.specs.Tree.{IsAscending}
use Rattle.sqlite_rules.specs.Lists.{Has}
use Rattle.sqlite_rules.proofs.ListLemmas.{all_has, all_from}
use Rattle.sqlite_keyed.proofs.ListLemmas.{filter_none}

-- tests that agree at each element keep the same
pub filter_on : {X : Type 0} (p q : X → Bool) (xs : List X) → ((x : X) → Has xs x → p x ≡ q x) → filter p xs ≡ filter q xs
filter_on p q [] same = refl
filter_on {X} p q (x ∷ xs) same =
    ap₂ (λ (b : Bool) (l : List X). cond b (x ∷ l) l) (same x (inl refl)) (filter_on p q xs (λ y h. same y (inr h)))

-- what passes one test and then another are those that pass both
pub filter_again : {X : Type 0} (p q : X → Bool) (xs : List X) → filter p (filter q xs) ≡ filter (λ x. q x && p x) xs
filter_again p q [] = refl
filter_again {X} p q (x ∷ xs) =
    elim (q x) as (λ b. filter p (cond b (x ∷ filter q xs) (filter q xs)) ≡ cond (b && p x) (x ∷ filter (λ y. q y && p y) xs) (filter (λ y. q y && p y) xs)) [
      | true ↦ ap (λ (l : List X). cond (p x) (x ∷ l) l) (filter_again p q xs)
      | false ↦ filter_again p q xs
    ]

-- whether one of the values that a function makes passes a test is asked of what they are made of
pub any-map : {X Y : Type 0} (p : Y → Bool) (f : X → Y) (xs : List X) → list_any p (map f xs) ≡ list_any (λ x. p (f x)) xs
any-map p f [] = refl
any-map p f (x ∷ xs) = ap (λ b. p (f x) || b) (any-map p f xs)

-- not the one, and not the other, is neither of the two
pub not_or : (a b : Bool) → (not a && not b) ≡ not (a || b)
not_or true b = refl
not_or false b = refl

-- one element has one order
pub permuted_one : {X : Type 0} (x : X) (ys : List X) → IsPermutation (x ∷ []) ys → ys ≡ x ∷ []
permuted_one x [] same = absurd (omega (arith, length_permutation _ _ same))
permuted_one x (y ∷ []) same = ap (λ z. z ∷ []) (recursion_from_All (λ z. z ≡ x) (y ∷ []) (All-permutation (λ z. z ≡ x) (x ∷ []) (y ∷ []) same (All-from_recursion (λ z. z ≡ x) (x ∷ []) (refl, tt)))).0
permuted_one x (y ∷ z ∷ ys) same = absurd (omega (arith, length_permutation _ _ same))

-- a test that one element passes, in a list where none stands twice
pub filter_one : {X : Type 0} (R : X → X → Type 0) (p : X → Bool) (xs : List X) (x : X) → ((y : X) → ¬ R y y) → IsAscending R xs → Has xs x → p x ≡ true
    → ((y : X) → Has xs y → p y ≡ true → y ≡ x) → filter p xs ≡ x ∷ []
filter_one R p [] x apart up h passes only = absurd h
filter_one {X} R p (y ∷ xs) x apart up h passes only = go (p y) refl (filter_one R p xs x apart up.1)
  where
    go : (b : Bool) → p y ≡ b → (Has xs x → p x ≡ true → ((z : X) → Has xs z → p z ≡ true → z ≡ x) → filter p xs ≡ x ∷ []) → cond b (y ∷ filter p xs) (filter p xs) ≡ x ∷ []
    go true is more =
        let same = only y (inl refl) is in
        let none = filter_none p xs (all_from _ xs (λ z k. false_from_ne_true (p z) (λ t. apart y (subst (R y) (only z (inr k) t ∙ sym same) (all_has (R y) xs z up.0 k))))) in
        ap₂ ◌∷◌ same none
    go false is more = elim h [
      | inl same ↦ absurd (true≢false (sym passes ∙ ap p same ∙ is))
      | inr there ↦ more there passes (λ z k. only z (inr k))
    ]
