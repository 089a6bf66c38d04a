-- A sorted list without ties rises, and a permutation brings no tie.
use Rattle.std.proofs.Common.{◌≡◌, suc, false, List, [], ◌∷◌, refl, sym, ap, ◌∙◌, inl, inr, arith, true≢false, Ordering, Less, Equal, Greater, is_lt, is_eq, IsPermutation, IsSorted, add-one}
use Rattle.std.specs.Ordering.{ordering_reverse}
use Rattle.std.specs.Cmp.{IsTotalOrder}
use Rattle.sqlite_trees.specs.Tree.{IsAscending}
use Rattle.sqlite_rules.specs.Lists.{Has}
use Rattle.sqlite_rules.proofs.ListLemmas.{all_has, all_from}
use Rattle.sqlite_keyed.proofs.ListLemmas.{all_weaker, along_permutation}

module _ {X : Type 0} (R : X → X → Type 0) (back : (x y : X) → R x y → R y x) where
  -- what is in the second list is in the first, and it is pairwise so where the first is
  abbrev Keeps : List X → List X → Type 0
  Keeps xs ys = ((y : X) → Has ys y → Has xs y) × (IsAscending R xs → IsAscending R ys)

  -- so it is of a permutation
  kept : (xs ys : List X) → IsPermutation xs ys → Keeps xs ys
  kept = along_permutation Keeps
      (λ xs. (λ y h. h, λ up. up))
      (λ x xs ys more. (λ y h. elim h [ inl e ↦ inl e | inr k ↦ inr (more.0 y k) ], λ up. (all_from (R x) ys (λ y h. all_has (R x) xs y up.0 (more.0 y h)), more.1 up.1)))
      (λ x y xs. (λ z h. elim h [ inl e ↦ inr (inl e) | inr k ↦ elim k [ inl e ↦ inl e | inr l ↦ inr (inr l) ] ], λ up. ((back x y up.0.0, up.1.0), (up.0.1, up.1.1))))
      (λ xs ys zs f g. (λ z h. f.0 z (g.0 z h), λ up. g.1 (f.1 up)))

  -- what holds of any two in either order holds of any two in another order
  pub pairwise-permutation : (xs ys : List X) → IsPermutation xs ys → IsAscending R xs → IsAscending R ys
  pairwise-permutation xs ys same = (kept xs ys same).1

module _ {X : Type 0} (cmp : X → X → Ordering) (total : IsTotalOrder cmp) where
  -- what is neither greater nor tied is less
  less_from : (x y : X) → is_lt (cmp y x) ≡ false → is_eq (cmp x y) ≡ false → cmp x y ≡ Less
  less_from x y up apart = go (cmp x y) (ap is_lt (sym (total.antisymm y x)) ∙ up) apart
    where
      go : (o : Ordering) → is_lt (ordering_reverse o) ≡ false → is_eq o ≡ false → o ≡ Less
      go Less p q = refl
      go Equal p q = absurd (true≢false q)
      go Greater p q = absurd (true≢false p)

  -- what isn't tied isn't tied the other way round
  pub untied_back : (x y : X) → is_eq (cmp x y) ≡ false → is_eq (cmp y x) ≡ false
  untied_back x y apart = ap is_eq (total.antisymm y x) ∙ go (cmp x y) apart
    where
      go : (o : Ordering) → is_eq o ≡ false → is_eq (ordering_reverse o) ≡ false
      go Less p = refl
      go Equal p = p
      go Greater p = refl

  -- a sorted list without ties rises
  pub rising_from : (xs : List X) → IsSorted cmp xs → IsAscending (λ a b. is_eq (cmp a b) ≡ false) xs → IsAscending (λ a b. cmp a b ≡ Less) xs
  rising_from [] sorted apart = tt
  rising_from (x ∷ []) sorted apart = (tt, tt)
  rising_from (x ∷ y ∷ xs) sorted apart =
      let tail : IsSorted cmp (y ∷ xs) = λ k d p q. rw add-one (rw add-one at (sorted (suc k) d (omega arith) (omega arith))) in
      let up = rising_from (y ∷ xs) tail apart.1 in
      let first = less_from x y (sorted 0 x (omega arith) (omega arith)) apart.0.0 in
      ((first, all_weaker _ (λ z. cmp x z ≡ Less) (λ z. total.trans x y z first) xs up.0), up)
