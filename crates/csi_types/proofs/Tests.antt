-- Tests whether some of a list pass, or all, by what is among it.
use Rattle.std.proofs.Common.{◌≡◌, ◌⊎◌, ℕ, List, [], ◌∷◌, map, Bool, true, false, cond, not, refl, sym, ◌∙◌, ap, inl, inr}
use Rattle.std.specs.Prelude.{Some, None, find, filter, is_some, ◌==◌, ◌||◌}
use Rattle.std.specs.List.{list_any, list_all}
use Rattle.std.proofs.lemmas.Bool.{and_parts, and_from, or_cases, or_left, or_right, or_parts, false≢true, false_from_ne_true}
use Rattle.csi_types.specs.Model.Members.{IsAmong}
use Rattle.csi_types.proofs.Members.{among-by_key}

-- two tests are one where each passes with the other
pub alike : (a b : Bool) → (a ≡ true → b ≡ true) → (b ≡ true → a ≡ true) → a ≡ b
alike true b there back = sym (there refl)
alike false true there back = back refl
alike false false there back = refl

-- where a test can't be passed, its contrary is
pub not-where : (b : Bool) → (b ≡ true → ⊥) → not b ≡ true
not-where b f = ap not (false_from_ne_true b f)

-- ---- all

-- where all pass, each one among the list does; and back
pub all-then : {X : Type 0} (p : X → Bool) (xs : List X) → list_all p xs ≡ true → (x : X) → IsAmong x xs → p x ≡ true
all-then p [] h x among = absurd among
all-then p (y ∷ ys) h x (inl e) = ap p e ∙ (and_parts (p y) (list_all p ys) h).0
all-then p (y ∷ ys) h x (inr among) = all-then p ys ((and_parts (p y) (list_all p ys) h).1) x among

-- where each one among the list passes, all pass
pub then-all : {X : Type 0} (p : X → Bool) (xs : List X) → ((x : X) → IsAmong x xs → p x ≡ true) → list_all p xs ≡ true
then-all p [] f = refl
then-all p (y ∷ ys) f = and_from (p y) (list_all p ys) (f y (inl refl)) (then-all p ys (λ x among. f x (inr among)))

-- ---- some

-- one that passes
pub any-then : {X : Type 0} (p : X → Bool) (xs : List X) → list_any p xs ≡ true → (x : X) × IsAmong x xs × (p x ≡ true)
any-then p [] h = absurd (false≢true h)
any-then p (y ∷ ys) h = by (λ e. any-then p ys e) (or_cases (p y) (list_any p ys) h)
  where
    by : (list_any p ys ≡ true → (x : _) × IsAmong x ys × (p x ≡ true)) → (p y ≡ true) ⊎ (list_any p ys ≡ true) → (x : _) × IsAmong x (y ∷ ys) × (p x ≡ true)
    by later (inl e) = (y, inl refl, e)
    by later (inr e) = let found = later e in (found.0, inr found.1, found.2)

-- where one among the list passes, some do
pub then-any : {X : Type 0} (p : X → Bool) (xs : List X) (x : X) → IsAmong x xs → p x ≡ true → list_any p xs ≡ true
then-any p [] x among h = absurd among
then-any p (y ∷ ys) x (inl e) h = or_left (p y) (list_any p ys) (ap p (sym e) ∙ h)
then-any p (y ∷ ys) x (inr among) h = or_right (p y) (list_any p ys) (then-any p ys x among h)

-- where none among the list passes, the test for some doesn't hold
pub any-none : {X : Type 0} (p : X → Bool) (xs : List X) → ((x : X) → IsAmong x xs → p x ≡ false) → list_any p xs ≡ false
any-none p [] none = refl
any-none p (y ∷ ys) none = rw (none y (inl refl)) (any-none p ys (λ x among. none x (inr among)))

-- where none passes, this one doesn't
pub none-among : {X : Type 0} (p : X → Bool) (xs : List X) (x : X) → list_any p xs ≡ false → IsAmong x xs → p x ≡ false
none-among p [] x e among = absurd among
none-among p (y ∷ ys) x e (inl is) = ap p is ∙ (or_parts (p y) (list_any p ys) e).0
none-among p (y ∷ ys) x e (inr there) = none-among p ys x (or_parts (p y) (list_any p ys) e).1 there

-- one passes where one is found
pub any-find : {X : Type 0} (p : X → Bool) (xs : List X) → list_any p xs ≡ is_some (find p xs)
any-find p [] = refl
any-find p (x ∷ xs) = by (p x) (any-find p xs)
  where
    by : (b : Bool) → list_any p xs ≡ is_some (find p xs) → (b || list_any p xs) ≡ is_some (cond b (Some x) (find p xs))
    by true h = refl
    by false h = h

-- where a search finds none, none passes
pub any-find_none : {X : Type 0} (p : X → Bool) (xs : List X) → find p xs ≡ None → list_any p xs ≡ false
any-find_none p xs none = any-find p xs ∙ ap is_some none

-- of a list that is seen through a function
pub any-of_map : {X Y : Type 0} (p : Y → Bool) (f : X → Y) (xs : List X) → list_any p (map f xs) ≡ list_any (λ x. p (f x)) xs
any-of_map p f [] = refl
any-of_map p f (x ∷ xs) = ap (λ b. p (f x) || b) (any-of_map p f xs)

-- of two lists that have the same of each key
pub any-by_key : {X : Type 0} (key : X → ℕ) (p : X → Bool) (xs ys : List X) → ((id : ℕ) → filter (λ x. key x == id) xs ≡ filter (λ x. key x == id) ys) → list_any p xs ≡ list_any p ys
any-by_key key p xs ys same = alike (list_any p xs) (list_any p ys) (into xs ys same) (into ys xs (λ id. sym (same id)))
  where
    into : (ls ms : List _) → ((id : ℕ) → filter (λ x. key x == id) ls ≡ filter (λ x. key x == id) ms) → list_any p ls ≡ true → list_any p ms ≡ true
    into ls ms alike h = let found = any-then p ls h in then-any p ms found.0 (among-by_key key ls ms alike found.0 found.1) found.2
