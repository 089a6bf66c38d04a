-- Values of JSON that borrow their texts, beside the values that are made of them.
use Rattle.std.proofs.Common.{◌≡◌, ℕ, ◌<◌, ◌≤◌, ◌^◌, ◌+◌, List, [], ◌∷◌, ◌++◌, length, drop, get_or, Global, Bor, refl, sym, ap, ◌∙◌, lt-ltb, ne_eqb}
use Rattle.std.specs.Prelude.{Option, Some, None, option_map, SomeIff, IfSome}
use Rattle.std.proofs.lemmas.List.{drop_more, drop_all}
use Rattle.fast_float.specs.Text.{scan, digits_of, IsInteger}
use Rattle.json.specs.Value.{value_view, items_view as items_seen, members_view as members_seen}
use Rattle.json.specs.declared.value.Value.{Value as Borrowed}
use Rattle.serde_json.specs.Data.{unsigned, Items, no_items, item, Members, no_members}
use Rattle.serde_json.specs.Read.{number_of, of_json, of_items, of_members}
use Rattle.serde_json.specs.View.{view, items_view}
use Rattle.serde_json.specs.declared.value.Value.{Value}

-- ---- numbers

-- digits alone, of less than 2^64, are the number that they are read as
pub plain : (s : List ℕ) (found : Option ℕ) → (get_or s 0 0 ≡ 45 → ⊥) → SomeIff found (IsInteger (scan s) × (digits_of (scan s) < 2 ^ 64)) (digits_of (scan s))
    → IfSome found (λ n. number_of s ≡ Some (unsigned n))
unfolding number_of
plain s None first h = tt
plain s (Some n) first h =
    let digits = h.0.0 in
    rw (ne_eqb (get_or s 0 0) 45 first, lt-ltb _ _ digits.0, digits.1, digits.2, lt-ltb _ _ h.0.1) (ap (λ m. Some (unsigned m)) (sym h.1))

-- ---- items

-- these values, and then what is behind them
abbrev before : List Value → Items → Items
before [] rest = rest
before (v ∷ vs) rest = item (view v) (before vs rest)

-- a value in front of the rest, behind these values, is one more of these values
before-push : (vs : List Value) (v : Value) (rest : Items) → before vs (item (view v) rest) ≡ before (vs ++ v ∷ []) rest
before-push [] v rest = refl
before-push (w ∷ vs) v rest = ap (item (view w)) (before-push vs v rest)

-- these values, with nothing behind them, are the items that they are seen as
before-all : (vs : List Value) → before vs no_items ≡ items_view vs
before-all [] = refl
before-all (v ∷ vs) = ap (item (view v)) (before-all vs)

-- all items are read as these values and what the rest is read as
abbrev pub ReadSoFar : List (Borrowed Global) → List (Borrowed Global) → List Value → Type 0
ReadSoFar all rest vs = of_items (items_seen all) ≡ option_map (before vs) (of_items (items_seen rest))

-- no values in front change nothing, whether the rest was read or not
nothing_before : (read : Option Items) → read ≡ option_map (before []) read
nothing_before None = refl
nothing_before (Some rest) = refl

-- at first none is read, and all are left
pub none_so_far : (xs : List (Borrowed Global)) → ReadSoFar xs xs []
none_so_far xs = nothing_before (of_items (items_seen xs))

-- the same as above, whether the rest was read or not: a value in front of it is one more of these values
one_more : (vs : List Value) (v : Value) (rest : Option Items) → option_map (before vs) (option_map (item (view v)) rest) ≡ option_map (before (vs ++ v ∷ [])) rest
one_more vs v None = refl
one_more vs v (Some rest) = ap Some (before-push vs v rest)

-- the item at a place is read too
pub item_read : (xs : List (Borrowed Global)) (i : ℕ) (x : Borrowed Global) (vs : List Value) (v : Value) → i < length xs → x ≡ get_or xs i x → of_json (value_view x) ≡ Some (view v)
    → ReadSoFar xs (drop i xs) vs → ReadSoFar xs (drop (i + 1) xs) (vs ++ v ∷ [])
item_read xs i x vs v h e is was =
    let rest = drop (i + 1) xs in
    let here : drop i xs ≡ x ∷ rest = drop_more xs i x h ∙ ap (λ y. y ∷ rest) (sym e) in
    let first : of_items (items_seen (x ∷ rest)) ≡ option_map (item (view v)) (of_items (items_seen rest)) = rw is refl in
    was ∙ ap (λ ys. option_map (before vs) (of_items (items_seen ys))) here ∙ ap (option_map (before vs)) first ∙ one_more vs v (of_items (items_seen rest))

-- no item is left
pub all_read : (xs : List (Borrowed Global)) (i : ℕ) (vs : List Value) → length xs ≤ i → ReadSoFar xs (drop i xs) vs → of_items (items_seen xs) ≡ Some (items_view vs)
all_read xs i vs h was = was ∙ ap (λ ys. option_map (before vs) (of_items (items_seen ys))) (drop_all i xs h) ∙ ap Some (before-all vs)

-- ---- members

-- a member of an object: its name and its value
abbrev pub Member : Type 0
Member = Bor (List ℕ) × Borrowed Global

-- all members are read as the rest is, put into what was read so far
abbrev pub PutSoFar : List Member → List Member → Members → Type 0
PutSoFar all rest found = of_members (members_seen all) no_members ≡ of_members (members_seen rest) found
