-- What the parts of a value of JSON stand for.
use Rattle.std.proofs.Common.{◌≡◌, ℕ, zero, suc, ◌<◌, List, [], ◌∷◌, length, map, String, Global, string_bytes, refl, ap, arith}
use Rattle.std.specs.Prelude.{Some, None, slice_get}
use Rattle.csi_types.specs.Public.Mode.{mode_from_number}
use Rattle.serde_json.specs.Data.{Data, null, boolean, number, string, array, object}
use Rattle.serde_json.specs.Events.{members_len}
use Rattle.serde_json.specs.Find.{as_object}
use Rattle.serde_json.specs.View.{view, items_view, members_view}
use Rattle.serde_json.specs.declared.value.Value.{Value}
use Rattle.serde_json.proofs.Views.{members_len-members_view, Entry}
use Rattle.csi_json.specs.Public.Json.{items_in, only_member}

-- the items of an array, as they are seen, are each of them as it is seen
pub items_in_view : (vs : List Value) → items_in (items_view vs) ≡ map view vs
items_in_view [] = refl
items_in_view (v ∷ vs) = ap (λ (ds : List Data). view v ∷ ds) (items_in_view vs)

-- an object, as it is seen, has as many members as it has entries
pub members_in_view : (es : List Entry) → members_len (members_view es) ≡ length es
members_in_view es = members_len-members_view es

-- no number above a byte's is a mode's
pub no_mode : (n : ℕ) → 255 < n → mode_from_number n ≡ None
no_mode zero h = absurd (omega arith)
no_mode (suc zero) h = absurd (omega arith)
no_mode (suc (suc zero)) h = absurd (omega arith)
no_mode (suc (suc (suc zero))) h = absurd (omega arith)
no_mode (suc (suc (suc (suc zero)))) h = absurd (omega arith)
no_mode (suc (suc (suc (suc (suc zero))))) h = absurd (omega arith)
no_mode (suc (suc (suc (suc (suc (suc zero)))))) h = absurd (omega arith)
no_mode (suc (suc (suc (suc (suc (suc (suc zero))))))) h = absurd (omega arith)
no_mode (suc (suc (suc (suc (suc (suc (suc (suc n)))))))) h = refl

-- an object whose entries aren't one has no only member
not_alone : (es : List Entry) → (length es ≡ 1 → ⊥) → None ≡ only_member (object (members_view es))
not_alone [] h = refl
not_alone (e ∷ []) h = absurd (h refl)
not_alone (e ∷ f ∷ es) h = refl

-- an object that hasn't one member
pub no_only_member : (d : Data) (es : List Entry) → Some (members_view es) ≡ as_object d → (length es ≡ 1 → ⊥) → None ≡ only_member d
no_only_member null es e h = cc
no_only_member (boolean b) es e h = cc
no_only_member (number n) es e h = cc
no_only_member (string s) es e h = cc
no_only_member (array ds) es e h = cc
no_only_member (object ms) es e h = let same : members_view es ≡ ms = cc in rw (← same) (not_alone es h)

-- an object of one entry has that one for its only member
single : (es : List Entry) (k : String Global) (v : Value) → length es ≡ 1 → slice_get es 0 ≡ Some (k, v) → Some (string_bytes k, view v) ≡ only_member (object (members_view es))
single [] k v h e = absurd (omega arith)
single (f ∷ []) k v h e = let same : f ≡ (k, v) = cc in rw same refl
single (f ∷ g ∷ es) k v h e = absurd (omega arith)

-- an object that has one member
pub has_only_member : (d : Data) (es : List Entry) (k : String Global) (v : Value) → Some (members_view es) ≡ as_object d → length es ≡ 1 → slice_get es 0 ≡ Some (k, v)
    → Some (string_bytes k, view v) ≡ only_member d
has_only_member null es k v e h first = cc
has_only_member (boolean b) es k v e h first = cc
has_only_member (number n) es k v e h first = cc
has_only_member (string s) es k v e h first = cc
has_only_member (array ds) es k v e h first = cc
has_only_member (object ms) es k v e h first = let same : members_view es ≡ ms = cc in rw (← same) (single es k v h first)
