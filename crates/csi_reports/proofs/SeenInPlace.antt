-- Things in place, as they are seen.
use Rattle.std.proofs.Common.{◌≡◌, ℕ, ◌+◌, ◌<◌, List, [], ◌∷◌, length, map, Bool, refl, sym, ap, ap₂, ◌∙◌, arith}
use Rattle.std.proofs.lemmas.List.{get_or-map, length-map}
use Rattle.std.specs.Ordering.{is_lt}
use Rattle.std.specs.List.Sorted.{IsSortedBy}
use Rattle.std.proofs.lemmas.List.Sorted.{IsPermutation-map}
use Rattle.json.specs.Token.{key}
use Rattle.json.specs.Tree.{json_tokens}
use Rattle.serde_json.specs.Data.{Data, array}
use Rattle.serde_json.specs.View.{items_of}
use Rattle.csi_types.proofs.Maps.{map-twice}
use Rattle.serde_json.specs.Written.{outline}
use Rattle.csi_reports.specs.Public.Entries.{entries}
use Rattle.csi_reports.specs.Public.Order.{place_order, IsInPlace}
use Rattle.csi_reports.proofs.WrittenSteps.{of_entries}

-- each entry is that of what is seen
entries-seen : {A B : Type 0} (entry : B → Data) (see : A → B) (xs : List A) → entries (λ x. entry (see x)) xs ≡ entries entry (map see xs)
entries-seen entry see xs = ap (λ ds. array (items_of ds)) (sym (map-twice entry see (λ x. entry (see x)) xs (λ x. refl)))

-- an order of what is seen is kept
sorted-seen : {A B : Type 0} (see : A → B) (lt : B → B → Bool) (xs : List A) → IsSortedBy (λ a b. lt (see a) (see b)) xs → IsSortedBy lt (map see xs)
sorted-seen see lt [] sorted k d low high = absurd (omega arith)
sorted-seen see lt (x ∷ xs) sorted k d low high =
    let len = length-map (x ∷ xs) see in
    let inside : k + 1 < length (x ∷ xs) = omega (arith, len) in
    let here = get_or-map see (x ∷ xs) k x d (omega arith) in
    let next = get_or-map see (x ∷ xs) (k + 1) x d inside in
    ap₂ lt next here ∙ sorted k x low inside

-- what is in place is so as it is seen
pub seen-in-place : {A B : Type 0} (see : A → B) (place : B → List (List ℕ)) (xs ys : List A) → IsInPlace (λ a. place (see a)) xs ys → IsInPlace place (map see xs) (map see ys)
seen-in-place see place xs ys h =
    record { moved = IsPermutation-map see xs ys h.moved; rising = sorted-seen see (λ a b. is_lt (place_order (place a) (place b))) ys h.rising }

-- the tokens of a member that is an array of these
pub of-seen : {A B : Type 0} (k : List ℕ) (entry : B → Data) (see : A → B) (xs : List A) → of_entries k (λ x. entry (see x)) xs ≡ of_entries k entry (map see xs)
of-seen k entry see xs = ap (λ d. key k ∷ json_tokens (outline d)) (entries-seen entry see xs)
