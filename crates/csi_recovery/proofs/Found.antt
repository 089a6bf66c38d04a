-- What a search among rows finds.
use Rattle.std.proofs.Common.{◌≡◌, ◌<◌, ℕ, List, [], ◌∷◌, Bool, true, false, cond, length, map, get_or, refl, sym, ◌∙◌, ap, subst, inl, inr, Result, IfOk, IfErr}
use Rattle.std.specs.Prelude.{Some, find, position, ◌==◌}
use Rattle.std.specs.List.{AllByRecursion}
use Rattle.std.specs.List.Sorted.{IsSearchInRange, IsBinarySearchResult}
use Rattle.std.specs.Ordering.{nat_cmp}
use Rattle.std.specs.Result.{result_ok}
use Rattle.std.proofs.lemmas.Bool.{false≢true}
use Rattle.std.proofs.lemmas.List.{map-id}
use Rattle.csi_types.specs.Model.Members.{IsAmong, EachTwo}
use Rattle.csi_types.specs.Public.Places.{AtMostOne}
use Rattle.csi_types.proofs.Members.{none_passes}
use Rattle.csi_types.proofs.Places.{FirstAt-position, FirstAt-find}
use Rattle.csi_fence.specs.Public.Rows.{AreRising, IsPlaceOf, IsGapFor}
use Rattle.csi_fence.proofs.RisingRows.{rise-rows}
use Rattle.csi_fence.proofs.FoundPlaces.{found-place}
use Rattle.csi_fence.proofs.PlacedRows.{searched}
use Rattle.csi_node.specs.declared.row.NodeRow.{NodeRow}
use Rattle.csi_node.specs.Model.OneRow.{node_row_shown}
use Rattle.csi_node.specs.Model.Record.{parts}
use Rattle.csi_node.specs.Public.Record.{AreSoundRows}
use Rattle.csi_node.proofs.RecordRules.{IsRowBefore, rows_rise}

-- a binary search by rising keys ends where the key is first, or nowhere
pub search-found : {X : Type 0} (key : X → ℕ) (xs : List X) (n : ℕ) (r : Result ℕ ℕ) → EachTwo (λ (a b : X). key a < key b) xs → IsSearchInRange r (length xs) → IsBinarySearchResult (λ (x : X). nat_cmp (key x) n) xs r
    → result_ok r ≡ position (λ (x : X). key x == n) xs
search-found {X} key xs n r rise within by_key =
    let rising : AreRising key xs = rise-rows key xs rise in
    let same : map (λ (x : X). x) xs ≡ xs = map-id xs in
    let at = searched key (λ (x : X). x) xs n r (subst (AreRising key) (sym same) rising) within by_key in
    found-place key xs n r rising (subst (λ (l : List X). IfOk r (IsPlaceOf key l n)) same at.found) (subst (λ (l : List X). IfErr r (IsGapFor key l n)) same at.absent)

-- what stands at the first place is what is found
pub placed-found : {X : Type 0} (p : X → Bool) (xs : List X) (place : ℕ) (x : X) → position p xs ≡ Some place → x ≡ get_or xs place x → Some x ≡ find p xs
placed-found p xs place x at is = sym (FirstAt-find p xs place x (FirstAt-position p xs place x at is))

-- where at most one passes, it is found
pub only-found : {X : Type 0} (p : X → Bool) (xs : List X) (x : X) → AtMostOne p xs → IsAmong x xs → p x ≡ true → find p xs ≡ Some x
only-found p [] x one among passes = absurd among
only-found p (y ∷ ys) x one (inl here) passes = let first : p y ≡ true = sym (ap p here) ∙ passes in rw first (ap Some (sym here))
only-found p (y ∷ ys) x one (inr later) passes = by (p y) refl (only-found p ys x one.1 later passes)
  where
    by : (b : Bool) → p y ≡ b → find p ys ≡ Some x → cond b (Some y) (find p ys) ≡ Some x
    by true e rest = absurd (false≢true (sym (none_passes p ys x (one.0 e) later) ∙ passes))
    by false e rest = rest

-- what is so of each, or of each two, as they are shown
each-seen : {X Y : Type 0} (P : Y → Type 0) (f : X → Y) (xs : List X) → AllByRecursion P (map f xs) → AllByRecursion (λ x. P (f x)) xs
each-seen P f [] all = tt
each-seen P f (x ∷ xs) all = (all.0, each-seen P f xs all.1)

pub two-seen : {X Y : Type 0} (R : Y → Y → Type 0) (f : X → Y) (xs : List X) → EachTwo R (map f xs) → EachTwo (λ (a b : X). R (f a) (f b)) xs
two-seen R f [] two = tt
two-seen R f (x ∷ xs) two = (each-seen (R (f x)) f xs two.0, two-seen R f xs two.1)

-- a node's rows stand by rising id
pub node-rise : (rows : List NodeRow) → AreSoundRows (parts rows) → EachTwo (λ (a b : NodeRow). a.id < b.id) rows
node-rise rows rules = two-seen IsRowBefore node_row_shown rows (rows_rise (parts rows) rules.rising)
