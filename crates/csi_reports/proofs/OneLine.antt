-- An orchestrator's record has one line, since its rows have different names; and a session has one first line.
use Rattle.std.proofs.Common.{◌≡◌, ℕ, ◌≤◌, List, [], ◌∷◌, Bool, false, get_or, codes, refl, sym, ap, ◌∙◌, arith, true≢false}
use Rattle.std.specs.Cmp.Lexicographic.{bytes_decides}
use Rattle.std.specs.List.{IsDistinct}
use Rattle.std.specs.Ordering.{ordering_reverse, is_lt, is_eq}
use Rattle.std.specs.declared.cmp.Ordering.{Ordering}
use Rattle.std.specs.declared.cmp.Ordering.TheVariants.{Less, Equal, Greater}
use Rattle.std.proofs.lemmas.Cmp.{tied_itself}
use Rattle.std.proofs.lemmas.List.Sorted.{ranks_by, sorted_far}
use Rattle.std.proofs.lemmas.Map.Keys.{IsDistinct-IsPermutation, apart_from_distinct}
use Rattle.serde_json.specs.Data.{Data, string, array, number, unsigned, object, member, no_members}
use Rattle.serde_json.specs.View.{items_of}
use Rattle.serde_json.specs.Written.{compact_text}
use Rattle.csi_types.specs.Model.Members.{EachTwo}
use Rattle.csi_types.proofs.Members.{among-moved, among-back}
use Rattle.csi_types.proofs.Pairs.{two-by_places, two-more}
use Rattle.csi_types.specs.Model.Same.{same_text}
use Rattle.csi_orchestrator.specs.Model.Shown.{RowShown}
use Rattle.csi_orchestrator.specs.Public.Record.{RecordParts}
use Rattle.csi_reports.specs.Public.ByName.{name_place, row_place, wanted_names}
use Rattle.csi_reports.specs.Public.Order.{place_order, IsInPlace}
use Rattle.csi_reports.specs.Public.OrchestratorRecords.{orchestrator_entry, HasOneLine}
use Rattle.csi_reports.specs.Public.Responses.{HasOneOpenedLine}
use Rattle.csi_reports.proofs.OneOrder.{one-order, same-members}
use Rattle.csi_reports.proofs.OneReport.{one-place}
use Rattle.csi_reports.proofs.Places.{order-total}

-- ---- rows of different names

-- their names differ
abbrev HaveTwoNames : RowShown → RowShown → Type 0
HaveTwoNames a b = same_text a.name b.name ≡ false

-- the order of their places
abbrev rows_order : RowShown → RowShown → Ordering
rows_order a b = place_order (row_place a) (row_place b)

-- the two stand in one place
abbrev stand_together : RowShown → RowShown → Bool
stand_together a b = is_eq (rows_order a b)

-- an order that is turned around has the same ties
reverse-tie : (r : Ordering) → is_eq (ordering_reverse r) ≡ is_eq r
reverse-tie Less = refl
reverse-tie Equal = refl
reverse-tie Greater = refl

together-flips : (a b : RowShown) → stand_together a b ≡ stand_together b a
together-flips a b = ap is_eq (order-total.antisymm (row_place a) (row_place b)) ∙ reverse-tie (rows_order b a)

-- rows of different names stand apart
names-apart : (a b : RowShown) → HaveTwoNames a b → stand_together a b ≡ false
names-apart a b differ = by (rows_order a b) refl
  where
    by : (r : Ordering) → rows_order a b ≡ r → is_eq r ≡ false
    by Less e = refl
    by Greater e = refl
    by Equal e =
        let same : a.name ≡ b.name = ap (λ (p : List (List ℕ)). get_or p 0 []) (one-place (row_place a) (row_place b) e) in
        absurd (true≢false (sym ((bytes_decides a.name b.name).1 same) ∙ differ))

-- rows of which no two stand together are distinct
distinct-rows : (rows : List RowShown) → EachTwo (λ a b. stand_together a b ≡ false) rows → IsDistinct stand_together rows
unfolding IsDistinct
distinct-rows [] two = tt
distinct-rows (x ∷ xs) two = (two.0, distinct-rows xs two.1)

-- what doesn't fall and isn't a tie rises
rises-then : (r : Ordering) → is_lt (ordering_reverse r) ≡ false → is_eq r ≡ false → r ≡ Less
rises-then Less e f = refl
rises-then Equal e f = absurd (true≢false f)
rises-then Greater e f = absurd (true≢false e)

-- the first comes before the second
abbrev StandsBefore : RowShown → RowShown → Type 0
StandsBefore a b = rows_order a b ≡ Less

-- rows in place rise
rows-rise : (from rows : List RowShown) → EachTwo HaveTwoNames from → IsInPlace row_place from rows → EachTwo StandsBefore rows
rows-rise from rows once h =
    let apart = IsDistinct-IsPermutation stand_together together-flips from rows h.moved
    (distinct-rows from (two-more HaveTwoNames (λ a b. stand_together a b ≡ false) from names-apart once)) in
    two-by_places StandsBefore rows (λ i j d before inside.
    let first = get_or rows i d in
    let second = get_or rows j d in
    let at_most : i ≤ j = omega arith in
    let not_back = sorted_far (λ (a b : RowShown). is_lt (rows_order a b)) (ranks_by order-total row_place) rows h.rising i j d at_most inside in
    rises-then (rows_order first second) (ap is_lt (sym (order-total.antisymm (row_place second) (row_place first))) ∙ not_back)
    (apart_from_distinct stand_together rows i j d apart before inside))

not-itself : (x : RowShown) → StandsBefore x x → ⊥
not-itself x e = true≢false (sym (ap is_lt e) ∙ ap is_lt (tied_itself order-total (row_place x)))

not-both : (x y : RowShown) → StandsBefore x y → StandsBefore y x → ⊥
not-both x y e f = true≢false (sym (ap is_lt e) ∙ ap is_lt (order-total.antisymm (row_place x) (row_place y)) ∙ ap (λ o. is_lt (ordering_reverse o)) f)

-- they are in place in one way
one-listing : (from xs ys : List RowShown) → EachTwo HaveTwoNames from → IsInPlace row_place from xs → IsInPlace row_place from ys → xs ≡ ys
one-listing from xs ys once first second =
    same-members StandsBefore not-itself not-both xs ys (rows-rise from xs once first) (rows-rise from ys once second)
    (λ x among. among-back from ys x second.moved (among-moved from xs x first.moved among))
    (λ x among. among-back from xs x first.moved (among-moved from ys x second.moved among))

-- ---- lines

pub one-line : (kept : RecordParts) → EachTwo HaveTwoNames kept.rows → HasOneLine kept
one-line kept once a b first second =
    first.written
    ∙ ap (λ (rows : List RowShown). compact_text (orchestrator_entry kept.nodes kept.session rows)) (one-listing kept.rows first.rows second.rows once first.of second.of)
    ∙ sym second.written

-- a name is told by its place
name-told : (a b : List ℕ) → name_place a ≡ name_place b → string a ≡ string b
name-told a b e = ap (λ (p : List (List ℕ)). string (get_or p 0 [])) e

pub one-opened : (session : ℕ) (rows : List RowShown) → HasOneOpenedLine session rows
one-opened session rows a b first second =
    let same = one-order place_order order-total one-place name_place string name-told (wanted_names rows) first.wanted second.wanted
    first.of.moved first.of.rising second.of.moved second.of.rising in
    first.written
    ∙ ap (λ (names : List Data). compact_text (object (member (codes "session") (number (unsigned session)) (member (codes "wanted") (array (items_of names)) no_members)))) same
    ∙ sym second.written
