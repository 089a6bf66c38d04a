-- Records by their layout: how far the parts of one were read, and which is the first that is refused.
use Rattle.std.proofs.Common.{◌≡◌, ℕ, zero, suc, ◌+◌, ◌-◌, ◌≤◌, ◌<◌, List, [], ◌∷◌, ◌++◌, length, take, drop, map, get_or, refl, sym, ap, subst, ◌∙◌, inl, inr, append_assoc, arith}
use Rattle.std.specs.Prelude.{Bool, true, false}
use Rattle.std.specs.List.{AllByRecursion}
use Rattle.std.proofs.lemmas.List.{append-nil, length-map, length-take, take-append-drop, take_rest, drop_more, map-append}
use Rattle.csi_stores.specs.declared.part.Part.{Part}
use Rattle.csi_stores.specs.Public.Part.{StoredPart, stored_in, all_stored_in}
use Rattle.csi_records.specs.Public.Records.{Layout, AreParts, IsRecordOf, IsRefusedAt}
use Rattle.csi_records.specs.Private.Stopping.{StopsAtRow}

-- parts are spelled by one value each, and a front of a record is one
pub record IsOneToOne {H R : Type 0} (layout : Layout H R) : Type 0 where
  pub heads : (a b : H) → layout.is_head a → layout.is_head b → layout.head a ≡ layout.head b → a ≡ b
  pub rows : (a b : R) → layout.is_row a → layout.is_row b → layout.row a ≡ layout.row b → a ≡ b
  pub fronts : (first : H) (rs : List R) (k : ℕ) → layout.are_rows first rs → layout.are_rows first (take k rs)

-- what is so of each of a list is so of each of a front of it
pub each-take : {X : Type 0} (P : X → Type 0) (xs : List X) (k : ℕ) → AllByRecursion P xs → AllByRecursion P (take k xs)
each-take P xs zero all = tt
each-take P [] (suc k) all = tt
each-take P (x ∷ xs) (suc k) all = (all.0, each-take P xs k all.1)

-- equal parts of rows mean equal rows
pub rows-same : {H R : Type 0} (layout : Layout H R) → IsOneToOne layout → (rs ss : List R) → AllByRecursion layout.is_row rs → AllByRecursion layout.is_row ss → map layout.row rs ≡ map layout.row ss → rs ≡ ss
rows-same layout one [] [] fit fits e = refl
rows-same layout one [] (s ∷ ss) fit fits e = absurd cc
rows-same layout one (r ∷ rs) [] fit fits e = absurd cc
rows-same layout one (r ∷ rs) (s ∷ ss) fit fits e =
    let heads : layout.row r ≡ layout.row s = cc in
    let tails : map layout.row rs ≡ map layout.row ss = cc in
    let first = one.rows r s (fit.0) (fits.0) heads in
    let rest = rows-same layout one rs ss (fit.1) (fits.1) tails in
    λ i. first i ∷ rest i

-- a head and rows within their limits, which keep the rules, have the parts of a record
pub is-record : {H R : Type 0} (layout : Layout H R) (first : H) (rows : List R) → layout.is_head first → AllByRecursion layout.is_row rows → layout.are_rows first rows → IsRecordOf layout (layout.head first ∷ map layout.row rows)
is-record layout first rows fits each rules = record { first = first; rows = rows; spelled = record { head_fits = fits; rows_fit = each; rules = rules; are = refl } }

-- equal parts, whatever rules they keep, mean an equal head and equal rows
same-both : {H R : Type 0} (layout : Layout H R) → IsOneToOne layout → (a b : H) (rs ss : List R) → layout.is_head a → layout.is_head b → AllByRecursion layout.is_row rs → AllByRecursion layout.is_row ss
    → layout.head a ∷ map layout.row rs ≡ layout.head b ∷ map layout.row ss → (a ≡ b) × (rs ≡ ss)
same-both layout one a b rs ss fit fits each others e =
    let heads : layout.head a ≡ layout.head b = cc in
    let rest : map layout.row rs ≡ map layout.row ss = cc in
    (one.heads a b fit fits heads, rows-same layout one rs ss each others rest)

-- equal parts mean equal records
pub parts-same : {H R : Type 0} (layout : Layout H R) → IsOneToOne layout → (a b : H) (rs ss : List R) (parts : List StoredPart) → AreParts layout a rs parts → AreParts layout b ss parts → (a ≡ b) × (rs ≡ ss)
parts-same layout one a b rs ss parts p q = same-both layout one a b rs ss p.head_fits q.head_fits p.rows_fit q.rows_fit (sym p.are ∙ q.are)

-- parts, the first of which is this one
stored-split : (parts : List Part) (item : Part) (head : StoredPart) → 1 ≤ length parts → item ≡ get_or parts 0 item → head ≡ stored_in item → all_stored_in parts ≡ head ∷ all_stored_in (take (length parts - 1) (drop 1 parts))
stored-split [] item head some is same = absurd (omega arith)
stored-split (p ∷ ps) item head some is same =
    ap (λ (q : Part). stored_in q ∷ all_stored_in ps) (sym is) ∙ ap (λ (q : StoredPart). q ∷ all_stored_in ps) (sym same) ∙ ap (λ (qs : List Part). head ∷ all_stored_in qs) (sym (take_rest (p ∷ ps) 1))

-- no head stands first
pub head-refused : {H R : Type 0} (layout : Layout H R) (parts : List Part) (item : Part) → 1 ≤ length parts → item ≡ get_or parts 0 item → ((first : H) → layout.is_head first → layout.head first ≡ stored_in item → ⊥)
    → IsRefusedAt (IsRecordOf layout) (all_stored_in parts) 0
head-refused layout parts item some is none =
    record {
      before = [];
      part = stored_in item;
      after = all_stored_in (take (length parts - 1) (drop 1 parts));
      are = stored-split parts item (stored_in item) some is refl;
      here = refl;
      begins = inl refl;
      refused = λ is.
          let both : stored_in item ∷ [] ≡ layout.head is.first ∷ map layout.row is.rows = is.spelled.are in
          let same : layout.head is.first ≡ stored_in item = cc in
          none is.first is.spelled.head_fits same;
    }

-- the item behind so many others, and what is in front of it and behind it
cut-at : {X : Type 0} (xs : List X) (k : ℕ) → k < length xs → (x : X) × (take (suc k) xs ≡ take k xs ++ x ∷ []) × (xs ≡ take k xs ++ x ∷ drop (suc k) xs)
cut-at [] k inside = absurd (omega arith)
cut-at (x ∷ xs) zero inside = (x, refl, refl)
cut-at (x ∷ xs) (suc k) inside = let cut = cut-at xs k (omega arith) in (cut.0, ap (λ ys. x ∷ ys) cut.1, ap (λ ys. x ∷ ys) cut.2)

-- what was read before the first part that is no row
rest_of : {R : Type 0} → (row_part : R → StoredPart) (IsRow : R → Type 0) (parts : List StoredPart) (rows : List R) (all : Bool) → StopsAtRow row_part IsRow parts rows all
    → (more : List StoredPart) × (parts ≡ map row_part rows ++ more)
rest_of row_part IsRow parts rows true stops = ([], stops ∙ sym (append-nil (map row_part rows)))
rest_of row_part IsRow parts rows false stops = (stops.0 ∷ stops.1, stops.2)

-- Parts, the first of which is a head. Behind it rows within their limits were read, all, or until a part is none of those that may come next.
module _ {H R : Type 0} (layout : Layout H R) (Next : R → Type 0) (first : H) (rs : List R) (parts : List Part) (item : Part) (all : Bool) (some : 1 ≤ length parts) (is : item ≡ get_or parts 0 item) (same : layout.head first ≡ stored_in item)
    (fits : layout.is_head first) (each : AllByRecursion layout.is_row rs) (stops : StopsAtRow layout.row Next (all_stored_in (take (length parts - 1) (drop 1 parts))) rs all) where
  -- what stands behind the head
  abbrev others : List StoredPart
  others = all_stored_in (take (length parts - 1) (drop 1 parts))

  -- it is so behind the head
  behind : (ps : List StoredPart) → others ≡ ps → all_stored_in parts ≡ layout.head first ∷ ps
  behind ps are = stored-split parts item (layout.head first) some is same ∙ ap (λ (qs : List StoredPart). layout.head first ∷ qs) are

  -- all parts behind the head are rows, which keep the rules
  pub all-read : all ≡ true → layout.are_rows first rs → AreParts layout first rs (all_stored_in parts)
  all-read whole rules = record { head_fits = fits; rows_fit = each; rules = rules; are = behind (map layout.row rs) (subst (StopsAtRow layout.row Next others rs) whole stops) }

  -- the rows so far keep the rules, and the next part is none that may come next
  pub row-unread : (place : ℕ) → length rs ≡ place → all ≡ false → ((head : H) (before : List R) (row : R) → layout.is_row row → layout.are_rows head (before ++ row ∷ []) → length before ≡ length rs → Next row) → layout.are_rows first rs
      → IsRefusedAt (IsRecordOf layout) (all_stored_in parts) (place + 1)
  row-unread place count part_left next rules =
      let stop = subst (StopsAtRow layout.row Next others rs) part_left stops in
      record {
        before = layout.head first ∷ map layout.row rs;
        part = stop.0;
        after = stop.1;
        are = behind (map layout.row rs ++ stop.0 ∷ stop.1) stop.2;
        here = omega (arith, length-map rs layout.row, count);
        begins = inr (is-record layout first rs fits each rules);
        refused = λ is.
            let end = last stop.0 is.rows (map layout.row rs) is.spelled.rows_fit (tail (layout.head first) (layout.head is.first) (map layout.row rs ++ stop.0 ∷ []) (map layout.row is.rows) is.spelled.are) in
            stop.3 end.1 (next is.first end.0 end.1 end.4 (subst (layout.are_rows is.first) end.2 is.spelled.rules) (end.3 ∙ length-map rs layout.row)) end.5;
      }
    where
      tail : (a b : StoredPart) (ps qs : List StoredPart) → a ∷ ps ≡ b ∷ qs → ps ≡ qs
      tail a b ps qs e = cc

      -- the last of the rows is the part
      last : (part : StoredPart) (ss : List R) (before : List StoredPart) → AllByRecursion layout.is_row ss → before ++ part ∷ [] ≡ map layout.row ss
          → (front : List R) × (row : R) × (ss ≡ front ++ row ∷ []) × (length front ≡ length before) × layout.is_row row × (layout.row row ≡ part)
      last part [] [] fit e = absurd cc
      last part [] (p ∷ before) fit e = absurd cc
      last part (s ∷ []) [] fit e = let one : layout.row s ≡ part = cc in ([], s, refl, refl, fit.0, one)
      last part (s ∷ t ∷ ss) [] fit e = absurd cc
      last part (s ∷ ss) (p ∷ before) fit e =
          let rest : before ++ part ∷ [] ≡ map layout.row ss = cc in
          let end = last part ss before fit.1 rest in
          (s ∷ end.0, end.1, ap (λ (rows : List R). s ∷ rows) end.2, ap suc end.3, end.4, end.5)

  -- the rows are read at least so far, and the first so many break a rule
  pub row-refused : IsOneToOne layout → (place : ℕ) → 1 ≤ place → place ≤ length rs → layout.are_rows first (take (place - 1) rs) → (layout.are_rows first (take place rs) → ⊥) → IsRefusedAt (IsRecordOf layout) (all_stored_in parts) place
  row-refused one zero from to before refused = absurd (omega arith)
  row-refused one (suc k) from to before refused =
      let cut = cut-at rs k (omega (arith, to)) in
      let rest = rest_of layout.row Next others rs all stops in
      let front_parts = map layout.row (take k rs) in
      let part = layout.row cut.0 in
      let more = map layout.row (drop (suc k) rs) in
      record {
        before = layout.head first ∷ front_parts;
        part = part;
        after = more ++ rest.0;
        are = behind (front_parts ++ part ∷ (more ++ rest.0))
            (rest.1 ∙ ap (λ (xs : List R). map layout.row xs ++ rest.0) cut.2 ∙ ap (λ (ps : List StoredPart). ps ++ rest.0) (map-append layout.row (take k rs) (cut.0 ∷ drop (suc k) rs)) ∙ append_assoc front_parts (part ∷ more) rest.0);
        here = omega (arith, length-map (take k rs) layout.row, length-take k rs, to);
        begins = inr (is-record layout first (take k rs) fits (each-take layout.is_row rs k each) (subst (λ (n : ℕ). layout.are_rows first (take n rs)) (omega arith) before));
        refused = λ is.
            let s = is.spelled in
            let both : layout.head first ∷ map layout.row (take (suc k) rs) ≡ layout.head is.first ∷ map layout.row is.rows =
            ap (λ (ps : List StoredPart). layout.head first ∷ ps) (ap (map layout.row) cut.1 ∙ map-append layout.row (take k rs) (cut.0 ∷ [])) ∙ s.are in
            let equal = same-both layout one first is.first (take (suc k) rs) is.rows fits s.head_fits (each-take layout.is_row rs (suc k) each) s.rows_fit both in
            refused (subst (λ (h : H). layout.are_rows h (take (suc k) rs)) (sym equal.0) (subst (layout.are_rows is.first) (sym equal.1) s.rules));
      }

-- ---- reading row after row

-- the part at this place is the first that is no row
pub stops-here : {R P : Type 0} (row_part : R → StoredPart) (IsRow : R → Type 0) (stored : P → StoredPart) (parts : List P) (i : ℕ) (part : P) (rows : List R) → i < length parts → part ≡ get_or parts i part
    → map row_part rows ≡ map stored (take i parts) → ((row : R) → IsRow row → row_part row ≡ stored part → ⊥) → StopsAtRow row_part IsRow (map stored parts) rows false
stops-here row_part IsRow stored parts i part rows inside is are none = (stored part, map stored (drop (i + 1) parts), split, none)
  where
    split : map stored parts ≡ map row_part rows ++ stored part ∷ map stored (drop (i + 1) parts)
    split =
        ap (map stored) (sym (take-append-drop i parts) ∙ ap (λ ps. take i parts ++ ps) (drop_more parts i part inside ∙ ap (λ p. p ∷ drop (i + 1) parts) (sym is)))
        ∙ map-append stored (take i parts) (part ∷ drop (i + 1) parts) ∙ ap (λ ps. ps ++ stored part ∷ map stored (drop (i + 1) parts)) (sym are)
