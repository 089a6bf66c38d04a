-- The first row that no record has there, and the walk that finds it.
use Rattle.csi_orchestrator.proofs.Words.{◌≡◌, ◌<◌, ◌≤◌, ◌+◌, ℕ, length, map, get_or, take, drop, Bool, true}
use Rattle.csi_orchestrator.proofs.Words.{false, List, [], ◌∷◌, ◌++◌, sym, ◌∙◌, ap, subst, arith, ◌||◌, nat_lt}
use Rattle.csi_orchestrator.proofs.Words.{AllByRecursion, list_any, same_text, Row, RowShown, IsRestorable}
use Rattle.csi_orchestrator.proofs.Words.{AreRestorable, row_shown, is_restorable, may_follow}
use Rattle.csi_orchestrator.proofs.Lemmas.{and_from, and_parts, false≢true, true≢false, lt-ltb, ltb-true, or_parts}
use Rattle.csi_orchestrator.proofs.Lemmas.{length-append, length-map, length-take-le, length_push, map_push}
use Rattle.csi_orchestrator.proofs.Lemmas.{take-append-drop, take-map, take_more, list_any-append, each-append_one}
use Rattle.csi_orchestrator.proofs.Lemmas.{each_of, two-append}
use Rattle.csi_orchestrator.specs.Public.Judging.{IsFirstRefused}
use Rattle.csi_orchestrator.proofs.JudgedRows.{restorable_tells}
use Rattle.csi_orchestrator.proofs.SplitLists.{any-of_none, each-left, each-right, two-left, two-there}

-- ---- the rules of the first rows

-- a front of a record's rows is a record's
front-kept : (nodes : List (List ℕ)) (rows more : List RowShown) → AreRestorable nodes (rows ++ more) → AreRestorable nodes rows
front-kept nodes rows more kept = grind (arith, length-append, two-left, each-left)

-- the first rows of a record's are a record's
pub take-kept : (nodes : List (List ℕ)) (rows : List RowShown) (k : ℕ) → AreRestorable nodes rows → AreRestorable nodes (take k rows)
take-kept nodes rows k kept = front-kept nodes (take k rows) (drop k rows) (subst (AreRestorable nodes) (sym (take-append-drop k rows)) kept)

-- rows that are a record's have no first one that no record has there
pub not-both : (nodes : List (List ℕ)) (rows : List RowShown) (place : ℕ) → IsFirstRefused (AreRestorable nodes) rows place → AreRestorable nodes rows → ⊥
not-both nodes rows place first kept = first.refused (take-kept nodes rows place kept)

-- ---- one more row

-- each fails where none passes
pub each-fails : {X : Type 0} (p : X → Bool) (xs : List X) → list_any p xs ≡ false → AllByRecursion (λ x. p x ≡ false) xs
each-fails p [] h = tt
each-fails p (x ∷ xs) h = let parts = or_parts (p x) (list_any p xs) h in (parts.0, each-fails p xs parts.1)

-- a record's rows, and one that may follow them under a name that none of them has, are a record's
kept-more : (nodes : List (List ℕ)) (rows : List RowShown) (row : Row) → AreRestorable nodes rows → may_follow nodes (length rows) row ≡ true → list_any (λ (r : RowShown). same_text r.name row.name) rows ≡ false
    → AreRestorable nodes (rows ++ row_shown row ∷ [])
kept-more nodes rows row kept follows none =
    let parts = and_parts (nat_lt (length rows) 4096) (is_restorable nodes row) follows in
    record {
      few =
          let room : length rows < 4096 = ltb-true (length rows) 4096 parts.0 in
          let long : length (rows ++ row_shown row ∷ []) ≡ length rows + 1 = length_push rows (row_shown row) in omega (arith, room, long);
      names =
          two-append (λ (a b : RowShown). same_text a.name b.name ≡ false) rows (row_shown row) kept.names
          (λ r among. each_of (λ (r : RowShown). same_text r.name row.name ≡ false) rows r (each-fails (λ (r : RowShown). same_text r.name row.name) rows none) among);
      each = each-append_one (IsRestorable nodes) rows (row_shown row) kept.each ((restorable_tells nodes row).from parts.1);
    }

-- the last of a record's rows may follow those before it
kept-follows : (nodes : List (List ℕ)) (rows : List RowShown) (row : Row) → AreRestorable nodes (rows ++ row_shown row ∷ []) → may_follow nodes (length rows) row ≡ true
kept-follows nodes rows row kept =
    let few = kept.few in
    let long : length (rows ++ row_shown row ∷ []) ≡ length rows + 1 = length_push rows (row_shown row) in
    and_from (nat_lt (length rows) 4096) (is_restorable nodes row) (lt-ltb (length rows) 4096 (omega (arith, few, long)))
    ((restorable_tells nodes row).back (each-right (IsRestorable nodes) rows (row_shown row ∷ []) kept.each).0)

-- no row before the last of a record's has its name
new-name : (nodes : List (List ℕ)) (rows : List RowShown) (row : Row) → AreRestorable nodes (rows ++ row_shown row ∷ []) → list_any (λ (r : RowShown). same_text r.name row.name) rows ≡ false
new-name nodes rows row kept =
    any-of_none (λ (r : RowShown). same_text r.name row.name) rows (two-there (λ (a b : RowShown). same_text a.name b.name ≡ false) rows (row_shown row) [] kept.names).0

-- ---- the walk

-- the rows before a place, as they are shown
abbrev so_far : List Row → ℕ → List RowShown
so_far rows place = map row_shown (take place rows)

-- they are a record's, and these are their names
pub record SoFar (nodes : List (List ℕ)) (rows : List Row) (place : ℕ) (has : List ℕ → Bool) : Type 0 where
  pub kept : AreRestorable nodes (so_far rows place)
  pub names : (name : List ℕ) → has name ≡ list_any (λ (row : RowShown). same_text row.name name) (so_far rows place)

-- the rows up to a place and with it are those before it, and then the row there
one-more : (rows : List Row) (place : ℕ) (row : Row) → place < length rows → row ≡ get_or rows place row → so_far rows (place + 1) ≡ so_far rows place ++ row_shown row ∷ []
one-more rows place row inside is =
    ap (map row_shown) (take_more rows place row inside ∙ ap (λ (r : Row). take place rows ++ r ∷ []) (sym is)) ∙ map_push row_shown (take place rows) row

-- as many are before a place as its number
count-so_far : (rows : List Row) (place : ℕ) → place ≤ length rows → length (so_far rows place) ≡ place
count-so_far rows place inside = length-map (take place rows) row_shown ∙ length-take-le place rows inside

-- two tests in the other order, with one that fails between, come to the same
or-turned : (a b : Bool) → (a || b) ≡ (b || (a || false))
or-turned a b = grind arith

-- it goes on so after a row that may follow and has a new name, once that name is put in
pub goes_on : (nodes : List (List ℕ)) (rows : List Row) (place : ℕ) (has now_has : List ℕ → Bool) (row : Row) → SoFar nodes rows place has → place < length rows → row ≡ get_or rows place row
    → may_follow nodes place row ≡ true → has row.name ≡ false → ((name : List ℕ) → now_has name ≡ (same_text row.name name || has name)) → SoFar nodes rows (place + 1) now_has
goes_on nodes rows place has now_has row so inside is follows absent adds = grind (arith, one-more, kept-more, count-so_far, or-turned, list_any-append)

-- where the rows before a place are a record's, and with the row there they aren't, that row is the first refused one
refused-there : (nodes : List (List ℕ)) (rows : List Row) (place : ℕ) (row : Row) → AreRestorable nodes (so_far rows place) → place < length rows → row ≡ get_or rows place row
    → (AreRestorable nodes (so_far rows place ++ row_shown row ∷ []) → ⊥) → IsFirstRefused (AreRestorable nodes) (map row_shown rows) (place + 1)
refused-there nodes rows place row kept inside is fails = grind (arith, length-map, take-map, one-more)

-- so is a row that may not follow those before it
pub refused-rules : (nodes : List (List ℕ)) (rows : List Row) (place : ℕ) (has : List ℕ → Bool) (row : Row) → SoFar nodes rows place has → place < length rows → row ≡ get_or rows place row
    → may_follow nodes place row ≡ false → IsFirstRefused (AreRestorable nodes) (map row_shown rows) (place + 1)
refused-rules nodes rows place has row so inside is fails =
    refused-there nodes rows place row so.kept inside is
    (λ whole. false≢true (sym fails ∙ sym (ap (λ k. may_follow nodes k row) (count-so_far rows place (omega (arith, inside)))) ∙ kept-follows nodes (so_far rows place) row whole))

-- and one whose name an earlier row has
pub refused-name : (nodes : List (List ℕ)) (rows : List Row) (place : ℕ) (has : List ℕ → Bool) (row : Row) → SoFar nodes rows place has → place < length rows → row ≡ get_or rows place row
    → has row.name ≡ true → IsFirstRefused (AreRestorable nodes) (map row_shown rows) (place + 1)
refused-name nodes rows place has row so inside is there =
    refused-there nodes rows place row so.kept inside is (λ whole. true≢false (sym there ∙ so.names row.name ∙ new-name nodes (so_far rows place) row whole))
