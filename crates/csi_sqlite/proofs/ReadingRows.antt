-- What the statement that reads shows: the rows by rising key.
use Rattle.std.proofs.Common.{◌≡◌, inl, inr, Option, ℕ, false, List, [], ◌∷◌, map, drop, codes, refl, sym, ap, ap₂, subst, ◌∙◌, Less, Equal, IsPermutation}
use Rattle.std.specs.List.{AllByRecursion}
use Rattle.std.specs.Ordering.{is_eq, ordering_then}
use Rattle.std.proofs.lemmas.List.Sorted.{IsPermutation-map, IsPermutation-sym, IsPermutation-trans}
use Rattle.sqlite_value.specs.declared.value.Value.TheVariants.{Null}
use Rattle.sqlite_value.specs.Order.{Row, column, value_cmp}
use Rattle.sqlite_value.proofs.OrderLemmas.{value_cmp-Blob, then-Equal}
use Rattle.sqlite_sql.specs.Query.{Output, output, output_cmp, IsAnswer}
use Rattle.sqlite_sql.specs.Program.{overlay}
use Rattle.sqlite_sql.proofs.QueryLemmas.{output_cmp_total}
use Rattle.sqlite_trees.specs.Tree.{Trees, IsAscending}
use Rattle.sqlite_keyed.proofs.ListLemmas.{map-map, map_same, all_map, all_weaker, ascending-map, ascending_from_map, ascending_weaker}
use Rattle.sqlite_rules.proofs.ListLemmas.{all_from}
use Rattle.sqlite_catalog.specs.Listing.{IsSound}
use Rattle.sqlite_keyed.proofs.SortLemmas.{sorted_unique}
use Rattle.sqlite.specs.Command.TheVariants.{Select}
use Rattle.sqlite.specs.Listing.{understood}
use Rattle.sqlite.specs.Clock.{timed}
use Rattle.sqlite.specs.State.{State, IsUnchanged, IsNoStatement, IsNotRun, FailsToQuery, FailsToShow, Shown, ShowsRows, store_error}
use Rattle.sqlite.specs.Effect.{Database, RefusesQuery, RefusesToRead}
use Rattle.sqlite.specs.declared.error.Error.{Error}
use Rattle.sqlite_trees.specs.declared.error.StoreError.{StoreError}
use Rattle.sqlite_trees.specs.declared.error.StoreError.TheVariants.{OutOfMemory, Io, Corrupt, Full, Broken, Unstorable}
use Rattle.sqlite_schema.specs.declared.program.Program.{Program}
use Rattle.sqlite.proofs.Callers.{IsPlain, command_of, reads_as}
use Rattle.csi_sqlite.specs.Public.Declared.{parts_schema}
use Rattle.csi_sqlite.specs.Public.Rows.{KeyedRow, cells, AreRows, AreByKey, HasColumns, HasRows, AreRising, IsInputError}
use Rattle.csi_sqlite.proofs.TextMeanings.{read_statement, read_query, read_is, read_plain}
use Rattle.csi_sqlite.proofs.QueryAnswers.{all_match, has_permuted, unmapped}
use Rattle.csi_sqlite.proofs.Keys.{IsPair, first_column, pairs, keys_apart}
use Rattle.csi_sqlite.proofs.Sorted.{pairwise-permutation, untied_back, rising_from}

-- a row's columns as they are sorted and shown
abbrev out : Row → Output
out columns = (column columns 0 ∷ [], column columns 0 ∷ column columns 1 ∷ [])

-- what the query makes of a row is made of the columns behind its rowid
out_is : (r : Row) → output read_query ([] ∷ r ∷ []) ≡ out (drop 1 r)
out_is [] = refl
out_is (x ∷ r) = refl

-- what the query keeps are the columns of all rows
kept_is : (db : Trees) (found : List Row) (a : IsAnswer read_query (overlay db []) [] found) → a.kept ≡ map out (map (drop 1) (db 0))
kept_is db found a =
    let staged = a.grouped ∙ all_match [] (db 0) in
    a.distinct ∙ ap (map (output read_query)) staged ∙ map-map (output read_query) (λ r. [] ∷ r ∷ []) (db 0) ∙ map_same _ (λ r. out (drop 1 r)) out_is (db 0) ∙ sym (map-map out (drop 1) (db 0))

-- what the query answers are the rows by rising key
answers : (db : Trees) (rows : List KeyedRow) (found : List Row) → AreRows (db 0) (map cells rows) → AreRising rows → IsAnswer read_query (overlay db []) [] found → found ≡ map cells rows
answers db rows found are rising a =
    let same = IsPermutation-trans _ _ _ (IsPermutation-map out _ _ (IsPermutation-sym _ _ are.same)) (subst (λ l. IsPermutation l a.ordered) (kept_is db found a) a.same) in
    let strict : IsAscending (λ x y. output_cmp read_query x y ≡ Less) (map out (map cells rows)) =
    ascending-map _ out (map cells rows) (ascending-map _ cells rows (ascending_weaker _ _ (λ x y less. ap (λ o. ordering_then o Equal) (value_cmp-Blob x.key y.key ∙ less)) rows rising)) in
    let ordered = sorted_unique (output_cmp read_query) (output_cmp_total read_query) _ a.ordered strict same a.sorted in
    a.shown ∙ ap (map (λ (o : Output). o.1)) ordered ∙ map-map (λ (o : Output). o.1) out (map cells rows) ∙ map-map (λ c. (out c).1) cells rows

-- ---- rows of any values

-- a function that leaves each value of a list as it is leaves the list
unchanged : {X : Type 0} (f : X → X) (xs : List X) → AllByRecursion (λ x. f x ≡ x) xs → map f xs ≡ xs
unchanged f [] h = refl
unchanged f (x ∷ xs) h = ap₂ ◌∷◌ h.0 (unchanged f xs h.1)

-- what the query answers of rows of any values is these rows, by their first column
any_answers : (db : Trees) (columns found : List Row) → IsSound parts_schema db → AreRows (db 0) columns → IsAnswer read_query (overlay db []) [] found → AreByKey columns found
any_answers db columns found sound are a =
    let cmp = output_cmp read_query in
    let total = output_cmp_total read_query in
    let shown = λ (o : Output). o.1 in
    let same = subst (λ l. IsPermutation l a.ordered) (kept_is db found a) a.same in
    let untied : IsAscending (λ x y. is_eq (cmp x y) ≡ false) (map out (map (drop 1) (db 0))) =
    ascending-map _ out (map (drop 1) (db 0)) (ascending-map _ (drop 1) (db 0) (ascending_weaker _ _
    (λ x y apart. ap is_eq (then-Equal _ ∙ ap₂ value_cmp (first_column x) (first_column y)) ∙ apart) (db 0) (keys_apart db sound are.numbered are.ordered))) in
    let rising = rising_from cmp total a.ordered a.sorted (pairwise-permutation (λ x y. is_eq (cmp x y) ≡ false) (untied_back cmp total) _ _ same untied) in
    let each : AllByRecursion (λ o. out (shown o) ≡ o) a.ordered = all_from _ a.ordered (λ o h.
    let from = unmapped out (map (drop 1) (db 0)) o (has_permuted o _ _ (IsPermutation-sym _ _ same) h) in
    ap (λ x. out (shown x)) from.2 ∙ sym from.2) in
    let again : map out found ≡ a.ordered = ap (map out) a.shown ∙ map-map out shown a.ordered ∙ unchanged (λ o. out (shown o)) a.ordered each in
    let whole : map (λ c. (out c).1) (map (drop 1) (db 0)) ≡ map (drop 1) (db 0) =
    unchanged (λ c. (out c).1) (map (drop 1) (db 0)) (all_map _ (drop 1) (db 0) (all_from _ (db 0) (λ r h. sym (pairs db sound r h)))) in
    let listed : IsPermutation (map (drop 1) (db 0)) found =
    subst (λ l. IsPermutation l found) (map-map shown out (map (drop 1) (db 0)) ∙ whole) (subst (IsPermutation (map shown (map out (map (drop 1) (db 0))))) (sym a.shown) (IsPermutation-map shown _ _ same)) in
    record {
      same = IsPermutation-trans _ _ _ (IsPermutation-sym _ _ are.same) listed;
      wide = subst (AllByRecursion IsPair) (sym a.shown) (all_map IsPair shown a.ordered (all_weaker _ (λ o. IsPair (shown o)) (λ o is. sym (ap shown is)) a.ordered each));
      rising = ascending_weaker _ _ (λ x y less. sym (then-Equal _) ∙ less) found (ascending_from_map _ out found (subst (IsAscending (λ x y. cmp x y ≡ Less)) (sym again) rising));
    }

-- the statement shows rows of any values by their first column
pub reads_any : (old new : State) (columns : List Row) (found : List Row) → HasColumns old columns → Shown read_statement [] old new found → AreByKey columns found
reads_any old new columns found h shown =
    let got = reads_as read_statement [] old new parts_schema h.declared (Select (record { lets = []; body = read_query }) (codes "key" ∷ codes "value" ∷ [])) read_is.0 read_plain read_is.1 found shown in
    any_answers old.now.trees columns found h.stores.listed h.stores.stored (got.answer Null)

-- the statement shows the rows by rising key
pub reads : (old new : State) (rows : List KeyedRow) (found : List Row) → HasRows old rows → AreRising rows → Shown read_statement [] old new found → found ≡ map cells rows
reads old new rows found h rising shown =
    let got = reads_as read_statement [] old new parts_schema h.declared (Select (record { lets = []; body = read_query }) (codes "key" ∷ codes "value" ∷ [])) read_is.0 read_plain read_is.1 found shown in
    answers old.now.trees rows found h.stores.stored rising (got.answer Null)

-- reading changes nothing
pub leaves : (old new : State) (columns : List Row) (found : List Row) → HasColumns old columns → Shown read_statement [] old new found → IsUnchanged old new
unfolding Shown
leaves old new columns found h shown =
    let known = sym shown.1.is ∙ ap (λ s. understood s read_statement) h.declared in
    let none = (subst IsPlain (sym known) read_plain).0 in
    (subst (ShowsRows old new read_statement shown.0 _ found) none shown.2).3

-- an error of the store isn't that SQLite doesn't understand a text
never_input : (cause : StoreError) (error : Error) → error ≡ store_error cause → ¬ IsInputError error
never_input OutOfMemory error is bad = let b = bad.1 in absurd (cc)
never_input Io error is bad = let b = bad.1 in absurd (cc)
never_input Corrupt error is bad = let b = bad.1 in absurd (cc)
never_input Full error is bad = let b = bad.1 in absurd (cc)
never_input Broken error is bad = let b = bad.1 in absurd (cc)
never_input Unstorable error is bad = let b = bad.1 in absurd (cc)

-- a query isn't refused because SQLite doesn't understand its text
never_read : (limit : Option ℕ) (db : Database) (q : Program) (params : Row) (error : Error) → RefusesQuery limit db q params error → ¬ IsInputError error
never_read limit db q params error (inl typed) bad = let e = typed.0 in let b = bad.1 in absurd (cc)
never_read limit db q params error (inr (inl over)) bad = let e = over.0 in let b = bad.1 in absurd (cc)
never_read limit db q params error (inr (inr stopped)) bad = let e = stopped.0 in let b = bad.1 in absurd (cc)

-- the text is understood where the table is declared
pub understands : (old new : State) (columns : List Row) (error : Error) → HasColumns old columns → FailsToQuery read_statement [] old new error → ¬ IsInputError error
unfolding FailsToQuery IsNotRun
understands old new columns error h (inl (inl refused)) bad = no_statement refused.0
  where
    no_statement : IsNoStatement old read_statement [] error → ⊥
    no_statement (inl missing) =
        let is = sym (ap (λ s. understood s read_statement) h.declared) ∙ missing.1 in
        let plain = subst IsPlain is read_plain in plain
    no_statement (inr other) = elim other.2 [
      | inl many ↦ (let e = many.1 in let b = bad.1 in absurd (cc))
      | inr rest ↦ elim rest [ inl few ↦ (let e = few.1 in let b = bad.1 in absurd (cc)) | inr clock ↦ (let e = clock.1 in let b = bad.1 in absurd (cc)) ]
    ]
understands old new columns error h (inl (inr failed)) bad = never_input failed.0 error failed.1 bad
understands old new columns error h (inr ran) bad =
    let known = sym ran.1.is ∙ ap (λ s. understood s read_statement) h.declared in
    let none = (subst IsPlain (sym known) read_plain).0 in
    let is = ap command_of known ∙ read_is.0 in
    let full = timed [] ran.0.formats ran.1.now in
    let shows = subst (FailsToShow old new read_statement ran.0 full error) none ran.2 in
    let program : Program = record { lets = []; body = read_query } in
    never_read old.step_limit shows.0 program full error (subst (λ k. RefusesToRead old.step_limit k shows.0 full error) is shows.2) bad
