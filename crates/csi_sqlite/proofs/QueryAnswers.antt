-- What a query over the one table answers, and that a text that only reads commits nothing.
use Rattle.std.proofs.Common.{◌≡◌, ℕ, ◌+◌, Bool, true, false, ◌&&◌, cond, List, [], ◌∷◌, ◌++◌, map, drop, filter, flat_map, None, Result, Ok, Err, IfOk, refl, sym, ap, subst, ◌∙◌, inl, inr, IsPermutation}
use Rattle.std.proofs.lemmas.List.Sorted.{IsPermutation-map, IsPermutation-sym}
use Rattle.sqlite_value.specs.declared.value.Value.TheVariants.{Blob}
use Rattle.sqlite_value.specs.Order.{Row, column}
use Rattle.sqlite_trees.specs.Tree.{Trees, rowid}
use Rattle.sqlite_sql.specs.Term.{Term, op2, col, holds}
use Rattle.sqlite_sql.specs.declared.ops.BinaryOp.TheVariants.{Compare}
use Rattle.sqlite_sql.specs.declared.ops.CompareOp.TheVariants.{Eq}
use Rattle.sqlite_value.specs.declared.keys.Collation.TheVariants.{Binary}
use Rattle.sqlite_sql.specs.Query.{Output, output, IsAnswer}
use Rattle.sqlite_sql.specs.Program.{overlay}
use Rattle.sqlite_schema.specs.declared.schema.Schema.{Schema}
use Rattle.sqlite_resolve.specs.declared.compiled.Compiled.{Compiled}
use Rattle.sqlite_resolve.specs.declared.error.CompileError.{CompileError}
use Rattle.sqlite_resolve.specs.declared.error.CompileError.TheVariants.{NoSuchTable}
use Rattle.sqlite_resolve.specs.Lowering.{and_then}
use Rattle.sqlite_resolve.specs.Compile.{first, compiled, planned, meaning, returning, command, with_command, timed, small}
use Rattle.sqlite_syntax.specs.declared.statement.Parsed.{Parsed}
use Rattle.sqlite_rules.specs.Lists.{Has}
use Rattle.sqlite_rules.specs.Edit.{id_in}
use Rattle.sqlite_rules.specs.Calls.{ids_of}
use Rattle.sqlite_rules.proofs.ListLemmas.{has_filtered, has_kept}
use Rattle.sqlite_rules.proofs.ProbeLemmas.{mapped_has}
use Rattle.sqlite_keyed.proofs.ListLemmas.{map-map, filter_same, along_permutation}
use Rattle.sqlite.specs.Listing.{understood, reads_listing, listing_schema, if_select, is_select}
use Rattle.sqlite.specs.State.{State, CommitsShowing}
use Rattle.sqlite_tied.specs.Compute.{everything}
use Rattle.csi_sqlite.proofs.TextMeanings.{read_statement, remove_query, change_query}
use Rattle.csi_sqlite.proofs.StoredRows.{has_key, has_key-row, AreIdsOf}

-- ---- members

-- what is in a list is in every order of it
pub has_permuted : {X : Type 0} (x : X) (xs ys : List X) → IsPermutation xs ys → Has xs x → Has ys x
has_permuted {X} x = along_permutation (λ (xs ys : List X). Has xs x → Has ys x)
    (λ xs h. h)
    (λ y xs ys more h. elim h [ inl e ↦ inl e | inr k ↦ inr (more k) ])
    (λ y z xs h. elim h [ inl e ↦ inr (inl e) | inr k ↦ elim k [ inl e ↦ inl e | inr l ↦ inr (inr l) ] ])
    (λ xs ys zs f g h. g (f h))

-- what is among the values that a function makes is made of one that was there
pub unmapped : {X Y : Type 0} (f : X → Y) (xs : List X) (y : Y) → Has (map f xs) y → (x : X) × Has xs x × (y ≡ f x)
unmapped f [] y h = absurd h
unmapped f (x ∷ xs) y (inl e) = (x, inl refl, e)
unmapped f (x ∷ xs) y (inr h) = let later = unmapped f xs y h in (later.0, inr later.1, later.2)

-- ---- the rows that are joined to the parameters

-- joined to the parameters, the rows that pass a test stand one by one behind them
one_match : (params : Row) (test : Term) (rows : List Row)
    → flat_map (λ r. cond (holds (params ∷ r ∷ []) test && true) ((params ∷ r ∷ []) ∷ []) []) rows ≡ map (λ r. params ∷ r ∷ []) (filter (λ r. holds (params ∷ r ∷ []) test) rows)
one_match params test [] = refl
one_match params test (x ∷ rows) = by (holds (params ∷ x ∷ []) test) (one_match params test rows)
  where
    by : (b : Bool)
        → flat_map (λ r. cond (holds (params ∷ r ∷ []) test && true) ((params ∷ r ∷ []) ∷ []) []) rows ≡ map (λ r. params ∷ r ∷ []) (filter (λ r. holds (params ∷ r ∷ []) test) rows)
        → cond (b && true) ((params ∷ x ∷ []) ∷ []) [] ++ flat_map (λ r. cond (holds (params ∷ r ∷ []) test && true) ((params ∷ r ∷ []) ∷ []) []) rows
        ≡ map (λ r. params ∷ r ∷ []) (cond b (x ∷ filter (λ r. holds (params ∷ r ∷ []) test) rows) (filter (λ r. holds (params ∷ r ∷ []) test) rows))
    by true more = ap (λ l. (params ∷ x ∷ []) ∷ l) more
    by false more = more

-- joined to the parameters, all rows stand one by one behind them
pub all_match : (params : Row) (rows : List Row) → flat_map (λ r. (params ∷ r ∷ []) ∷ []) rows ≡ map (λ r. params ∷ r ∷ []) rows
all_match params [] = refl
all_match params (x ∷ rows) = ap (λ l. (params ∷ x ∷ []) ∷ l) (all_match params rows)

-- ---- the rows of a key

-- the query finds, in some order, the rowids of the key's rows
removed_rows : (db : Trees) (key : List ℕ) (found : List Row) → IsAnswer remove_query (overlay db []) (Blob key ∷ []) found
    → IsPermutation (map (λ r. rowid r ∷ []) (filter (λ r. has_key key (drop 1 r)) (db 0))) found
removed_rows db key found a =
    let params = Blob key ∷ [] in
    let kept = λ (l : List Row). map (output remove_query) (map (λ r. params ∷ r ∷ []) l) in
    let staged = a.grouped ∙ one_match params (op2 (Compare Eq Binary) (col 1 1) (col 0 0)) (db 0) ∙ ap (map (λ r. params ∷ r ∷ [])) (filter_same _ _ (has_key-row key) (db 0)) in
    let shown : map (λ (o : Output). o.1) a.kept ≡ map (λ r. rowid r ∷ []) (filter (λ r. has_key key (drop 1 r)) (db 0)) =
    ap (map (λ (o : Output). o.1)) (a.distinct ∙ ap (map (output remove_query)) staged)
    ∙ map-map (λ (o : Output). o.1) (output remove_query) (map (λ r. params ∷ r ∷ []) (filter (λ r. has_key key (drop 1 r)) (db 0)))
    ∙ map-map (λ e. (output remove_query e).1) (λ r. params ∷ r ∷ []) (filter (λ r. has_key key (drop 1 r)) (db 0)) in
    subst (IsPermutation (map (λ r. rowid r ∷ []) (filter (λ r. has_key key (drop 1 r)) (db 0)))) (sym a.shown)
    (subst (λ l. IsPermutation l (map (λ (o : Output). o.1) a.ordered)) shown (IsPermutation-map (λ (o : Output). o.1) _ _ a.same))

-- the rowids that the query finds are those of the key's rows
pub removed_ids : (db : Trees) (key : List ℕ) (found : List Row) → IsAnswer remove_query (overlay db []) (Blob key ∷ []) found → AreIdsOf (db 0) (λ r. has_key key (drop 1 r)) (ids_of found)
removed_ids db key found a =
    let passes = λ (r : Row). has_key key (drop 1 r) in
    let same = removed_rows db key found a in
    let id = λ (r : Row). id_in (rowid r) in
    record {
      complete = λ r h passing. mapped_has id found (rowid r ∷ []) (has_permuted (rowid r ∷ []) _ _ same (mapped_has (λ x. rowid x ∷ []) (filter passes (db 0)) r (has_kept passes (db 0) r h passing)));
      sound = λ i h.
          let x = unmapped id found i h in
          let r = unmapped (λ (y : Row). rowid y ∷ []) (filter passes (db 0)) x.0 (has_permuted x.0 _ _ (IsPermutation-sym _ _ same) x.1) in
          let kept = has_filtered passes (db 0) r.0 r.1 in
          (r.0, kept.0, kept.1, x.2 ∙ ap id r.2);
    }

-- the row with its rowid twice, its key, and the new value
abbrev pub changed : Row → Row → Row
changed params r = rowid r ∷ rowid r ∷ column r 1 ∷ column params 1 ∷ []

-- the query finds, in some order, the key's rows with the new value
pub found_rows : (db : Trees) (key value : List ℕ) (found : List Row) → IsAnswer change_query (overlay db []) (Blob key ∷ Blob value ∷ []) found
    → IsPermutation (map (changed (Blob key ∷ Blob value ∷ [])) (filter (λ r. has_key key (drop 1 r)) (db 0))) found
found_rows db key value found a =
    let params = Blob key ∷ Blob value ∷ [] in
    let left = filter (λ r. has_key key (drop 1 r)) (db 0) in
    let staged = a.grouped ∙ one_match params (op2 (Compare Eq Binary) (col 1 1) (col 0 0)) (db 0) ∙ ap (map (λ r. params ∷ r ∷ [])) (filter_same _ _ (has_key-row key) (db 0)) in
    let shown : map (λ (o : Output). o.1) a.kept ≡ map (changed params) left =
    ap (map (λ (o : Output). o.1)) (a.distinct ∙ ap (map (output change_query)) staged)
    ∙ map-map (λ (o : Output). o.1) (output change_query) (map (λ r. params ∷ r ∷ []) left)
    ∙ map-map (λ e. (output change_query e).1) (λ r. params ∷ r ∷ []) left in
    subst (IsPermutation (map (changed params) left)) (sym a.shown)
    (subst (λ l. IsPermutation l (map (λ (o : Output). o.1) a.ordered)) shown (IsPermutation-map (λ (o : Output). o.1) _ _ a.same))

-- ---- a text that only reads

-- a text that was compiled has no RETURNING
abbrev pub ShowsNone : Result Compiled CompileError → Type 0
ShowsNone (Ok c) = c.returning ≡ None
ShowsNone (Err e) = Unit {0}

-- a statement that was parsed has no RETURNING, whichever the schema
abbrev NeverReturns : Result Parsed CompileError → Type 0
NeverReturns r = IfOk r (λ p. (schema : Schema) (base : ℕ) → returning schema base p.statement ≡ Ok None)

-- the statement that reads has no RETURNING, whichever the schema
read_never : NeverReturns (first read_statement)
unfolding everything
read_never = λ schema base. refl

-- a statement that never has RETURNING has none once it is compiled
compiled_none : (text : List ℕ) → NeverReturns (first text) → (schema : Schema) → ShowsNone (compiled schema text)
unfolding compiled planned meaning
compiled_none text never schema =
    elim (first text) as (λ r. NeverReturns r → ShowsNone (and_then r (λ p. and_then (planned schema p) (λ plan. Ok (with_command p plan))))) [
      | Ok p ↦ λ none.
          let formats = timed schema p.formats p.statement in
          let base = small p.names + small formats in
          rw none (elim (command schema p.formats base p.statement) as (λ r. ShowsNone (and_then (and_then (and_then r (λ c. Ok (c, None))) (λ found. Ok (formats, found))) (λ plan. Ok (with_command p plan)))) [ Ok c ↦ refl | Err e ↦ tt ])
      | Err e ↦ λ _. tt
    ] never

-- a text without RETURNING has none where a SELECT alone is let through
select_none : (r : Result Compiled CompileError) → ShowsNone r → ShowsNone (if_select r)
select_none (Ok c) none = elim (is_select c.command) as (λ b. ShowsNone (cond b (Ok c) (Err NoSuchTable))) [ true ↦ none | false ↦ tt ]
select_none (Err e) none = tt

-- the text that reads has no RETURNING as it is understood, whichever the schema
read_none : (schema : Schema) → ShowsNone (understood schema read_statement)
unfolding understood
read_none schema =
    elim (reads_listing schema read_statement) as (λ b. ShowsNone (cond b (if_select (compiled listing_schema read_statement)) (compiled schema read_statement))) [
      | true ↦ select_none (compiled listing_schema read_statement) (compiled_none read_statement read_never listing_schema)
      | false ↦ compiled_none read_statement read_never schema
    ]

-- whatever the database has
pub reading_commits_nothing : (s : State) (params : Row) (db : Trees) → ¬ CommitsShowing read_statement params s db
unfolding CommitsShowing
reading_commits_nothing s params db h = absurd (let none = rw (subst ShowsNone h.1.is (read_none s.now.schema)) at h.2 in cc)
