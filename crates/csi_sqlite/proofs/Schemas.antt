-- A database's list of objects tells its schema, where the list is that of no table, or of this one.
use Rattle.std.proofs.Common.{◌≡◌, ℕ, zero, suc, ◌+◌, pos, List, [], ◌∷◌, filter, slice_get, Some, Ok, inl, inr, refl, sym, ap, ap₂, subst, ◌∙◌, arith}
use Rattle.std.specs.List.{AllZip}
use Rattle.sqlite_value.specs.declared.value.Value.{Value}
use Rattle.sqlite_value.specs.declared.value.Value.TheVariants.{Null, Int, Real, Text, Blob}
use Rattle.sqlite_value.specs.Order.{Row, column}
use Rattle.sqlite_trees.specs.Tree.{Trees, rowid}
use Rattle.sqlite_trees.specs.Objects.{catalog_tree}
use Rattle.sqlite_schema.specs.declared.schema.Table.{Table}
use Rattle.sqlite_schema.specs.declared.schema.Index.{Index}
use Rattle.sqlite_schema.specs.declared.schema.Schema.{Schema}
use Rattle.sqlite_resolve.specs.Compile.{table_defined_by}
use Rattle.sqlite_catalog.specs.Listing.{IsTableRow, IsIndexRow, IsViewRow, IsDefined, IsSound, automatic, is_table_row, is_index_row, is_view_row}
use Rattle.csi_sqlite.specs.Public.Declared.{parts_table, parts_schema, no_schema}

-- what stands beside nothing is nothing
beside_none : {A B C : Type 0} (R : A → B → Type 0) (S : A → C → Type 0) (xs : List A) (zs : List C) → AllZip R xs [] → AllZip S xs zs → zs ≡ []
beside_none R S [] [] h k = refl
beside_none R S [] (z ∷ zs) h k = absurd k
beside_none R S (x ∷ xs) zs h k = absurd h

-- and what stands beside one thing is one thing
beside_one : {A B C : Type 0} (R : A → B → Type 0) (S : A → C → Type 0) (xs : List A) (y : B) (zs : List C) → AllZip R xs (y ∷ []) → AllZip S xs zs → (x : A) × R x y × (z : C) × S x z × (zs ≡ z ∷ [])
beside_one R S [] y zs h k = absurd h
beside_one R S (x ∷ []) y [] h k = absurd k
beside_one R S (x ∷ []) y (z ∷ []) h k = (x, h.0, z, k.0, refl)
beside_one R S (x ∷ []) y (z ∷ w ∷ zs) h k = absurd k.1
beside_one R S (x ∷ w ∷ xs) y zs h k = absurd h.1

-- a rowid names one tree
same_tree : (v : Value) (m n : ℕ) → v ≡ Int (pos (m + 1)) → v ≡ Int (pos (n + 1)) → m ≡ n
same_tree v m n e f = let same : m + 1 ≡ n + 1 = cc in omega arith

-- a row lists one table
one_table : (row : Row) (a b : Table) → IsTableRow row a → IsTableRow row b → b ≡ a
one_table row a b p q =
    let texts : Text p.sql ≡ Text q.sql = sym p.sql_is ∙ q.sql_is in
    let text : p.sql ≡ q.sql = cc in
    let mades : Ok p.defined.0 ≡ Ok q.defined.0 = sym p.defined.1 ∙ ap table_defined_by text ∙ q.defined.1 in
    let made : p.defined.0 ≡ q.defined.0 = cc in
    let tree = same_tree (rowid row) a.tree b.tree p.described.id q.described.id in
    q.defined.2 ∙ ap₂ (λ (t : Table) (n : ℕ). record t { tree = n }) (sym made) (sym tree) ∙ sym p.defined.2

-- what defines an index of the table, in one tree, defines one index
same_index : (v : Value) (a b : Index) → IsDefined parts_table a v → IsDefined parts_table b v → a.tree ≡ b.tree → b ≡ a
unfolding parts_table
same_index Null a b p q tree = only p.0 q.0 p.1 q.1 p.2 q.2 p.3 q.3
  where
    only : (i j : ℕ) (k l : List ℕ) → slice_get ((1 ∷ []) ∷ []) i ≡ Some k → slice_get ((1 ∷ []) ∷ []) j ≡ Some l → a ≡ automatic parts_table i k a.tree → b ≡ automatic parts_table j l b.tree → b ≡ a
    only zero zero k l e f is also = let keys : k ≡ l = cc in also ∙ ap₂ (λ (key : List ℕ) (n : ℕ). automatic parts_table 0 key n) (sym keys) (sym tree) ∙ sym is
    only zero (suc j) k l e f is also = absurd (cc)
    only (suc i) j k l e f is also = absurd (cc)
same_index (Int n) a b p q tree = absurd p
same_index (Real x) a b p q tree = absurd p
same_index (Text sql) a b p q tree =
    let mades : Ok p.0 ≡ Ok q.0 = sym p.1 ∙ q.1 in
    let made : p.0 ≡ q.0 = cc in
    q.2 ∙ ap₂ (λ (it : Index) (n : ℕ). record it { tree = n; table = parts_table.tree }) (sym made) (sym tree) ∙ sym p.2
same_index (Blob x) a b p q tree = absurd p

-- and one index of the table
one_index : (row : Row) (a b : Index) → IsIndexRow (parts_table ∷ []) row a → IsIndexRow (parts_table ∷ []) row b → b ≡ a
one_index row a b p q =
    let first : p.table ≡ parts_table = elim p.listed [ inl is ↦ is | inr none ↦ absurd none ] in
    let second : q.table ≡ parts_table = elim q.listed [ inl is ↦ is | inr none ↦ absurd none ] in
    same_index (column row 4) a b (subst (λ t. IsDefined t a (column row 4)) first p.defined) (subst (λ t. IsDefined t b (column row 4)) second q.defined)
    (same_tree (rowid row) a.tree b.tree p.described.id q.described.id)

-- a database that lists no table, index or view has the empty schema
pub nothing_listed : (schema : Schema) (db : Trees) → IsSound no_schema db → IsSound schema db → schema ≡ no_schema
nothing_listed schema db none it =
    let objects = db catalog_tree in
    let tables = beside_none IsTableRow IsTableRow (filter is_table_row objects) schema.tables none.lists.listed.tables it.lists.listed.tables in
    let indexes = beside_none (IsIndexRow no_schema.tables) (IsIndexRow schema.tables) (filter is_index_row objects) schema.indexes none.lists.listed.indexes it.lists.listed.indexes in
    let views = beside_none IsViewRow IsViewRow (filter is_view_row objects) schema.views none.lists.listed.views it.lists.listed.views in
    λ i. record { tables = tables i; indexes = indexes i; views = views i }

-- so it doesn't list the table
pub not_both : (schema : Schema) (db : Trees) → IsSound no_schema db → IsSound schema db → ¬ (schema ≡ parts_schema)
unfolding parts_schema
not_both schema db none it lists =
    let nothing : schema.tables ≡ [] = ap (λ (s : Schema). s.tables) (nothing_listed schema db none it) in
    let some : schema.tables ≡ parts_table ∷ [] = ap (λ (s : Schema). s.tables) lists in
    absurd (cc)

-- a database that lists the declared table and its index has the declared schema
pub parts_listed : (schema : Schema) (db : Trees) → IsSound parts_schema db → IsSound schema db → schema ≡ parts_schema
unfolding parts_schema
parts_listed schema db parts it =
    let objects = db catalog_tree in
    let table = beside_one IsTableRow IsTableRow (filter is_table_row objects) parts_table schema.tables parts.lists.listed.tables it.lists.listed.tables in
    let tables : schema.tables ≡ parts_table ∷ [] = table.4 ∙ ap (λ t. t ∷ []) (one_table table.0 parts_table table.2 table.1 table.3) in
    let index = beside_one (IsIndexRow (parts_table ∷ [])) (IsIndexRow (parts_table ∷ [])) (filter is_index_row objects) _ schema.indexes parts.lists.listed.indexes
    (subst (λ t. AllZip (IsIndexRow t) (filter is_index_row objects) schema.indexes) tables it.lists.listed.indexes) in
    let indexes : schema.indexes ≡ parts_schema.indexes = index.4 ∙ ap (λ x. x ∷ []) (one_index index.0 _ index.2 index.1 index.3) in
    let views = beside_none IsViewRow IsViewRow (filter is_view_row objects) schema.views parts.lists.listed.views it.lists.listed.views in
    λ i. record { tables = tables i; indexes = indexes i; views = views i }
