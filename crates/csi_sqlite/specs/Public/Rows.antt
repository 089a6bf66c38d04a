-- The table's rows, as callers see them.
use Rattle.std.specs.Prelude.{◌≡◌, ℕ, false, not, List, [], ◌∷◌, map, drop, filter, bytes_eq, IsTrue, IsPermutation}
use Rattle.std.specs.List.{AllByRecursion}
use Rattle.std.specs.Ordering.{nat_cmp}
use Rattle.std.specs.declared.cmp.Ordering.TheVariants.{Less}
use Rattle.std.specs.Cmp.Lexicographic.{slice_cmp}
use Rattle.sqlite.specs.declared.types.Value.TheVariants.{Blob}
use Rattle.sqlite.specs.Order.{Row, column, value_cmp}
use Rattle.sqlite.specs.Tree.{Trees, IsTable, IsAscending, rowid}
use Rattle.sqlite_catalog.specs.Listing.{IsSound}
use Rattle.sqlite.specs.View.{is_int}
use Rattle.sqlite.specs.State.{State}
use Rattle.sqlite.specs.declared.error.Error.{Error}
use Rattle.sqlite.specs.declared.error.Error.TheVariants.{SqlInputError}
use Rattle.sqlite_resolve.specs.declared.error.CompileError.{CompileError}
use Rattle.csi_sqlite.specs.Public.Declared.{parts_schema, no_schema}

-- a row: its key and its value
pub record KeyedRow : Type 0 where
  pub key : List ℕ
  pub value : List ℕ

-- the row's columns: two BLOBs
abbrev pub cells : KeyedRow → Row
cells row = Blob row.key ∷ Blob row.value ∷ []

-- SQLite's rows have these columns, in any order, each under a rowid of its own
pub record AreRows (stored columns : List Row) : Type 0 where
  pub ordered : IsTable stored
  pub numbered : AllByRecursion (λ r. IsTrue (is_int (rowid r))) stored
  pub same : IsPermutation (map (drop 1) stored) columns

-- a database whose one table is this one, with rows of these columns, whatever values they are
pub record StoresColumns (db : Trees) (columns : List Row) : Type 0 where
  pub listed : IsSound parts_schema db
  pub stored : AreRows (db 0) columns

-- the connection is open, and sees such a database
pub record HasColumns (s : State) (columns : List Row) : Type 0 where
  pub is_open : IsTrue s.is_open
  pub declared : s.now.schema ≡ parts_schema
  pub stores : StoresColumns s.now.trees columns

-- a database whose one table is this one, with these rows
abbrev pub StoresRows : Trees → List KeyedRow → Type 0
StoresRows db rows = StoresColumns db (map cells rows)

-- the connection is open, and sees such a database
abbrev pub HasRows : State → List KeyedRow → Type 0
HasRows s rows = HasColumns s (map cells rows)

-- The same rows, each of two columns, by the first one: no two are equal there, and each is below the later ones in SQLite's order
-- of values, in which numbers come before texts, and texts before BLOBs.
pub record AreByKey (columns rows : List Row) : Type 0 where
  pub same : IsPermutation columns rows
  pub wide : AllByRecursion (λ row. row ≡ column row 0 ∷ column row 1 ∷ []) rows
  pub rising : IsAscending (λ a b. value_cmp (column a 0) (column b 0) ≡ Less) rows

-- the connection is open, and the database has no table, index or view
pub record IsBlank (s : State) : Type 0 where
  pub is_open : IsTrue s.is_open
  pub empty : IsSound no_schema s.now.trees

-- no transaction is open, and what is seen is committed
pub record IsAtRest (s : State) : Type 0 where
  pub autocommit : s.in_transaction ≡ false
  pub committed : s.now ≡ s.committed

-- the rows of other keys
abbrev pub without : List ℕ → List KeyedRow → List KeyedRow
without key rows = filter (λ row. not (bytes_eq row.key key)) rows

-- each key is below the later ones, byte by byte
abbrev pub AreRising : List KeyedRow → Type 0
AreRising = IsAscending (λ a b. slice_cmp nat_cmp a.key b.key ≡ Less)

-- SQLite doesn't understand the text, as where a table or a column is missing
abbrev pub IsInputError : Error → Type 0
IsInputError error = (fault : CompileError) × (error ≡ SqlInputError fault)
