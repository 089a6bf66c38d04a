-- How the table is declared: `CREATE TABLE parts (key BLOB NOT NULL PRIMARY KEY, value BLOB NOT NULL)`, in a database that has no
-- other table, index or view. This profile's own.
use Rattle.std.specs.Prelude.{ℕ, true, false, List, [], ◌∷◌, None, codes}
use Rattle.sqlite.specs.Collation.TheVariants.{Binary}
use Rattle.sqlite.specs.Kind.TheVariants.{Any}
use Rattle.sqlite.specs.Schema.{Schema}
use Rattle.sqlite.specs.Table.{Table}
use Rattle.sqlite_schema.specs.declared.schema.Column.{Column}
use Rattle.sqlite_schema.specs.declared.schema.Index.{Index}
use Rattle.sqlite.specs.declared.types.Value.TheVariants.{Null}

-- a column of the affinity BLOB, which may not be NULL
abbrev pub blob_column : List ℕ → Column
blob_column name = record { name = name; kind = Any; is_strict = false; not_null = true; default = Null; collation = Binary }

-- two such columns, of which the first is the primary key. A row has its rowid at place 0.
unfoldable pub parts_table : Table
parts_table = record {
  name = codes "parts";
  tree = 0;
  columns = blob_column (codes "key") ∷ blob_column (codes "value") ∷ [];
  key = None;
  primary = 1 ∷ [];
  uniques = (1 ∷ []) ∷ [];
  orders = (record { digits = 0 }) ∷ [];
  checks = [];
  references = [];
  computed = [];
  stamps = record { places = []; terms = []; formats = [] };
  is_counted = false;
}

-- the index that SQLite makes for its primary key
abbrev pub parts_index : Index
parts_index = record { name = codes "sqlite_autoindex_parts_1"; tree = 1; table = 0; columns = 1 ∷ []; order = record { digits = 0 }; is_unique = true }

-- the table, and that index
unfoldable pub parts_schema : Schema
unfolding parts_table
parts_schema = record {
  tables = parts_table ∷ [];
  indexes = parts_index ∷ [];
  views = [];
}

-- a database without a table
abbrev pub no_schema : Schema
no_schema = record { tables = []; indexes = []; views = [] }
