-- What the five texts mean, and that none of them shows rows but the one that reads.
use Rattle.std.proofs.Common.{◌≡◌, pos, negsuc, List, [], ◌∷◌, codes, false, None, Ok, refl}
use Rattle.sqlite.specs.declared.types.Value.TheVariants.{Null, Int}
use Rattle.sqlite.specs.Collation.TheVariants.{Binary}
use Rattle.sqlite.specs.Term.{Term, lit, col, op2}
use Rattle.sqlite.specs.Query.{Query, inner, end}
use Rattle.sqlite_sql.specs.declared.ops.BinaryOp.TheVariants.{Compare}
use Rattle.sqlite_sql.specs.declared.ops.CompareOp.TheVariants.{Eq}
use Rattle.sqlite.specs.Source.TheVariants.{Values}
use Rattle.sqlite.specs.Command.TheVariants.{Insert, Update, Delete, Select, CreateTable, Nothing}
use Rattle.sqlite.specs.Compile.{table_defined_by}
use Rattle.sqlite.specs.Change.{created}
use Rattle.sqlite_tied.specs.Compute.{everything}
use Rattle.sqlite.specs.Listing.{understood, reads_listing}
use Rattle.sqlite.proofs.Callers.{IsPlain, command_of, statement_of}
use Rattle.csi_sqlite.specs.Public.Declared.{parts_table, parts_schema, no_schema}
pub use Rattle.csi_sqlite.specs.Public.Statements.{make_statement, read_statement, change_statement, insert_statement, remove_statement}

-- the rowid is to be chosen, and then the two parameters
abbrev pub insert_terms : List Term
insert_terms = lit Null ∷ col 0 0 ∷ col 0 1 ∷ []

-- the columns by rising key
abbrev pub read_query : Query
read_query = record {
  from = inner 0 end;
  filter = [];
  group = None;
  project = col 1 1 ∷ col 1 2 ∷ [];
  distinct = false;
  collations = [];
  order = (col 1 1, record { collation = Binary; descending = false }) ∷ [];
  limit = lit (Int (negsuc 0));
  offset = lit (Int (pos 0));
}

-- the rowids of the rows of a key
abbrev pub remove_query : Query
remove_query = record {
  from = inner 0 end;
  filter = op2 (Compare Eq Binary) (col 1 1) (col 0 0) ∷ [];
  group = None;
  project = col 1 0 ∷ [];
  distinct = false;
  collations = [];
  order = [];
  limit = lit (Int (negsuc 0));
  offset = lit (Int (pos 0));
}

-- the rows of a key, each with its rowid twice, and the new value in place of its own
abbrev pub change_query : Query
change_query = record {
  from = inner 0 end;
  filter = op2 (Compare Eq Binary) (col 1 1) (col 0 0) ∷ [];
  group = None;
  project = col 1 0 ∷ col 1 0 ∷ col 1 1 ∷ col 0 1 ∷ [];
  distinct = false;
  collations = [];
  order = [];
  limit = lit (Int (negsuc 0));
  offset = lit (Int (pos 0));
}

-- in an empty schema the text makes a table, which is the declared one
pub make_is : (command_of (understood no_schema make_statement) ≡ CreateTable) × (statement_of make_statement (understood no_schema make_statement) ≡ make_statement) × (table_defined_by make_statement ≡ Ok parts_table)
unfolding understood everything parts_table
make_is = (refl, refl, refl)

-- the text has no RETURNING, and doesn't read the time; and so it is below of the others
pub make_plain : IsPlain (understood no_schema make_statement)
unfolding understood everything
make_plain = (refl, refl)

-- the declared table makes an empty schema the declared one
pub created_is : created no_schema parts_table ≡ parts_schema
unfolding everything parts_table parts_schema
created_is = refl

-- where the table is there, the text that makes it means nothing
pub found_is : command_of (understood parts_schema make_statement) ≡ Nothing
unfolding understood everything parts_table parts_schema
found_is = refl

-- where the table is there, the text that makes it is plain
pub found_plain : IsPlain (understood parts_schema make_statement)
unfolding understood everything parts_table parts_schema
found_plain = (refl, refl)

-- the text that reads is this query, with the names of the two columns, and isn't one of the schema's listing
pub read_is : (command_of (understood parts_schema read_statement) ≡ Select (record { lets = []; body = read_query }) (codes "key" ∷ codes "value" ∷ [])) × (reads_listing parts_schema read_statement ≡ false)
unfolding understood everything parts_table parts_schema
read_is = (refl, refl)

-- so is the text that reads
pub read_plain : IsPlain (understood parts_schema read_statement)
unfolding understood everything parts_table parts_schema
read_plain = (refl, refl)

-- the text that changes a row updates what the query finds
pub change_is : command_of (understood parts_schema change_statement) ≡ Update 0 (record { lets = []; body = change_query })
unfolding understood everything parts_table parts_schema
change_is = refl

-- so is the text that changes a row
pub change_plain : IsPlain (understood parts_schema change_statement)
unfolding understood everything parts_table parts_schema
change_plain = (refl, refl)

-- the text that puts a row in is this insert
pub insert_is : command_of (understood parts_schema insert_statement) ≡ Insert 0 (Values insert_terms 3)
unfolding understood everything parts_table parts_schema
insert_is = refl

-- so is the text that puts a row in
pub insert_plain : IsPlain (understood parts_schema insert_statement)
unfolding understood everything parts_table parts_schema
insert_plain = (refl, refl)

-- the text that takes a row out deletes what the query finds
pub remove_is : command_of (understood parts_schema remove_statement) ≡ Delete 0 (record { lets = []; body = remove_query })
unfolding understood everything parts_table parts_schema
remove_is = refl

-- so is the text that takes a row out
pub remove_plain : IsPlain (understood parts_schema remove_statement)
unfolding understood everything parts_table parts_schema
remove_plain = (refl, refl)
