-- What a database lists: nothing, the table as it is declared, or something else. This profile's own.
use Rattle.std.specs.Prelude.{◌≡◌, false, None, [], ◌∷◌}
use Rattle.sqlite.specs.Table.{Table}

-- ---- of a table

-- its first column is its one key, and its primary one, by the order of bytes
pub record IsKeyedByFirst (table : Table) : Type 0 where
  pub unique : table.uniques ≡ (1 ∷ []) ∷ []
  pub primary : table.primary ≡ 1 ∷ []
  pub other : table.key ≡ None
  pub order : table.orders ≡ record { digits = 0 } ∷ []

-- it has no check, no reference, no default but a literal, and no count
pub record IsPlain (table : Table) : Type 0 where
  pub checks : table.checks ≡ []
  pub references : table.references ≡ []
  pub computed : table.computed ≡ []
  pub stamps : table.stamps ≡ record { places = []; terms = []; formats = [] }
  pub counted : table.is_counted ≡ false
