-- Rows of the table `parts` read as parts, whatever values they have. This profile's own.
use Rattle.std.specs.Prelude.{◌≡◌, ◌<◌, ◌^◌, ℕ, ⊤, List, map, take, slice_get, Some, Result, Ok, Err}
use Rattle.std.specs.Global.{Vec}
use Rattle.std.specs.List.{AllZip}
use Rattle.byteorder.specs.Endian.{big_bytes}
use Rattle.sqlite.specs.declared.types.Value.TheVariants.{Blob}
use Rattle.sqlite.specs.Order.{Row, column}
use Rattle.sqlite.specs.State.{State}
use Rattle.sqlite.specs.Tree.{Trees}
use Rattle.csi_sqlite.specs.Public.Rows.{AreByKey, StoresColumns, HasColumns}
use Rattle.csi_stores.specs.declared.keep.KeepFault.{KeepFault}
use Rattle.csi_stores.specs.declared.keep.KeepFault.TheVariants.{Device, NoMemory, BadRecord, Full}
use Rattle.csi_stores.specs.declared.part.Part.{Part}
use Rattle.csi_stores.specs.Public.Part.{StoredPart, part_change, put_all}
use Rattle.csi_stores.specs.Public.Stores.{Found}
use Rattle.csi_stores.specs.Public.Stores.Found.{Parts, Foreign, Unlisted}
use Rattle.csi_sqlite.specs.Public.Tables.{StoresParts, HasParts}

-- a row is this part: its columns are two BLOBs, the eight bytes of the key and the value
pub record IsRowOfPart (row : Row) (part : StoredPart) : Type 0 where
  pub fits : part.key < 2 ^ 64
  pub key : column row 0 ≡ Blob (big_bytes 8 part.key)
  pub value : column row 1 ≡ Blob part.value

-- a row is no part
abbrev pub IsNoPart : Row → Type 0
IsNoPart row = (part : StoredPart) → IsRowOfPart row part → ⊥

-- the row at this place, from 0, is the first that is no part
pub record IsFirstBad (rows : List Row) (place : ℕ) : Type 0 where
  pub row : Row
  pub there : slice_get rows place ≡ Some row
  pub bad : IsNoPart row
  pub earlier : (parts : List StoredPart) × AllZip IsRowOfPart (take place rows) parts

-- Why rows of these columns aren't given: BadRecord has the place, by rising key, of the first row that is no part. Out of memory and
-- a failing device may come at any time.
abbrev pub IsNotGiven : List Row → KeepFault → Type 0
IsNotGiven columns Device = ⊤
IsNotGiven columns NoMemory = ⊤
IsNotGiven columns (BadRecord place) = (rows : List Row) × AreByKey columns rows × IsFirstBad rows place
IsNotGiven columns Full = ⊥

-- What loading a table with rows of these columns answers: parts only where each row is a part, and then all of them by rising key;
-- BadRecord only where some row is none.
abbrev pub IsLoaded : State → List Row → Result (Vec Part) KeepFault → Type 0
IsLoaded s columns (Ok parts) = (content : List StoredPart) × HasParts s content × (map part_change parts.items ≡ put_all content)
IsLoaded s columns (Err fault) = IsNotGiven columns fault

-- The table has rows of some columns, and the one at this place, by rising key, is the first that is no part.
pub record IsForeign (s : State) (place : ℕ) : Type 0 where
  pub columns : List Row
  pub has : HasColumns s columns
  pub first : IsNotGiven columns (BadRecord place)

-- ---- what is found again

-- a database whose one table has rows, and the one at this place, by rising key, is the first that is no part
abbrev pub StoresForeign : Trees → ℕ → Type 0
StoresForeign db place = (columns : List Row) × StoresColumns db columns × IsNotGiven columns (BadRecord place)

-- a database that has these parts, such a row, or neither
abbrev pub Stores : Trees → Found → Type 0
Stores db (Parts content) = StoresParts db content
Stores db (Foreign place) = StoresForeign db place
Stores db Unlisted = ((content : List StoredPart) → ¬ StoresParts db content) × ((place : ℕ) → ¬ StoresForeign db place)

-- a crash may leave a database that has this
pub record LeavesFound (s : State) (found : Found) : Type 0 where
  pub db : Trees
  pub may : s.may_leave db
  pub stored : Stores db found
