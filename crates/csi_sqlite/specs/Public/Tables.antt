-- A store in a SQLite database, as contracts see it. This profile's own.
use Rattle.std.specs.Prelude.{◌≡◌, ◌⊎◌, [], IsTrue, ℕ, ◌<◌, ◌^◌, List, map, Result, Ok, Err}
use Rattle.std.specs.List.{AllByRecursion}
use Rattle.byteorder.specs.Endian.{big_bytes}
use Rattle.sqlite.specs.Tree.{Trees}
use Rattle.sqlite.specs.State.{State, HasCleanDisk}
use Rattle.csi_sqlite.specs.Public.Rows.{KeyedRow, StoresRows, HasRows, IsBlank, IsAtRest}
use Rattle.csi_stores.specs.declared.keep.KeepFault.{KeepFault}
use Rattle.csi_stores.specs.declared.keep.KeepFault.TheVariants.{Device, NoMemory, BadRecord, Full}
use Rattle.csi_stores.specs.Public.Part.{StoredPart}
use Rattle.csi_stores.specs.Public.Content.{AreRisingParts}
use Rattle.csi_stores.specs.Public.Counting.{one_more}

-- a part as a row: its key in eight bytes, the greatest first
abbrev pub keyed_row : StoredPart → KeyedRow
keyed_row part = record { key = big_bytes 8 part.key; value = part.value }

-- each key has 64 bits
abbrev pub AreKeys : List StoredPart → Type 0
AreKeys = AllByRecursion (λ (part : StoredPart). part.key < 2 ^ 64)

-- a database whose one table has these parts
pub record StoresParts (db : Trees) (content : List StoredPart) : Type 0 where
  pub rows : StoresRows db (map keyed_row content)
  pub rising : AreRisingParts content
  pub keys : AreKeys content

-- the connection sees such a database, in a transaction or outside
pub record HasParts (s : State) (content : List StoredPart) : Type 0 where
  pub rows : HasRows s (map keyed_row content)
  pub rising : AreRisingParts content
  pub keys : AreKeys content

-- the same, and all is committed
abbrev pub HoldsParts : State → List StoredPart → Type 0
HoldsParts s content = HasParts s content × IsAtRest s

-- What opening leaves, also where it is refused or crashes: what was left before, or, where nothing was listed, a table without a part.
pub record OpensOver (before after : State) : Type 0 where
  pub honest : HasCleanDisk after → HasCleanDisk before
  pub blank : HasCleanDisk after → IsBlank before → (db : Trees) → after.may_leave db → before.may_leave db ⊎ StoresParts db []
  pub found : HasCleanDisk after → (content : List StoredPart) → IsTrue before.is_open → StoresParts before.now.trees content → (db : Trees) → after.may_leave db → before.may_leave db

-- how many failures there are after a refusal: at Device one more, up to 2^64 - 1, and else as many; Full is never answered
abbrev pub CountsFault : ℕ → ℕ → KeepFault → Type 0
CountsFault before after Device = after ≡ one_more before
CountsFault before after NoMemory = after ≡ before
CountsFault before after (BadRecord place) = after ≡ before
CountsFault before after Full = ⊥

-- and after any answer
abbrev pub CountsOnce : {A : Type 0} → ℕ → ℕ → Result A KeepFault → Type 0
CountsOnce before after (Ok a) = after ≡ before
CountsOnce before after (Err fault) = CountsFault before after fault
