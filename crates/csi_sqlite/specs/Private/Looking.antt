-- What may be opened as a store. This profile's own.
use Rattle.std.specs.Prelude.{◌≡◌, ◌⊎◌}
use Rattle.sqlite_disk.specs.declared.Disk.{Ghosts}
use Rattle.sqlite_disk.specs.declared.Files.{Files}
use Rattle.sqlite_store.specs.declared.store.FileStore.{FileStore}
use Rattle.sqlite.specs.State.{HasCleanDisk}
use Rattle.sqlite.specs.Held.{Held}
use Rattle.sqlite.specs.Files.{Finds, file_state}
use Rattle.csi_stores.specs.declared.keep.KeepFault.{KeepFault}
use Rattle.csi_stores.specs.declared.keep.KeepFault.TheVariants.{Device}
use Rattle.csi_sqlite.specs.Public.Listed.{ListsOther}
use Rattle.csi_sqlite.specs.Public.Opening.{RefusesFiles}

-- SQLite finds a database in these files, which lists the table alone, or nothing
abbrev pub ListsTableAtMost : {D : Type 0} (g : Ghosts D) → Files D → Type 0
ListsTableAtMost {D} g files = (connection : Held (FileStore D g)) × (HasCleanDisk (file_state connection) → Finds files connection) × (ListsOther (file_state connection).now.schema → ⊥)

-- SQLite finds one that lists something else, which is told as a failing device
pub record ListsOtherIn {D : Type 0} (g : Ghosts D) (files : Files D) (fault : KeepFault) : Type 0 where
  pub connection : Held (FileStore D g)
  pub found : HasCleanDisk (file_state connection) → Finds files connection
  pub other : ListsOther (file_state connection).now.schema
  pub device : fault ≡ Device

-- why these files aren't opened as a store
abbrev pub IsJudged : {D : Type 0} → Ghosts D → Files D → KeepFault → Type 0
IsJudged g files fault = RefusesFiles g files fault ⊎ ListsOtherIn g files fault
