-- What opening a store in files finds, and why it isn't opened. This profile's own.
use Rattle.std.specs.Prelude.{◌≡◌, ◌⊎◌, false, List}
use Rattle.sqlite_disk.specs.declared.Disk.{Ghosts}
use Rattle.sqlite_disk.specs.declared.Files.{Files}
use Rattle.sqlite_store.specs.declared.store.FileStore.{FileStore}
use Rattle.sqlite_trees.specs.declared.store.Store.{Ghosts as StoreGhosts}
use Rattle.sqlite_trees.specs.Tree.{Trees}
use Rattle.sqlite_wal.specs.Recovery.{Image}
use Rattle.sqlite.specs.declared.file.Leftover.{Leftover}
use Rattle.sqlite.specs.State.{State, HasCleanDisk}
use Rattle.sqlite.specs.Held.{Held, state}
use Rattle.sqlite.specs.Files.{over_files, file_state, HoldsDatabase, Finds, IsCleanLeft, FailsToOpenFiles}
use Rattle.csi_stores.specs.declared.keep.KeepFault.{KeepFault}
use Rattle.csi_stores.specs.declared.keep.KeepFault.TheVariants.{Device}
use Rattle.csi_stores.specs.Public.Part.{StoredPart}
use Rattle.csi_stores.specs.Public.Stores.{Found}
use Rattle.csi_sqlite.specs.Public.Declared.{parts_schema}
use Rattle.csi_sqlite.specs.Public.Listed.{ListsOther}
use Rattle.csi_sqlite.specs.Public.Loading.{Stores}
use Rattle.csi_sqlite.specs.Public.Refusals.{IsToldFault, IsToldOfCopies}
use Rattle.csi_sqlite.specs.Public.Statements.{RefusesToMake}
use Rattle.csi_sqlite.specs.Public.Tables.{StoresParts, HoldsParts}

-- ---- why it isn't opened

-- SQLite refused to open these copies in memory, by an error that is told: out of memory as that, and any other as a failing device
pub record RefusesFiles {D : Type 0} (g : Ghosts D) (files : Files D) (fault : KeepFault) : Type 0 where
  pub rest : Leftover D g
  pub told : IsCleanLeft rest → IsToldOfCopies (FailsToOpenFiles files rest) fault

-- the table isn't there that has to be
pub record LacksTable {S : Type 0} (g : StoreGhosts S) (connection : Held S) (fault : KeepFault) : Type 0 where
  pub device : fault ≡ Device
  pub other : ¬ ((state g connection).now.schema ≡ parts_schema)

-- SQLite refused to make it, where nothing is listed, by an error that is told
pub record RefusesTable {S : Type 0} (g : StoreGhosts S) (connection : Held S) (fault : KeepFault) : Type 0 where
  pub after : Held S
  pub told : HasCleanDisk (state g after) → (state g connection).in_transaction ≡ false → ¬ ListsOther (state g connection).now.schema
      → IsToldFault (RefusesToMake (state g connection) (state g after)) fault

-- a database isn't taken as a store
abbrev pub IsNotKept : {S : Type 0} → StoreGhosts S → Held S → KeepFault → Type 0
IsNotKept g connection fault = LacksTable g connection fault ⊎ RefusesTable g connection fault

-- SQLite found a database in these files, which isn't taken as a store
pub record IsNoStore {D : Type 0} (g : Ghosts D) (files : Files D) (fault : KeepFault) : Type 0 where
  pub connection : Held (FileStore D g)
  pub found : HasCleanDisk (file_state connection) → Finds files connection
  pub refused : IsNotKept over_files connection fault

-- there is no store in these files
abbrev pub IsNotFound : {D : Type 0} → Ghosts D → Files D → KeepFault → Type 0
IsNotFound g files fault = RefusesFiles g files fault ⊎ IsNoStore g files fault

-- a connection is as SQLite finds it in some files
abbrev pub IsFoundIn : {D : Type 0} {g : Ghosts D} → Held (FileStore D g) → Type 0
IsFoundIn {D} connection = (files : Files D) × (HasCleanDisk (file_state connection) → Finds files connection)

-- ---- what opening finds again

-- A process's files hold what another one may have left: a database that has this.
pub record FindsLeft (left : State) (image : Image) (found : Found) : Type 0 where
  pub db : Trees
  pub may : left.may_leave db
  pub stored : Stores db found
  pub holds : HoldsDatabase image db

-- what `open_file` ensures of a store whose files held this at first
abbrev pub IsOpenedOver : Image → State → Type 0
IsOpenedOver image now = (db : Trees) (content : List StoredPart) → HoldsDatabase image db → StoresParts db content → HoldsParts now content
