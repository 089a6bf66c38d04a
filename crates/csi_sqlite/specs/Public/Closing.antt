-- What closing a store leaves of its two files. This profile's own.
use Rattle.std.specs.Prelude.{List}
use Rattle.sqlite_wal.specs.Reads.{AreClean}
use Rattle.sqlite_trees.specs.View.{IsClean}
use Rattle.sqlite_store.specs.declared.store.FileStore.{FileStore}
use Rattle.sqlite_store.specs.FileStore.{view}
use Rattle.sqlite.specs.Held.{Held}
use Rattle.sqlite_disk.specs.declared.Disk.{Ghosts}
use Rattle.sqlite_disk.specs.declared.Files.{Files}
use Rattle.sqlite_wal.specs.Recovery.{Image}
use Rattle.sqlite_wal.specs.Files.{outcomes}
use Rattle.sqlite_trees.specs.Tree.{Trees}
use Rattle.sqlite.specs.Files.{image_of, file_state, FailsToClose}
use Rattle.sqlite.specs.Closing.{HoldsAlone}
use Rattle.csi_stores.specs.declared.keep.KeepFault.{KeepFault}
use Rattle.csi_stores.specs.Public.Part.{StoredPart}
use Rattle.csi_sqlite.specs.Public.Tables.{StoresParts, HoldsParts}
use Rattle.csi_sqlite.specs.Public.Refusals.{IsToldFault}

-- the two files hold a database with these parts, and so does the database file with no log
pub record HaveAlone (image : Image) (content : List StoredPart) : Type 0 where
  pub db : Trees
  pub parts : StoresParts db content
  pub holds : HoldsAlone image db

-- the database file has these parts, as it reads now and after a crash
pub record AreWhole {D : Type 0} (g : Ghosts D) (files : Files D) (content : List StoredPart) : Type 0 where
  pub seen : HaveAlone (image_of g files) content
  pub left : (image : Image) → outcomes g files.log files.db image → HaveAlone image content

-- what the connection had is in this database file, where the disk gave back what was written
abbrev pub PutsBack : {D : Type 0} {g : Ghosts D} → Held (FileStore D g) → Files D → Type 0
PutsBack {g = g} before files = AreClean g files.log files.db → (content : List StoredPart) → HoldsParts (file_state before) content → AreWhole g files content

-- it was in such a file when the files were closed
abbrev pub IsPutBack : {D : Type 0} {g : Ghosts D} → Held (FileStore D g) → Type 0
IsPutBack {D} before = (files : Files D) × PutsBack before files

-- it couldn't be put there from the log: a device failed in this call, or memory was wanted
abbrev pub IsNotPutBack : {D : Type 0} {g : Ghosts D} → Held (FileStore D g) → KeepFault → Type 0
IsNotPutBack {D} {g} before fault = (last : FileStore D g) × (IsClean (view last) → IsToldFault (FailsToClose before last) fault)
