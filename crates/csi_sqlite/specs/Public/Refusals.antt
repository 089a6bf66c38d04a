-- Why SQLite refused what a store asked of it, and as what that is told. This profile's own.
use Rattle.std.specs.Prelude.{◌≡◌, ◌≢◌, ◌⊎◌, ⊤, ℕ, true, List, [], ◌∷◌, Option, Some, None}
use Rattle.byteorder.specs.Endian.{big_bytes}
use Rattle.sqlite_trees.specs.declared.store.Store.{Ghosts}
use Rattle.sqlite.specs.declared.error.Error.{Error}
use Rattle.sqlite.specs.declared.error.Error.TheVariants.{SqliteFailure}
use Rattle.sqlite.specs.declared.error.ErrorCode.TheVariants.{OutOfMemory, SystemIoFailure}
use Rattle.sqlite.specs.Order.{Row}
use Rattle.sqlite.specs.State.{State, IsRolledBack, Survives}
use Rattle.sqlite.specs.Steps.{FailsToCommit}
use Rattle.sqlite.specs.Held.{Held, state}
use Rattle.csi_sqlite.specs.Public.Rows.{IsInputError}
use Rattle.csi_sqlite.specs.Public.Statements.{GivesRows, RefusesToRead, PutsRow, RefusesToPut, RemovesRow, RefusesToRemove}
use Rattle.csi_stores.specs.declared.keep.KeepFault.{KeepFault}
use Rattle.csi_stores.specs.declared.keep.KeepFault.TheVariants.{Device, NoMemory, BadRecord, Full}
use Rattle.csi_stores.specs.Public.Part.{StoredChange}
use Rattle.csi_sqlite.specs.Public.Loading.{IsFirstBad}

-- SQLite refused by an error, and that is told: out of memory as that, any other error as a failing device
abbrev pub IsToldFault : (Error → Type 0) → KeepFault → Type 0
IsToldFault Refuses Device = (error : Error) × (error ≢ SqliteFailure OutOfMemory) × Refuses error
IsToldFault Refuses NoMemory = Refuses (SqliteFailure OutOfMemory)
IsToldFault Refuses (BadRecord place) = ⊥
IsToldFault Refuses Full = ⊥

-- The same of copies in memory. Nothing of their disks fails but an allocation, so that a failing one is told as out of memory too.
abbrev pub WantsMemory : Error → Type 0
WantsMemory error = (error ≡ SqliteFailure OutOfMemory) ⊎ (error ≡ SqliteFailure SystemIoFailure)

abbrev pub IsToldOfCopies : (Error → Type 0) → KeepFault → Type 0
IsToldOfCopies Refuses Device = (error : Error) × (¬ WantsMemory error) × Refuses error
IsToldOfCopies Refuses NoMemory = (error : Error) × WantsMemory error × Refuses error
IsToldOfCopies Refuses (BadRecord place) = ⊥
IsToldOfCopies Refuses Full = ⊥

-- ---- loading

-- Why nothing was loaded. Device: SQLite refused the statement that reads the table. BadRecord: SQLite gave the rows, and the one at
-- this place is the first that is no part; or it doesn't understand that statement here, and the place is 0. Memory may be wanted for
-- the parts, too.
abbrev pub IsNotLoaded : State → State → KeepFault → Type 0
IsNotLoaded before after Device = (error : Error) × (error ≢ SqliteFailure OutOfMemory) × RefusesToRead before after error
IsNotLoaded before after NoMemory = ⊤
IsNotLoaded before after (BadRecord place) =
    ((rows : List Row) × GivesRows rows before after × IsFirstBad rows place)
    ⊎ ((place ≡ 0) × (error : Error) × IsInputError error × RefusesToRead before after error)
IsNotLoaded before after Full = ⊥

-- ---- changing

module _ {S : Type 0} (g : Ghosts S) where
  -- SQLite makes a change, in a transaction: the part's row is put in, or the row of its key taken out
  abbrev pub MakesChange : ℕ → Option (List ℕ) → Held S → Held S → Type 0
  MakesChange key (Some value) before after = PutsRow g (big_bytes 8 key) value before after
  MakesChange key None before after = RemovesRow (big_bytes 8 key) (state g before) (state g after)

  -- SQLite refuses to make it, with this error
  abbrev pub RefusesChange : ℕ → Option (List ℕ) → Held S → Held S → Error → Type 0
  RefusesChange key (Some value) before after error = RefusesToPut g (big_bytes 8 key) value before after error
  RefusesChange key None before after error = RefusesToRemove (big_bytes 8 key) (state g before) (state g after) error

  -- one change is made, and nothing is committed by it
  pub record IsChanged (change : StoredChange) (before after : Held S) : Type 0 where
    pub made : MakesChange change.key change.value before after
    pub survives : Survives (state g before) (state g after) (λ _. ⊥)

  -- a transaction that was refused something is undone
  pub record IsUndone (before after : Held S) : Type 0 where
    pub back : IsRolledBack (state g before) (state g after)
    pub survives : Survives (state g before) (state g after) (λ _. ⊥)

  -- In a transaction SQLite refuses, with this error, one of the changes, once it has made those before it; or, once it has made them
  -- all, to commit.
  abbrev pub RefusesOneOf : List StoredChange → Held S → Held S → Error → Type 0
  RefusesOneOf [] now after error = FailsToCommit (state g now) (state g after) error
  RefusesOneOf (change ∷ changes) now after error =
      ((refused : Held S) × RefusesChange change.key change.value now refused error × IsUndone refused after)
      ⊎ ((next : Held S) × IsChanged change now next × RefusesOneOf changes next after error)

  -- SQLite refuses these changes, which are asked for in a transaction of their own
  abbrev pub RefusesChanges : List StoredChange → Held S → Held S → Error → Type 0
  RefusesChanges changes before after error = RefusesOneOf changes (record before { in_transaction = true }) after error
