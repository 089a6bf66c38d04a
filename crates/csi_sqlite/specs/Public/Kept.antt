-- A store in a SQLite database as its keeper tells it. This profile's own.
use Rattle.std.specs.Prelude.{⊤, ℕ}
use Rattle.sqlite.specs.State.{State, HasCleanDisk}
use Rattle.csi_stores.specs.Public.Stores.{Store}
use Rattle.csi_sqlite.specs.Public.Rows.{IsAtRest}
use Rattle.csi_sqlite.specs.Public.Tables.{HoldsParts}
use Rattle.csi_sqlite.specs.Public.Loading.{IsForeign, LeavesFound}

-- honest while the disk gave back what was written; it has the parts of its table, or the first row there that is none, all of it
-- committed; it leaves what a crash may leave, and is never full
abbrev pub sqlite_store : State → ℕ → Store
sqlite_store s faults = record {
  honest = HasCleanDisk s;
  holds = HoldsParts s;
  foreign = λ place. IsForeign s place × IsAtRest s;
  leaves = LeavesFound s;
  fits = λ content. ⊤;
  faults = faults;
}
