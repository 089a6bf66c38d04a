-- Two runs of a plugin, or of an orchestrator, over one store in SQLite, and three. This profile's own.
use Rattle.std.specs.Prelude.{ℕ, List, Option}
use Rattle.sqlite.specs.Held.{Held}
use Rattle.sqlite.specs.State.{State}
use Rattle.csi_stores.specs.Public.Stores.{Store}
use Rattle.csi_sqlite.specs.declared.sqlite_keep.SqliteKeep.{SqliteKeep}
use Rattle.csi_sqlite.specs.Public.Kept.{sqlite_store}
use Rattle.csi_plugins.specs.Public.Joined.{Sight, RunsLaw, ThreeRunsLaw}
use Rattle.csi_orchestration.specs.Public.OrchestratorHistories.{OrchestratorRunsLaw, OrchestratorThreeRunsLaw}

-- a store in SQLite, by what its connection shows
abbrev pub kept_in : {S : Type 0} → (Held S → State) → SqliteKeep S → Store
kept_in seen keep = sqlite_store (seen keep.connection) keep.faults

-- a store in SQLite, a reader and a writer
abbrev pub sqlite_sight : {S R W : Type 0} → (Held S → State) → (R → Option (List ℕ)) → (W → Option (List ℕ)) → Sight (SqliteKeep S) R W
sqlite_sight seen remaining contents = record { seen = kept_in seen; remaining = remaining; contents = contents }

-- two runs over one store are one run, where the store had a content, the disk is clean after each, and the second found what the first may have left
abbrev pub SqliteRunsLaw : {S T R W : Type 0} → (Held S → State) → (Held T → State) → (R → Option (List ℕ)) → (W → Option (List ℕ)) → Type 0
SqliteRunsLaw seen seen_too remaining contents = RunsLaw (sqlite_sight seen remaining contents) (sqlite_sight seen_too remaining contents)

-- so are three
abbrev pub SqliteThreeRunsLaw : {S T U R W : Type 0} → (Held S → State) → (Held T → State) → (Held U → State) → (R → Option (List ℕ)) → (W → Option (List ℕ)) → Type 0
SqliteThreeRunsLaw seen seen_too seen_last remaining contents = ThreeRunsLaw (sqlite_sight seen remaining contents) (sqlite_sight seen_too remaining contents) (sqlite_sight seen_last remaining contents)

-- the same of an orchestrator's lines, and of each history that it shows
abbrev pub SqliteOrchestratorRunsLaw : {S T R W : Type 0} → (Held S → State) → (Held T → State) → (R → Option (List ℕ)) → (W → Option (List ℕ)) → Type 0
SqliteOrchestratorRunsLaw seen seen_too remaining contents = OrchestratorRunsLaw (kept_in seen) (kept_in seen_too) remaining contents

-- of three runs
abbrev pub SqliteOrchestratorThreeRunsLaw : {S T U R W : Type 0} → (Held S → State) → (Held T → State) → (Held U → State) → (R → Option (List ℕ)) → (W → Option (List ℕ)) → Type 0
SqliteOrchestratorThreeRunsLaw seen seen_too seen_last remaining contents = OrchestratorThreeRunsLaw (kept_in seen) (kept_in seen_too) (kept_in seen_last) remaining contents
