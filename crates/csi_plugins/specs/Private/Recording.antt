-- What a store has, as a line of JSON: the record of a plugin or of an orchestrator. This profile's own.
use Rattle.std.specs.Prelude.{◌≡◌, ◌++◌, ℕ, List, Result, Ok, Err, codes}
use Rattle.csi_orchestrator.specs.Public.Record.{RecordParts as OrchestratorParts}
use Rattle.csi_stores.specs.Public.Part.{StoredPart}
use Rattle.csi_reports.specs.Public.OrchestratorRecords.{IsOrchestratorLine}
use Rattle.csi_streams.specs.declared.ending.Ending.{Ending}
use Rattle.csi_streams.specs.declared.ending.Ending.TheVariants as endings
use Rattle.csi_plugins.specs.Public.Ending.{EndsAt}
use Rattle.csi_plugins.specs.Public.Recording.{IsNoneAt}

-- the line of an orchestrator's record, and a newline
pub record IsOrchestratorText (kept : OrchestratorParts) (text : List ℕ) : Type 0 where
  pub line : List ℕ
  pub is_line : IsOrchestratorLine kept line
  pub ended : text ≡ line ++ codes "\n"

-- why these parts have no line as such records
abbrev pub HasNoLine : (List StoredPart → Type 0) → List StoredPart → Ending → Type 0
HasNoLine Is parts (endings.RecordFault place) = IsNoneAt Is parts place
HasNoLine Is parts endings.Memory = Unit {0}
HasNoLine Is parts _ = ⊥

-- what a store gives that has no list of parts, but at this place what is none
abbrev pub IsNotGivenAt : {A : Type 0} → ℕ → Result A Ending → Type 0
IsNotGivenAt place (Ok line) = ⊥
IsNotGivenAt place (Err ending) = EndsAt place ending
