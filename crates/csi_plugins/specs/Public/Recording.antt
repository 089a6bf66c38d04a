-- What a store has, as a line of JSON: the record of a plugin or of an orchestrator. This profile's own.
use Rattle.std.specs.Prelude.{◌≡◌, ◌⊎◌, ℕ, List, [], ◌++◌, codes, None, Option}
use Rattle.std.specs.Io.KnownBytes.{Appends}
use Rattle.serde_json.specs.Written.{compact_text}
use Rattle.csi_stores.specs.Public.Counting.{HasRisen}
use Rattle.csi_stores.specs.Public.Writing.{WritesFront}
use Rattle.csi_stores.specs.declared.counted.Counted.{Counted}
use Rattle.csi_controller.specs.Public.Views.{RecordParts}
use Rattle.csi_node.specs.Model.Record.{NodeParts}
use Rattle.csi_orchestrator.specs.Public.Record.{RecordParts as OrchestratorParts}
use Rattle.csi_stores.specs.Public.Part.{StoredPart}
use Rattle.csi_stores.specs.Public.Stores.{Store}
use Rattle.csi_records.specs.declared.version.RecordVersion.{RecordVersion}
use Rattle.csi_records.specs.Public.Records.{IsControllerOf, IsNodeOf, IsControllerRecord, IsNodeRecord, IsRecordOf, IsInSome, IsRefusedAt}
use Rattle.csi_records.specs.Public.OrchestratorRecords.{orchestrator_layout, IsOrchestratorOf}
use Rattle.csi_reports.specs.Public.Records.{controller_entry, node_entry}
use Rattle.csi_reports.specs.Public.OrchestratorRecords.{IsOrchestratorLine}
use Rattle.csi_streams.specs.declared.ending.Ending.{Ending}
use Rattle.csi_streams.specs.declared.ending.Ending.TheVariants as endings

-- these parts are read as the record of a controller, of a node or of an orchestrator, in some version, and this is its line
pub data IsLineOf (parts : List StoredPart) : List ℕ → Type 0 where
  of_controller : (version : RecordVersion) (kept : RecordParts) → IsControllerOf version parts kept → IsLineOf parts (compact_text (controller_entry kept) ++ codes "\n")
  of_node : (version : RecordVersion) (kept : NodeParts) → IsNodeOf version None parts kept → IsLineOf parts (compact_text (node_entry kept) ++ codes "\n")
  of_orchestrator : (version : RecordVersion) (kept : OrchestratorParts) (line : List ℕ) → IsOrchestratorOf version parts kept → IsOrchestratorLine kept line → IsLineOf parts (line ++ codes "\n")

-- they are the record of an orchestrator, in some version
abbrev pub IsOrchestratorRecord : List StoredPart → Type 0
IsOrchestratorRecord = IsInSome (λ version. IsRecordOf (orchestrator_layout version))

-- or of a node
abbrev pub IsNodeOrOrchestrator : List StoredPart → Type 0
IsNodeOrOrchestrator parts = IsNodeRecord None parts ⊎ IsOrchestratorRecord parts

-- or of a controller
abbrev pub IsSomeRecord : List StoredPart → Type 0
IsSomeRecord parts = IsControllerRecord parts ⊎ IsNodeOrOrchestrator parts

-- they are none of these, and the part at this place, from 0, is the first that is refused; where there are none, that is 0
abbrev pub IsNoneAt : (List StoredPart → Type 0) → List StoredPart → ℕ → Type 0
IsNoneAt Is parts place = ((parts ≡ []) × (place ≡ 0)) ⊎ IsRefusedAt Is parts place

-- they are no record
abbrev pub IsNoRecordAt : List StoredPart → ℕ → Type 0
IsNoRecordAt parts place = IsNoneAt IsSomeRecord parts place

-- why a store gives none: the device only where it failed in this call
abbrev pub IsNotTold : Store → Store → Ending → Type 0
IsNotTold before after (endings.RecordFault place) = after.honest → (content : List StoredPart) → before.holds content → IsNoRecordAt content place
IsNotTold before after endings.Memory = Unit {0}
IsNotTold before after endings.Device = HasRisen before.faults after.faults
IsNotTold before after _ = ⊥

-- this is the line of what the store has
abbrev pub IsRecordTold : Store → Store → List ℕ → Type 0
IsRecordTold before after line = after.honest → (content : List StoredPart) → before.holds content → IsLineOf content line

-- what a counted writer took, and how often it failed
pub record Writer : Type 0 where
  pub contents : Option (List ℕ)
  pub faults : ℕ

-- a counted writer, by what it took and how often it failed
abbrev pub written_by : {W : Type 0} → (W → Option (List ℕ)) → Counted W → Writer
written_by contents writer = record { contents = contents writer.inner; faults = writer.faults }

-- How a store's record is told: its line was written whole, or a front of it where the writer failed; else nothing was.
abbrev pub WritesRecordLine : Store → Store → Writer → Writer → Ending → Type 0
WritesRecordLine before after had has endings.Done = ((line : List ℕ) × IsRecordTold before after line × Appends had.contents has.contents line) × (has.faults ≡ had.faults)
WritesRecordLine before after had has endings.Device = ((has ≡ had) × HasRisen before.faults after.faults) ⊎ (((line : List ℕ) × IsRecordTold before after line × WritesFront had.contents has.contents line) × HasRisen had.faults has.faults)
WritesRecordLine before after had has ending = (has ≡ had) × IsNotTold before after ending
