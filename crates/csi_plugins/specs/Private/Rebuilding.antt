-- What the parts of `rebuild` do, each by itself. This profile's own.
use Rattle.std.specs.Prelude.{◌≡◌, ℕ, ◌+◌, min, List, [], ◌++◌, codes}
use Rattle.csi_controller.specs.Public.Views.{RecordParts}
use Rattle.csi_node.specs.Model.Record.{NodeParts}
use Rattle.csi_orchestrator.specs.Public.Record.{RecordParts as OrchestratorRecord}
use Rattle.csi_recovery.specs.declared.fault.RecoveryFault.{RecoveryFault}
use Rattle.csi_recovery.specs.declared.fault.RecoveryFault.TheVariants as recovery
use Rattle.csi_recovery.specs.declared.rebuilding_fault.RebuildingFault.{RebuildingFault}
use Rattle.csi_recovery.specs.declared.rebuilding_fault.RebuildingFault.TheVariants.{NumbersSpent, IdTaken, BadRow, NoMemory}
use Rattle.csi_stores.specs.Public.Content.{all_changed}
use Rattle.csi_stores.specs.Public.Part.{StoredPart, StoredChange, put_all}
use Rattle.csi_stores.specs.Public.Stores.{Store}
use Rattle.csi_service.specs.Public.Opening.{Records, controller_records}
use Rattle.csi_reports.specs.Public.Rebuildings.{IsRebuildingLine}
use Rattle.csi_streams.specs.declared.ending.Ending.{Ending}
use Rattle.csi_streams.specs.declared.ending.Ending.TheVariants as endings
use Rattle.csi_plugins.specs.Public.Recovering.{IsUnchanged, IsRecordIn}
use Rattle.csi_plugins.specs.Public.Rebuilding.{Sources, AreKept, AreSourcesRead, IsRebuiltFrom}
use Rattle.csi_plugins.specs.Private.Recovering.{IsNew}

-- the record was read of the store, which has what it had
pub record HasReadRecord {X : Type 0} (records : Records X) (before after : Store) (kept : X) : Type 0 where
  pub unchanged : IsUnchanged before after
  pub each : after.honest → (content : List StoredPart) → before.holds content → IsRecordIn records content kept

-- how a process ends where nothing is made of the orchestrator's record
abbrev pub EndsRebuilding : RebuildingFault → Ending → Type 0
EndsRebuilding NumbersSpent ending = ending ≡ endings.NumbersSpent
EndsRebuilding (IdTaken place) ending = ending ≡ endings.IdTaken
EndsRebuilding (BadRow place) ending = (part : ℕ) × (ending ≡ endings.StoreFault part 1)
EndsRebuilding NoMemory ending = ending ≡ endings.Memory

-- how it ends where the records of this many nodes don't go with what was made
abbrev pub EndsUnlike : ℕ → RecoveryFault → Ending → Type 0
EndsUnlike count (recovery.SameNode place) ending = ending ≡ endings.StoresDisagree (min place count + 1)
EndsUnlike count recovery.NotLater ending = ending ≡ endings.OlderStore
EndsUnlike count (recovery.Disagrees place) ending = ending ≡ endings.StoresDisagree (min place count + 1)
EndsUnlike count recovery.BadNodes ending = ending ≡ endings.Memory
EndsUnlike count (recovery.BadRow place) ending = ending ≡ endings.Memory
EndsUnlike count recovery.NoMemory ending = ending ≡ endings.Memory

-- the line of what was made, and a newline
pub record IsRebuildingText (kept : OrchestratorRecord) (made : RecordParts) (text : List ℕ) : Type 0 where
  pub line : List ℕ
  pub is_line : IsRebuildingLine kept made line
  pub ended : text ≡ line ++ codes "\n"

-- what is to be done where these records were read
pub record IsRebuildingPlan (next_id : ℕ) (kept : OrchestratorRecord) (given : List NodeParts) (changes : List StoredChange) (text : List ℕ) : Type 0 where
  pub made : RecordParts
  pub is_made : IsRebuiltFrom next_id kept given made
  pub of_new : changes ≡ put_all (controller_records.parts_of made)
  pub makes : all_changed (put_all (controller_records.parts_of made)) [] ≡ controller_records.parts_of made
  pub told : IsRebuildingText kept made text

-- all stores were read, and what is to be done was made
pub record IsRebuildingReady {K : Type 0} (seen : K → Store) (next_id : ℕ) (before after : Sources K) (changes : List StoredChange) (text : List ℕ) : Type 0 where
  pub orchestrators : OrchestratorRecord
  pub given : List NodeParts
  pub read : AreSourcesRead seen before after orchestrators given
  pub kept : AreKept seen before after
  pub new : IsNew (seen before.new) (seen after.new)
  pub new_unchanged : IsUnchanged (seen before.new) (seen after.new)
  pub planned : IsRebuildingPlan next_id orchestrators given changes text
