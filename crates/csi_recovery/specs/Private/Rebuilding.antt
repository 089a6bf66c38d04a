-- What the parts of `rebuilt` do, each by itself. This profile's own.
use Rattle.std.specs.Prelude.{ℕ, ◌+◌, ◌<◌, ◌≤◌, ◌^◌}
use Rattle.csi_fence.specs.declared.fault.RecordFault.{RecordFault}
use Rattle.csi_fence.specs.declared.fault.RecordFault.TheVariants as record_faults
use Rattle.csi_orchestrator.specs.Public.Record.{RecordParts}
use Rattle.csi_recovery.specs.declared.rebuilding_fault.RebuildingFault.{RebuildingFault}
use Rattle.csi_recovery.specs.declared.rebuilding_fault.RebuildingFault.TheVariants.{NumbersSpent, IdTaken, BadRow, NoMemory}
use Rattle.csi_recovery.specs.Public.Rebuilding.{AreBelow, IsTakenAt}

-- why no record was made, passed on
abbrev pub passed_on_record : RecordFault → RebuildingFault
passed_on_record (record_faults.BadRow place) = BadRow place
passed_on_record record_faults.NoMemory = NoMemory

-- a session is left, and the next id is above all that are known
pub record IsReady (next_id : ℕ) (kept : RecordParts) : Type 0 where
  pub session : kept.session + 1 < 2 ^ 64
  pub next : 1 ≤ next_id
  pub below : AreBelow next_id kept.rows

-- why that isn't so
abbrev pub IsUnready : ℕ → RecordParts → RebuildingFault → Type 0
IsUnready next_id kept NumbersSpent = kept.session + 1 < 2 ^ 64 → ⊥
IsUnready next_id kept (IdTaken place) = (kept.session + 1 < 2 ^ 64) × IsTakenAt next_id kept.rows place
IsUnready next_id kept (BadRow place) = ⊥
IsUnready next_id kept NoMemory = ⊥
