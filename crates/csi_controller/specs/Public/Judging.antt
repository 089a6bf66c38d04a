-- Which of the rows that a record is to be made of is the first that no record has there. This profile's own.
use Rattle.std.specs.Prelude.{ℕ, ◌-◌, ◌≤◌, List, length, take}
use Rattle.csi_fence.specs.declared.fault.RecordFault.{RecordFault}
use Rattle.csi_fence.specs.declared.fault.RecordFault.TheVariants.{BadRow, NoMemory}
use Rattle.csi_controller.specs.declared.row.ControllerRow.{ControllerRow}
use Rattle.csi_controller.specs.Public.Core.{AreSoundRows, IsCurrent}

-- the rules of a record's rows, by its next id and its session
abbrev pub AreRecorded : ℕ → ℕ → List ControllerRow → Type 0
AreRecorded next_id session rows = AreSoundRows next_id rows × IsCurrent session rows

-- the row at this place, counted from 1: the rows before it keep these rules, and with it they don't
pub record IsFirstRefused (Rules : List ControllerRow → Type 0) (rows : List ControllerRow) (place : ℕ) : Type 0 where
  pub from : 1 ≤ place
  pub to : place ≤ length rows
  pub before : Rules (take (place - 1) rows)
  pub refused : Rules (take place rows) → ⊥

-- why these rows aren't made a record, where a record's keep these rules; an allocation may be refused for any
abbrev pub IsRecordRefusal : (List ControllerRow → Type 0) → List ControllerRow → RecordFault → Type 0
IsRecordRefusal Rules rows (BadRow place) = IsFirstRefused Rules rows place
IsRecordRefusal Rules rows NoMemory = Unit {0}
