-- Which of the rows that a record is to be made of is the first that no record has there. This profile's own.
use Rattle.std.specs.Prelude.{ℕ, ◌-◌, ◌≤◌, List, length, take, Option, Some, None}
use Rattle.csi_fence.specs.declared.fault.RecordFault.{RecordFault}
use Rattle.csi_fence.specs.declared.fault.RecordFault.TheVariants.{BadRow, NoMemory}
use Rattle.csi_node.specs.declared.row.NodeRow.{NodeRow}
use Rattle.csi_node.specs.Model.OneRow.{NodeRowShown}
use Rattle.csi_node.specs.Model.Record.{parts}
use Rattle.csi_node.specs.Public.Record.{AreSoundRows, IsCurrent}

-- the rows are a record's in which this is the greatest session that came; or where none is told, those of one that kept none
abbrev pub KeepRules : Option ℕ → List NodeRowShown → Type 0
KeepRules None rows = AreSoundRows rows
KeepRules (Some session) rows = AreSoundRows rows × IsCurrent session rows

-- the row at this place, counted from 1: the rows before it are a record's, and with it they aren't
pub record IsFirstRefused (session : Option ℕ) (rows : List NodeRow) (place : ℕ) : Type 0 where
  pub from : 1 ≤ place
  pub to : place ≤ length rows
  pub before : KeepRules session (parts (take (place - 1) rows))
  pub refused : KeepRules session (parts (take place rows)) → ⊥

-- why these rows aren't made a record; no memory is asked for
abbrev pub IsRecordRefusal : Option ℕ → List NodeRow → RecordFault → Type 0
IsRecordRefusal session rows (BadRow place) = IsFirstRefused session rows place
IsRecordRefusal session rows NoMemory = ⊥
