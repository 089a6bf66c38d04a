-- Which of the rows that a record is to be made of is the first that no record has there. This profile's own.
use Rattle.std.specs.Prelude.{ℕ, ◌-◌, ◌≤◌, List, length, take}
use Rattle.csi_orchestrator.specs.Model.Shown.{RowShown}

-- the row at this place, counted from 1: the rows before it keep these rules, and with it they don't
pub record IsFirstRefused (Rules : List RowShown → Type 0) (rows : List RowShown) (place : ℕ) : Type 0 where
  pub from : 1 ≤ place
  pub to : place ≤ length rows
  pub before : Rules (take (place - 1) rows)
  pub refused : Rules (take place rows) → ⊥
