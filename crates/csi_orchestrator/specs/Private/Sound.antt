-- The rules of an orchestrator's rows, which its type keeps, and what follows from them. This profile's own.
use Rattle.std.specs.Prelude.{◌≡◌, Result, Ok, Err}
use Rattle.csi_orchestrator.specs.declared.fault.OrchFault.{OrchFault}
use Rattle.csi_orchestrator.specs.Model.History.{History, with_items}
use Rattle.csi_orchestrator.specs.Model.Moves.{Input, Moved, moves}
use Rattle.csi_orchestrator.specs.Model.Shown.{OrchestratorParts, Shows}
use Rattle.csi_orchestrator.specs.Public.RowMoves.{MovedRows}
use Rattle.csi_orchestrator.specs.Private.RowMoves.{row_moves}
use Rattle.csi_orchestrator.specs.Model.WellFormed.{IsWellFormed}
use Rattle.csi_orchestrator.specs.Public.Sound.{AreSoundRows, AreGuarded}
use Rattle.csi_orchestrator.specs.Public.Steady.{AreSteadyRowsIf}

-- the two answers are one, and what is shown agrees with the history that goes on so
abbrev pub MovesAgree : History → Result MovedRows OrchFault → Result Moved OrchFault → Type 0
MovesAgree history (Ok moved_rows) (Ok moved) = (moved_rows.answer ≡ moved.answer) × Shows moved_rows.parts (with_items history moved.items)
MovesAgree history (Ok moved_rows) (Err fault) = ⊥
MovesAgree history (Err fault) (Ok moved) = ⊥
MovesAgree history (Err fault) (Err other) = fault ≡ other

-- whatever comes, the rows tell what the history tells
abbrev pub RowsTell : Type 0
RowsTell = (parts : OrchestratorParts) (history : History) (input : Input) → IsWellFormed history → AreSoundRows parts.rows → AreSteadyRowsIf (Unit {0}) parts.rows → Shows parts history
    → MovesAgree history (row_moves parts input) (moves history input)

-- whatever comes, the rows keep these rules
abbrev pub RowsStaySound : Type 0
RowsStaySound = (parts : OrchestratorParts) (input : Input) (moved_rows : MovedRows) → AreSoundRows parts.rows → row_moves parts input ≡ Ok moved_rows → AreSoundRows moved_rows.parts.rows

-- whatever comes, each call that is sent may be sent
abbrev pub MovesAreGuarded : Type 0
MovesAreGuarded = (parts : OrchestratorParts) (history : History) (input : Input) (moved : Moved) → IsWellFormed history → AreSoundRows parts.rows → AreSteadyRowsIf (Unit {0}) parts.rows → Shows parts history
    → moves history input ≡ Ok moved → AreGuarded history moved.items
