-- The call that is due for a row, by what it knows of what its goal names. This profile's own. The law `DueIsTold` says that this
-- is what `Due.antt` says by the history.
use Rattle.std.specs.Prelude.{◌≡◌, ℕ, List, option_and_then}
use Rattle.csi_orchestrator.specs.Model.History.{History}
use Rattle.csi_orchestrator.specs.Model.Due.{due_call}
use Rattle.csi_orchestrator.specs.Model.Shown.{OrchestratorParts, row_of, Shows}
use Rattle.csi_orchestrator.specs.Private.Shown.{AreAllTargetsApart}
use Rattle.csi_orchestrator.specs.Public.RowDue.{due_in}

-- the call that is due for a name, as the history tells it, is read from the name's row
abbrev pub DueIsTold : Type 0
DueIsTold =
    (parts : OrchestratorParts) (history : History) (name : List ℕ) → AreAllTargetsApart parts.rows → Shows parts history
    → due_call history name ≡ option_and_then due_in (row_of parts.rows name)
