-- What an orchestrator shows of itself, by its rows. This profile's own.
use Rattle.std.specs.Prelude.{ℕ, List, map, None}
use Rattle.std.specs.List.{AllByRecursion}
use Rattle.csi_orchestrator.specs.declared.row.Row.{Row}
use Rattle.csi_orchestrator.specs.Model.Shown.{RowShown, OrchestratorParts}
use Rattle.csi_orchestrator.specs.Public.Shown.{AreTargetsApart, closed}

-- a row without its open call, as it is kept and as it is shown
abbrev pub without_call : Row → Row
without_call row = record row { open_call = None }

-- the parts once every open call was given up
abbrev pub parts_in_session : ℕ → OrchestratorParts → OrchestratorParts
parts_in_session session parts = record parts { last = record { session = session; call = 0 }; rows = map closed parts.rows }

-- so it is at each node of each row
abbrev pub AreAllTargetsApart : List RowShown → Type 0
AreAllTargetsApart rows = AllByRecursion (λ (row : RowShown). AllByRecursion AreTargetsApart row.node_entries) rows
