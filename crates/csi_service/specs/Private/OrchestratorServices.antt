-- Which row a call of an orchestrator changed. This profile's own.
use Rattle.std.specs.Prelude.{ℕ, Option, Some, None}
use Rattle.csi_orchestrator.specs.declared.fault.Heard.{Heard}
use Rattle.csi_orchestrator.specs.declared.fault.Heard.TheVariants.{Ignored, Taken}
use Rattle.csi_service.specs.declared.orchestrator_changes.OrchestratorChanged.{OrchestratorChanged}
use Rattle.csi_service.specs.declared.orchestrator_changes.OrchestratorChanged.TheVariants.{Nothing, Row}

-- the row at a place, if one was found
abbrev pub changed_at : Option ℕ → OrchestratorChanged
changed_at None = Nothing
changed_at (Some place) = Row place

-- the same, unless the frame was ignored
abbrev pub heard_at : Option ℕ → Heard → OrchestratorChanged
heard_at found Ignored = Nothing
heard_at found (Taken sent) = changed_at found
