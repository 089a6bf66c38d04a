-- Laws of what an orchestrator does. This profile's own.
use Rattle.std.specs.Prelude.{◌≡◌, ℕ, ◌+◌, List, None}
use Rattle.csi_types.specs.declared.number.Number.{Number}
use Rattle.csi_orchestrator.specs.Model.History.{History, history_after}
use Rattle.csi_orchestrator.specs.Model.WellFormed.{IsWellFormed}
use Rattle.csi_orchestrator.specs.Model.Moves.{Input, Restarts, Restarted, moves}
use Rattle.csi_orchestrator.specs.Model.Shown.{OrchestratorParts, Shows}
use Rattle.csi_orchestrator.specs.Public.Beginning.{remembered, restart_refusal, restarted_parts}
use Rattle.csi_orchestrator.specs.Public.Moves.{moved_to}
use Rattle.csi_orchestrator.specs.Public.Promises.{FollowsUnrefused}
use Rattle.csi_orchestrator.specs.Public.Record.{RecordParts}
use Rattle.csi_orchestrator.specs.Public.Restored.{AreRestorable}
use Rattle.csi_orchestrator.specs.Public.Sound.{HasHistory}

-- the history of an orchestrator that did nothing is well-formed, and stays so whatever comes
pub record MovesKeepForm : Type 0 where
  pub first : (nodes : List (List ℕ)) (last : Number) → IsWellFormed (history_after nodes last)
  pub then : (history : History) (input : Input) → IsWellFormed history → IsWellFormed (moved_to history (moves history input))

-- what is opened from a record with these nodes: the next session, before its first call
abbrev pub opened_parts : RecordParts → List (List ℕ) → OrchestratorParts
opened_parts kept nodes = record { nodes = nodes; last = record { session = kept.session + 1; call = 0 }; rows = remembered kept.rows }

-- what is opened from a record has a history, with each list of nodes with which it isn't refused, if the record's rows keep the rules, as those of
-- every `OrchestratorRecord` do
abbrev pub RecordsLaw : Type 0
RecordsLaw = (kept : RecordParts) (nodes : List (List ℕ)) → AreRestorable kept.nodes kept.rows → restart_refusal kept.session kept.nodes nodes kept.rows ≡ None → HasHistory (opened_parts kept nodes)

-- from each history that the parts show, a restart with a list of nodes that isn't refused is what `moves` says, and leads to parts that are shown then
abbrev pub RestartsAreTold : OrchestratorParts → Type 0
RestartsAreTold parts =
    (history : History) (nodes : List (List ℕ)) → IsWellFormed history → Shows parts history → restart_refusal parts.last.session parts.nodes nodes parts.rows ≡ None
    → FollowsUnrefused history (moves history (Restarts nodes)) Restarted (restarted_parts nodes parts)
