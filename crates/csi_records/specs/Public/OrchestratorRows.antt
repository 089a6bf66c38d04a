-- The limits of what stands in an orchestrator's record, each by itself. This profile's own.
use Rattle.std.specs.Prelude.{◌≡◌, ℕ, ◌≤◌, true, List, length, Option, Some, None, IfSome}
use Rattle.std.specs.List.{AllByRecursion}
use Rattle.csi_types.specs.Public.Limits.{IsWord}
use Rattle.csi_types.specs.Public.Text.{IsName, IsNodeId, IsTarget}
use Rattle.csi_types.specs.Public.VolumeId.{IsVolumeId}
use Rattle.csi_orchestrator.specs.declared.request.Arguments.{Arguments}
use Rattle.csi_orchestrator.specs.declared.request.Usage.{Usage}
use Rattle.csi_orchestrator.specs.declared.row.Goal.{Goal}
use Rattle.csi_orchestrator.specs.declared.row.Goal.TheVariants.{Create, Use, Stop, Delete}
use Rattle.csi_orchestrator.specs.declared.row.TargetEntry.{TargetEntry}
use Rattle.csi_orchestrator.specs.Model.Shown.{NodeEntryShown, RowShown}
use Rattle.csi_records.specs.declared.version.RecordVersion.{RecordVersion}
use Rattle.csi_records.specs.Public.Version.{has_session}
use Rattle.csi_records.specs.Public.Records.{IsCapabilityIn}

-- what an orchestrator's head tells
pub record OrchestratorHeadShown : Type 0 where
  pub session : ℕ
  pub nodes : List (List ℕ)

-- it is within its limits, and of a version whose heads have a session: an earlier one has no record of an orchestrator
pub record IsOrchestratorHead (version : RecordVersion) (head : OrchestratorHeadShown) : Type 0 where
  pub later : has_session version ≡ true
  pub session : IsWord head.session
  pub count : length head.nodes ≤ 64
  pub nodes : AllByRecursion IsNodeId head.nodes

-- so is what a volume was to be created with
pub record AreArguments (version : RecordVersion) (arguments : Arguments) : Type 0 where
  pub required : IsWord arguments.required
  pub limit : IsWord arguments.limit
  pub count : length arguments.capabilities ≤ 8
  pub capabilities : AllByRecursion (IsCapabilityIn version) arguments.capabilities

-- so is a use
pub record IsUsage (version : RecordVersion) (usage : Usage) : Type 0 where
  pub node : IsNodeId usage.node
  pub target : IsTarget usage.target
  pub capability : IsCapabilityIn version usage.capability

-- so is a goal, if there is one
abbrev pub IsGoal : RecordVersion → Option Goal → Type 0
IsGoal version None = Unit {0}
IsGoal version (Some Create) = Unit {0}
IsGoal version (Some (Use usage)) = IsUsage version usage
IsGoal version (Some (Stop node target)) = IsNodeId node × IsTarget target
IsGoal version (Some Delete) = Unit {0}

-- so is a target's entry
abbrev pub IsTargetEntry : TargetEntry → Type 0
IsTargetEntry entry = IsTarget entry.target

-- so is a node's entry
pub record IsNodeEntry (version : RecordVersion) (entry : NodeEntryShown) : Type 0 where
  pub node : IsNodeId entry.node
  pub capability : IsCapabilityIn version entry.capability
  pub count : length entry.target_entries ≤ 16
  pub targets : AllByRecursion IsTargetEntry entry.target_entries

-- so is an orchestrator's row
pub record IsOrchestratorRow (version : RecordVersion) (row : RowShown) : Type 0 where
  pub name : IsName row.name
  pub arguments : AreArguments version row.arguments
  pub id : IfSome row.id IsVolumeId
  pub goal : IsGoal version row.goal
  pub tries : row.tries ≤ 3
  pub count : length row.node_entries ≤ 64
  pub entries : AllByRecursion (IsNodeEntry version) row.node_entries

-- so is one that has no open call, as all rows of a record
pub record IsClosedRow (version : RecordVersion) (row : RowShown) : Type 0 where
  pub fits : IsOrchestratorRow version row
  pub closed : row.open_call ≡ None
