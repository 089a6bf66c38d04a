-- The rules of an orchestrator's row, which its type keeps: its entries are apart, what is wanted may be wanted, and the open call is the one that
-- is due. This profile's own.
use Rattle.std.specs.Prelude.{◌≡◌, false, Option, Some, None}
use Rattle.std.specs.List.{AllByRecursion}
use Rattle.csi_orchestrator.specs.declared.row.Goal.{Goal}
use Rattle.csi_orchestrator.specs.declared.row.Goal.TheVariants.{Create, Use, Stop, Delete}
use Rattle.csi_orchestrator.specs.declared.row.TargetEntry.{TargetEntry}
use Rattle.csi_orchestrator.specs.declared.request.Usage.{Usage}
use Rattle.csi_orchestrator.specs.declared.thing.Known.TheVariants.{Yes, No}
use Rattle.csi_orchestrator.specs.Model.Commands.{is_for_one_node, uses_as_second_writer}
use Rattle.csi_orchestrator.specs.Model.Due.{Due}
use Rattle.csi_orchestrator.specs.Model.Shown.{NodeEntryShown, RowShown, node_entry_of, target_entry_of}
use Rattle.csi_orchestrator.specs.Public.Shown.{AreTargetsApart, AreNodesApart}
use Rattle.csi_orchestrator.specs.Public.RowDue.{due_in, due_open}
use Rattle.csi_orchestrator.specs.Public.RowRefusals.{has_elsewhere}

-- the entries of a use
pub record HasEntry (row : RowShown) (usage : Usage) : Type 0 where
  pub node_entry : NodeEntryShown
  pub target_entry : TargetEntry
  pub at_node : node_entry_of row usage.node ≡ Some node_entry
  pub at_target : target_entry_of node_entry usage.target ≡ Some target_entry
  pub same_capability : node_entry.capability ≡ usage.capability
  pub same_flag : node_entry.readonly ≡ usage.readonly

-- a use that may be brought about: the volume is made, and can be held so beside the other holdings
pub record IsUsable (row : RowShown) (usage : Usage) : Type 0 where
  pub made : row.exists ≡ Yes
  pub entry : HasEntry row usage
  pub shared : has_elsewhere (is_for_one_node usage) usage.node row ≡ false
  pub one_writer : has_elsewhere (uses_as_second_writer usage) usage.node row ≡ false

-- what is wanted may be wanted
abbrev pub MayBeWanted : RowShown → Option Goal → Type 0
MayBeWanted row None = Unit {0}
MayBeWanted row (Some Create) = row.id ≡ None
MayBeWanted row (Some (Use usage)) = IsUsable row usage
MayBeWanted row (Some (Stop node target)) = Unit {0}
MayBeWanted row (Some Delete) = AllByRecursion (λ (entry : NodeEntryShown). entry.attached ≡ No) row.node_entries

-- the rules of one row; the open call, if it has one, is the one that is due
pub record IsSoundRow (row : RowShown) : Type 0 where
  pub nodes : AreNodesApart row.node_entries
  pub targets : AllByRecursion AreTargetsApart row.node_entries
  pub goal : MayBeWanted row row.goal
  pub open_due : (due : Due) → due_open row ≡ Some due → due_in row ≡ Some due
