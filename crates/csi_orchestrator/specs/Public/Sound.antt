-- The rules of an orchestrator's rows, which its type keeps, and what follows from them. This profile's own.
use Rattle.std.specs.Prelude.{◌≡◌, ◌≢◌, List, [], ◌∷◌, false, None}
use Rattle.std.specs.List.{AllByRecursion}
use Rattle.csi_types.specs.Model.Members.{EachTwo}
use Rattle.csi_types.specs.Model.Same.{same_text}
use Rattle.csi_orchestrator.specs.declared.row.TargetEntry.{TargetEntry}
use Rattle.csi_orchestrator.specs.declared.thing.Known.TheVariants.{No}
use Rattle.csi_orchestrator.specs.Model.History.{History, with_items, Item, Started, Lost, Forgotten, Sent, Accepted, Closed, Noted}
use Rattle.csi_orchestrator.specs.Model.Shown.{NodeEntryShown, RowShown, OrchestratorParts, Shows}
use Rattle.csi_orchestrator.specs.Model.WellFormed.{IsWellFormed}
use Rattle.csi_orchestrator.specs.Public.Bounds.{IsWithin}
use Rattle.csi_orchestrator.specs.Public.Guards.{MayIssue}
use Rattle.csi_orchestrator.specs.Public.Steady.{AreSteadyRows}
use Rattle.csi_orchestrator.specs.Public.Steps.{IsReached}
pub use Rattle.csi_orchestrator.specs.Public.Shown.{AreNodesApart}
pub use Rattle.csi_orchestrator.specs.Public.RowRules.{HasEntry, IsUsable, MayBeWanted, IsSoundRow}

-- an entry of a node is needed: where the volume isn't attached or staged there, it may be published there, and so it may be at each
-- target that has an entry
pub record IsNeeded (entry : NodeEntryShown) : Type 0 where
  pub node : entry.attached ≡ No → entry.staged ≡ No → entry.target_entries ≢ []
  pub targets : AllByRecursion (λ (target_entry : TargetEntry). target_entry.published ≢ No) entry.target_entries

-- where nothing is wanted of the volume, each entry is needed
abbrev pub KeepsWhatIsNeeded : RowShown → Type 0
KeepsWhatIsNeeded row = row.goal ≡ None → AllByRecursion IsNeeded row.node_entries

-- the rules of all rows: a name has one, and each keeps its own
pub record AreSoundRows (rows : List RowShown) : Type 0 where
  pub names : EachTwo (λ (a b : RowShown). same_text a.name b.name ≡ false) rows
  pub each : AllByRecursion IsSoundRow rows

-- an orchestrator came to this history, and they agree with it
pub record HasHistory (parts : OrchestratorParts) : Type 0 where
  pub history : History
  pub reached : IsReached history
  pub form : IsWellFormed history
  pub agrees : Shows parts history

-- what an orchestrator's type keeps of what it shows
pub record AreSoundParts (parts : OrchestratorParts) : Type 0 where
  pub sound : AreSoundRows parts.rows
  pub steady : AreSteadyRows parts.rows
  pub within : IsWithin parts
  pub told : HasHistory parts

-- each call among these items may be sent after what stands before it
abbrev pub AreGuarded : History → List Item → Type 0
AreGuarded history [] = Unit {0}
AreGuarded history (Started session nodes ∷ older) = AreGuarded history older
AreGuarded history (Lost node ∷ older) = AreGuarded history older
AreGuarded history (Forgotten name ∷ older) = AreGuarded history older
AreGuarded history (Sent issued ∷ older) = MayIssue (with_items history older) issued.name issued.party issued.call × AreGuarded history older
AreGuarded history (Accepted number status id ∷ older) = AreGuarded history older
AreGuarded history (Closed number ∷ older) = AreGuarded history older
AreGuarded history (Noted name goal ∷ older) = AreGuarded history older
