-- What an audit of a system's parts tells: whether they are safe, where what is recorded is what the orchestrator shows. This
-- profile's own; the clauses are those of `Safe`.
use Rattle.std.specs.Prelude.{◌≡◌, ◌↔◌, ℕ, List, true, false, Option, Some, None}
use Rattle.csi_controller.specs.Model.Core.{Shows as ControllerShows}
use Rattle.csi_controller.specs.Model.Core.{ControllerParts}
use Rattle.csi_node.specs.Model.Record.{NodeParts}
use Rattle.csi_orchestrator.specs.Model.Shown.{Shows as OrchestratorShows, orchestrator_view}
use Rattle.csi_orchestrator.specs.Model.Shown.{OrchestratorParts}
use Rattle.csi_orchestrator.specs.declared.thing.Thing.{Thing}
use Rattle.csi_orchestrator.specs.declared.thing.Known.{Known}
use Rattle.csi_orchestrator.specs.declared.thing.Known.TheVariants.{Yes, No}
use Rattle.csi_world.specs.declared.violation.Violation.{Violation}
use Rattle.csi_world.specs.declared.violation.Violation.TheVariants as violations
use Rattle.csi_world.specs.Model.World.{World}
use Rattle.csi_world.specs.Model.Safe.{IsExclusive, IsStagedWhereAttached, IsPublishedWhereStaged, IsAttachedWhileLive, Safe, is_true_in}
use Rattle.csi_world.specs.Model.Simulated.{AreNodesShown}

-- the plugins are those of this world
pub record ArePlugins (plugin : ControllerParts) (parts : List NodeParts) (world : World) : Type 0 where
  pub controller : ControllerShows plugin world.controller
  pub nodes : AreNodesShown parts world.nodes

-- what is known to be so is so, and what is known not to be so isn't
pub record IsMarkedRight (marks : Thing → Known) (world : World) (thing : Thing) : Type 0 where
  pub yes : marks thing ≡ Yes → is_true_in world thing ≡ true
  pub no : marks thing ≡ No → is_true_in world thing ≡ false

-- so it is of every thing
abbrev pub AreMarkedRight : (Thing → Known) → World → Type 0
AreMarkedRight marks world = (thing : Thing) → IsMarkedRight marks world thing

-- nothing is wrong, or this is the first clause that fails
abbrev pub Finds : (Thing → Known) → World → Option Violation → Type 0
Finds marks world None =
    IsExclusive world × IsStagedWhereAttached world × IsPublishedWhereStaged world × IsAttachedWhileLive world × AreMarkedRight marks world
Finds marks world (Some violations.TwoNodes) = IsExclusive world → ⊥
Finds marks world (Some violations.StagedUnattached) = IsExclusive world × (IsStagedWhereAttached world → ⊥)
Finds marks world (Some violations.PublishedUnstaged) = IsExclusive world × IsStagedWhereAttached world × (IsPublishedWhereStaged world → ⊥)
Finds marks world (Some violations.DeletedAttached) = IsExclusive world × IsStagedWhereAttached world × IsPublishedWhereStaged world × (IsAttachedWhileLive world → ⊥)
Finds marks world (Some violations.RecordedWrong) =
    IsExclusive world × IsStagedWhereAttached world × IsPublishedWhereStaged world × IsAttachedWhileLive world × (AreMarkedRight marks world → ⊥)

-- the number of a clause
abbrev pub violation_number : Violation → ℕ
violation_number violations.TwoNodes = 1
violation_number violations.StagedUnattached = 2
violation_number violations.PublishedUnstaged = 3
violation_number violations.DeletedAttached = 4
violation_number violations.RecordedWrong = 5

-- where the orchestrator agrees with the world's history, nothing is found exactly where the world is safe
abbrev pub AuditsTellSafety : Type 0
AuditsTellSafety =
    (parts : OrchestratorParts) (world : World) (found : Option Violation) → OrchestratorShows parts world.history → Finds (orchestrator_view parts).marks world found
    → (found ≡ None) ↔ Safe world
