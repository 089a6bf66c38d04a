-- What a report lists of a world, in its order. This profile's own.
use Rattle.std.specs.Prelude.{List, Option}
use Rattle.std.specs.List.{flat_map}
use Rattle.csi_types.specs.declared.holding.Holding.{Holding}
use Rattle.csi_controller.specs.Public.Views.{attached_holdings}
use Rattle.csi_orchestrator.specs.declared.thing.Thing.{Thing}
use Rattle.csi_orchestrator.specs.declared.thing.Known.{Known}
use Rattle.csi_orchestrator.specs.Public.Listing.{ListsKnown, IsInOrder}
use Rattle.csi_orchestrator.specs.Model.Shown.{orchestrator_view}
use Rattle.csi_world.specs.declared.violation.Violation.{Violation}
use Rattle.csi_world.specs.Model.World.{World}
use Rattle.csi_world.specs.Model.Simulated.{WorldParts}
use Rattle.csi_world.specs.Public.Audited.{ArePlugins, Finds}
use Rattle.csi_reports.specs.declared.entries.StagedAt.{StagedAt}
use Rattle.csi_reports.specs.declared.entries.PublishedAt.{PublishedAt}
use Rattle.csi_reports.specs.Public.Listed.{staged_on, published_on}
use Rattle.csi_reports.specs.Public.Order.{attached_place, staged_place, published_place, IsInPlace}

-- what is attached, staged, published and known, and what an audit finds
pub record Gathered : Type 0 where
  pub attached : List Holding
  pub known : List (Thing × Known)
  pub published : List PublishedAt
  pub staged : List StagedAt
  pub found : Option Violation

-- they are this world's: each list has all that there is, in order
pub record IsGathered (world : WorldParts) (gathered : Gathered) : Type 0 where
  pub attached : IsInPlace attached_place (attached_holdings (world.controller).rows) gathered.attached
  pub known : ListsKnown (orchestrator_view world.orchestrator).marks gathered.known
  pub known_order : IsInOrder gathered.known
  pub published : IsInPlace published_place (flat_map published_on world.nodes) gathered.published
  pub staged : IsInPlace staged_place (flat_map staged_on world.nodes) gathered.staged
  pub found : (shown : World) → ArePlugins world.controller world.nodes shown → Finds (orchestrator_view world.orchestrator).marks shown gathered.found
