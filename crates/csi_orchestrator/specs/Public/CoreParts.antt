-- The parts of the orchestrator's core.
use Rattle.std.specs.Prelude.{map}
use Rattle.csi_orchestrator.specs.declared.state.OrchestratorCore.{OrchestratorCore}
use Rattle.csi_orchestrator.specs.Public.Catalog.{rows_of, IsIndexed, AreUpTo}
use Rattle.csi_orchestrator.specs.Model.Shown.{OrchestratorParts}
use Rattle.csi_orchestrator.specs.Public.Shown.{row_shown}

-- what is shown of it
abbrev pub orchestrator_parts_shown : OrchestratorCore → OrchestratorParts
orchestrator_parts_shown core = record { nodes = core.nodes.items; last = core.last; rows = map row_shown (rows_of core.catalog) }

-- the rules of its catalog, in which no call after the last one is noted
pub record IsFiled (core : OrchestratorCore) : Type 0 where
  pub indexed : IsIndexed core.catalog
  pub known : AreUpTo core.last.call core.catalog
