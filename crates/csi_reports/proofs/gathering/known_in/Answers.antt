-- The orchestrator is the world's.
use Rattle.std.proofs.Common.{subst}
use Rattle.csi_orchestrator.specs.Public.Listing.{ListsKnown}
use Rattle.csi_orchestrator.specs.Model.Shown.{OrchestratorParts, orchestrator_view}
use Rattle.csi_reports.proofs.gathering.known_in.Goals as goal

pub returns-in-Ok-clause-known : goal.returns-in-Ok-clause-known
returns-in-Ok-clause-known c =
    let knows : OrchestratorParts → Type 0 = λ parts. ListsKnown (orchestrator_view parts).marks c.in-Ok.things.items in
    subst knows c.orchestrator.ensures c.in-Ok.ensures.marks
