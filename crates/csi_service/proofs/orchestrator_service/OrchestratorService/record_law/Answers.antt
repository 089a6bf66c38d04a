-- Rows within their limits, which keep the rules of rows, are a record; and a spelling is one record's.
use Rattle.std.proofs.Common.{◌≡◌, ap, sym, subst, arith}
use Rattle.std.specs.List.{AllByRecursion}
use Rattle.std.proofs.lemmas.List.{length-map}
use Rattle.csi_types.specs.Public.Text.{IsNodeId}
use Rattle.csi_orchestrator.specs.Model.Shown.{OrchestratorParts}
use Rattle.csi_orchestrator.specs.Public.Shown.{closed}
use Rattle.csi_records.specs.Public.OrchestratorRecords.{keyed_from, orchestrator_layout, IsOrchestratorOf}
use Rattle.csi_records.specs.Public.Spelling.{present}
use Rattle.csi_records.proofs.KeyedRows.{keyed-same}
use Rattle.csi_records.proofs.Layouts.{parts-same}
use Rattle.csi_records.proofs.OrchestratorLayouts.{orchestrator_one}
use Rattle.csi_service.specs.Public.OrchestratorServices.{ServedOrchestrator, kept_of, parts_of_orchestrator, AreFitOrchestratorRows}
use Rattle.csi_service.proofs.OrchestratorRecords.{is-its-record}
use Rattle.csi_service.proofs.orchestrator_service.OrchestratorService.record_law.Goals as goal

pub returns-clause-there : goal.returns-clause-there
returns-clause-there c = λ fit.
    let kept = c.self.inside.orchestrator in
    let same : kept ≡ c.args.self.now.orchestrator = ap (λ (service : ServedOrchestrator). service.orchestrator) c.self.view_is in
    let rules = c.rows_law.ensures in
    subst (λ (o : OrchestratorParts). IsOrchestratorOf present (parts_of_orchestrator o) (kept_of o)) same
    (is-its-record kept (omega (arith, c.session-session.ensures.value)) c.self.invariant (subst (AllByRecursion IsNodeId) c.nodes.ensures c.nodes_law.ensures) rules
    (omega (arith, rules.few, length-map kept.rows closed)) (subst (λ (o : OrchestratorParts). AreFitOrchestratorRows o.rows) (sym same) fit))

pub returns-clause-alone : goal.returns-clause-alone
returns-clause-alone c = λ parts one other spelled also.
    let same = parts-same (orchestrator_layout present) (orchestrator_one present) _ _ (keyed_from 1 one.rows) (keyed_from 1 other.rows) parts spelled also in
    let rows = keyed-same 1 one.rows other.rows same.1 in
    λ i. record { nodes = (same.0 i).nodes; session = (same.0 i).session; rows = rows i }
