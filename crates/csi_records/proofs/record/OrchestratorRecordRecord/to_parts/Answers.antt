use Rattle.std.proofs.Common.{◌≡◌, ◌∙◌, ap, map, arith, List, ℕ, subst, refl}
use Rattle.std.specs.List.{AllByRecursion}
use Rattle.std.proofs.lemmas.Result.{IfOk-weaker}
use Rattle.csi_types.specs.Public.Text.{IsNodeId}
use Rattle.csi_orchestrator.specs.Public.Shown.{row_shown}
use Rattle.csi_stores.specs.Public.Part.{put_all}
use Rattle.csi_records.specs.Public.Spelling.{present}
use Rattle.csi_records.specs.Public.OrchestratorSpelling.{orchestrator_head}
use Rattle.csi_records.specs.Public.OrchestratorRows.{IsOrchestratorRow}
use Rattle.csi_records.specs.Public.OrchestratorRecords.{orchestrator_layout, kept_parts, keyed_from}
use Rattle.csi_records.proofs.WritingPieces.{stored_put}
use Rattle.csi_records.proofs.PluginLayouts.{writable}
use Rattle.csi_records.proofs.OrchestratorLayouts.{kept-same, orchestrator_plain}
use Rattle.csi_records.proofs.Layouts.{is-record}
use Rattle.csi_records.proofs.KeyedRows.{keyed-each}
use Rattle.csi_records.proofs.record.OrchestratorRecordRecord.to_parts.Goals as goal

pub keyed_parts-requires : goal.keyed_parts-requires
keyed_parts-requires c = c.rows.ensures.few

pub returns-clause-changes : goal.returns-clause-changes
returns-clause-changes c =
    let kept = c.args.self.now in
    let head : c.in_ok-head.head.items ≡ (orchestrator_head present kept.session kept.nodes).value =
    c.in_ok-head.ensures.value ∙ ap (λ (n : ℕ). (orchestrator_head present n c.nodes.result.now).value) c.session.ensures ∙ ap (λ (ns : List (List ℕ)). (orchestrator_head present kept.session ns).value) c.nodes.ensures.value in
    IfOk-weaker c.keyed_parts.result _ _ (λ parts changes. changes ∙ ap put_all (kept-same kept c.in_ok-head.head.items (map row_shown c.rows.result.now) head c.rows.ensures.value)) c.keyed_parts.ensures.parts

pub returns-clause-stored : goal.returns-clause-stored
returns-clause-stored c = IfOk-weaker c.keyed_parts.result _ _ (λ parts changes. stored_put parts.items (kept_parts c.args.self.now) changes) (returns-clause-changes c)

pub returns-clause-parts : goal.returns-clause-parts
returns-clause-parts c =
    let kept = c.args.self.now in
    let ids = subst (AllByRecursion IsNodeId) c.nodes.ensures.value c.in_ok-head.ensures.fits in
    IfOk-weaker c.keyed_parts.result _ _
    (λ parts each. is-record (orchestrator_layout present) (record { session = kept.session; nodes = kept.nodes }) (keyed_from 1 kept.rows)
    (record { fits = record { later = refl; session = omega arith; count = c.nodes.ensures.fit.few; nodes = ids }; nodes = c.nodes.ensures.fit })
    (keyed-each present kept.nodes 1 kept.rows (omega (arith, c.rows.ensures.kept.few)) c.rows.ensures.kept.each (subst (AllByRecursion (IsOrchestratorRow present)) c.rows.ensures.value each))
    (record { rows = kept.rows; places = refl; rules = c.rows.ensures.kept }))
    c.keyed_parts.ensures.fit

pub returns-clause-writable : goal.returns-clause-writable
returns-clause-writable c = IfOk-weaker c.keyed_parts.result _ _ (λ parts is. writable (orchestrator_layout present) (orchestrator_plain present) _ is) (returns-clause-parts c)
