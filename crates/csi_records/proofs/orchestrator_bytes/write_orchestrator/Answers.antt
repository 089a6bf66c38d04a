use Rattle.std.proofs.Common.{◌≡◌, ◌≤◌, ◌<◌, ◌^◌, ◌∙◌, ℕ, List, ◌∷◌, length, map, refl, sym, ap, subst, arith}
use Rattle.std.proofs.lemmas.Result.{IfOk-weaker}
use Rattle.csi_orchestrator.specs.Public.Record.{RecordParts}
use Rattle.csi_orchestrator.specs.Public.Shown.{closed, row_shown}
use Rattle.csi_stores.specs.Public.Part.{StoredPart, all_stored_in}
use Rattle.csi_records.specs.Public.Spelling.{present, record_bytes}
use Rattle.csi_records.specs.Public.OrchestratorSpelling.{orchestrator_head}
use Rattle.csi_records.specs.Public.OrchestratorRecords.{kept_parts}
use Rattle.csi_records.specs.Public.Writing.{CanBeWritten}
use Rattle.csi_records.proofs.OrchestratorLayouts.{closed-parts, writable-rows, kept-same}
use Rattle.csi_records.proofs.ValueSizes.{orchestrator_head_size}
use Rattle.csi_records.proofs.PartReaders.{make_part}
use Rattle.csi_records.proofs.WritingPieces.{stored_put}
use Rattle.csi_records.proofs.orchestrator_bytes.write_orchestrator.Goals as goal

pub bytes_of-requires : goal.bytes_of-requires
bytes_of-requires c =
    let rows = map row_shown c.rows.result.now in
    let few : length c.nodes.result.now ≤ 64 = omega (arith, c.requires, ap length c.nodes.ensures) in
    let size =
    orchestrator_head_size present (record { session = c.session.result; nodes = c.nodes.result.now })
    (record { later = refl; session = omega arith; count = few; nodes = c.in_ok-head.ensures.fits }) in
    let short : length c.in_ok-head.head.items < 2 ^ 32 = omega (arith, size, ap length c.in_ok-head.ensures.value) in
    let count : length rows ≤ 4096 = omega (arith, c.bounds_law.ensures.rows, ap length c.rows.ensures.value) in
    let stored = ap all_stored_in c.deref.ensures.value ∙ stored_put c.in_ok-parts.parts.items _ c.in_ok-parts.ensures.parts in
    subst CanBeWritten (sym stored) (writable-rows c.in_ok-head.head.items rows short count c.in_ok-parts.ensures.fit)

pub returns : goal.returns
returns c =
    let orchestrator = c.args.orchestrator.now in
    let kept : RecordParts = record { nodes = orchestrator.nodes; session = orchestrator.last.session; rows = map closed orchestrator.rows } in
    let rows = map row_shown c.rows.result.now in
    let head : c.in_ok-head.head.items ≡ (orchestrator_head present kept.session kept.nodes).value =
    c.in_ok-head.ensures.value ∙ ap (λ (n : ℕ). (orchestrator_head present n c.nodes.result.now).value) c.session.ensures.value
    ∙ ap (λ (ns : List (List ℕ)). (orchestrator_head present kept.session ns).value) c.nodes.ensures in
    let stored : all_stored_in c.deref.result.now ≡ kept_parts kept =
    ap all_stored_in c.deref.ensures.value ∙ stored_put c.in_ok-parts.parts.items _ c.in_ok-parts.ensures.parts
    ∙ ap (λ (ps : List StoredPart). make_part 0 c.in_ok-head.head.items ∷ ps) (closed-parts 1 rows)
    ∙ kept-same kept c.in_ok-head.head.items (map closed rows) head (ap (map closed) c.rows.ensures.value) in
    IfOk-weaker c.bytes_of.result _ _ (λ bytes is. is ∙ ap (record_bytes present) stored) c.bytes_of.ensures
