-- The record of an orchestrator by its layout, and what can be written of it.
use Rattle.std.proofs.Common.{◌≡◌, ℕ, suc, ◌≤◌, List, [], ◌∷◌, ◌++◌, length, take, map, get_or, refl, sym, ap, subst, ◌∙◌, arith, ◌+◌, ◌<◌, ◌^◌}
use Rattle.std.specs.List.{AllByRecursion}
use Rattle.csi_orchestrator.specs.Model.Shown.{RowShown}
use Rattle.csi_orchestrator.specs.Public.Record.{RecordParts, AreNodesFit}
use Rattle.csi_orchestrator.specs.Public.Restored.{AreRestorable}
use Rattle.csi_orchestrator.proofs.FirstRefused.{take-kept}
use Rattle.csi_stores.specs.declared.part.Part.{Part}
use Rattle.csi_stores.specs.Public.Part.{StoredPart, stored_in, all_stored_in, IsPart}
use Rattle.csi_records.specs.declared.version.RecordVersion.{RecordVersion}
use Rattle.csi_records.specs.Public.Spelling.{present}
use Rattle.csi_records.specs.Public.OrchestratorSpelling.{KeyedRow, orchestrator_head, orchestrator_row, orchestrator_part}
use Rattle.csi_records.specs.Public.OrchestratorRows.{OrchestratorHeadShown, IsOrchestratorHead, IsOrchestratorRow}
use Rattle.csi_records.specs.Public.OrchestratorRecords.{keyed_from, IsKeyedRow, AreKeyedRows, orchestrator_layout, kept_parts}
use Rattle.csi_records.specs.Public.Records.{IsRecordOf, IsRefusedAt}
use Rattle.csi_records.specs.Private.Stopping.{IsRowUnder}
use Rattle.csi_records.proofs.OrchestratorReaders.{orchestrator_row_read, orchestrator_head_read}
use Rattle.csi_records.proofs.FieldReaders.{version-found}
use Rattle.csi_records.proofs.KeyedRows.{make_keyed, keyed-same, keyed-length, keyed-take, keyed-last}
use Rattle.csi_records.proofs.LayoutLaws.{ArePlain}
use Rattle.csi_records.proofs.Layouts.{IsOneToOne, head-refused}
use Rattle.csi_records.proofs.ValueSizes.{orchestrator_head_size, orchestrator_row_size}
use Rattle.csi_records.proofs.PartReaders.{make_part, same_part}
use Rattle.csi_records.proofs.Versions.{AreOfKind}
use Rattle.std.proofs.lemmas.List.{length-map}
use Rattle.csi_orchestrator.specs.Public.Shown.{closed}
use Rattle.csi_records.specs.Public.Writing.{CanBeWritten}

-- equal parts of rows mean equal rows under equal keys
same-keyed : (version : RecordVersion) (a b : KeyedRow) → IsKeyedRow version a → IsKeyedRow version b → orchestrator_part version a ≡ orchestrator_part version b → a ≡ b
same-keyed version a b fits fit e =
    let keys : a.key ≡ b.key = ap (λ (part : StoredPart). part.key) e in
    let values : orchestrator_row version a.row ≡ orchestrator_row version b.row = ap (λ (part : StoredPart). part.value) e in
    let rows : a.row ≡ b.row = same_part (orchestrator_row_read version 0) a.row b.row fits.row fit.row (ap (make_part 0) values) in
    ap (λ (key : ℕ). make_keyed key a.row) keys ∙ ap (make_keyed b.key) rows

-- the parts of an orchestrator's record are spelled by one value each, and a front of its rows keeps the rules
pub orchestrator_one : (version : RecordVersion) → IsOneToOne (orchestrator_layout version)
orchestrator_one version = record {
  heads = λ a b fits fit e. same_part (orchestrator_head_read version) a b fits.fits fit.fits e;
  rows = same-keyed version;
  fronts = λ head keyed k are. record { rows = take k are.rows; places = ap (take k) are.places ∙ keyed-take 1 k are.rows; rules = take-kept head.nodes are.rows k are.rules };
}

-- an orchestrator's parts are within their limits, and there are at most 4,096 rows
pub orchestrator_plain : (version : RecordVersion) → ArePlain (orchestrator_layout version)
orchestrator_plain version = record {
  heads = λ head fits. record { key = omega arith; value = omega (arith, orchestrator_head_size version head fits.fits) };
  rows = λ keyed fits. record { key = fits.key; value = omega (arith, orchestrator_row_size version keyed.row fits.row.fits) };
  few = λ head keyed are. omega (arith, are.rules.few, keyed-length 1 are.rows, ap length are.places);
}

-- an orchestrator's heads have the byte 2 behind that of their version
pub orchestrator_kind : AreOfKind orchestrator_layout 2
orchestrator_kind = record { versions = λ version head. version-found version; kinds = λ version head. refl }

-- ---- what was read

-- a head whose nodes no record may have
pub nodes-unfit : (version : RecordVersion) (head : OrchestratorHeadShown) (parts : List Part) (item : Part) → 1 ≤ length parts → item ≡ get_or parts 0 item → orchestrator_head version head.session head.nodes ≡ stored_in item
    → IsOrchestratorHead version head → (AreNodesFit head.nodes → ⊥) → IsRefusedAt (IsRecordOf (orchestrator_layout version)) (all_stored_in parts) 0
nodes-unfit version head parts item some is same fits unfit =
    head-refused (orchestrator_layout version) parts item some is
    (λ first fit there.
    let own : first ≡ head = same_part (orchestrator_head_read version) first head fit.fits fits (there ∙ sym same) in
    unfit (subst (λ (h : OrchestratorHeadShown). AreNodesFit h.nodes) own fit.nodes))

-- of rows that keep the rules the one behind so many stands under the next key
pub keyed-next : (version : RecordVersion) (rows : List RowShown) (head : OrchestratorHeadShown) (front : List KeyedRow) (keyed : KeyedRow) → IsKeyedRow version keyed → AreKeyedRows head (front ++ keyed ∷ []) → length front ≡ length (keyed_from 1 rows)
    → IsRowUnder version (suc (length rows)) keyed
keyed-next version rows head front keyed own are count = record { under = omega (arith, keyed-last 1 front keyed are.rows are.places, count, keyed-length 1 rows); is = own }

-- the first rows keep the rules where these do
pub keyed-rules : (head : OrchestratorHeadShown) (rows : List RowShown) (k : ℕ) → AreRestorable head.nodes (take k rows) → AreKeyedRows head (take k (keyed_from 1 rows))
keyed-rules head rows k rules = record { rows = take k rows; places = keyed-take 1 k rows; rules = rules }

-- and the other way round
pub rules-keyed : (head : OrchestratorHeadShown) (rows : List RowShown) (k : ℕ) → AreKeyedRows head (take k (keyed_from 1 rows)) → AreRestorable head.nodes (take k rows)
rules-keyed head rows k are = subst (AreRestorable head.nodes) (keyed-same 1 are.rows (take k rows) (sym are.places ∙ keyed-take 1 k rows)) are.rules

-- ---- what can be written

-- a head of this value and these rows are the parts of what is kept
pub kept-same : (kept : RecordParts) (head : List ℕ) (rows : List RowShown) → head ≡ (orchestrator_head present kept.session kept.nodes).value → rows ≡ kept.rows
    → make_part 0 head ∷ map (orchestrator_part present) (keyed_from 1 rows) ≡ kept_parts kept
kept-same kept head rows heads same =
    ap (λ (value : List ℕ). make_part 0 value ∷ map (orchestrator_part present) (keyed_from 1 rows)) heads
    ∙ ap (λ (rs : List RowShown). orchestrator_head present kept.session kept.nodes ∷ map (orchestrator_part present) (keyed_from 1 rs)) same

-- a row's part doesn't tell its open call
pub closed-parts : (key : ℕ) (rows : List RowShown) → map (orchestrator_part present) (keyed_from key rows) ≡ map (orchestrator_part present) (keyed_from key (map closed rows))
closed-parts key [] = refl
closed-parts key (row ∷ rows) = ap (λ (ps : List StoredPart). orchestrator_part present (make_keyed key row) ∷ ps) (closed-parts (suc key) rows)

-- rows within their limits have parts within theirs
fit-rows : (key : ℕ) (rows : List RowShown) → key + length rows < 2 ^ 64 → AllByRecursion (IsOrchestratorRow present) rows
    → AllByRecursion IsPart (map (orchestrator_part present) (keyed_from key rows))
fit-rows key [] few fits = tt
fit-rows key (row ∷ rows) few fits =
    (record { key = omega (arith, few); value = omega (arith, orchestrator_row_size present row fits.0) }, fit-rows (suc key) rows (omega (arith, few)) fits.1)

-- so a head and few such rows can be written
pub writable-rows : (head : List ℕ) (rows : List RowShown) → length head < 2 ^ 32 → length rows ≤ 4096 → AllByRecursion (IsOrchestratorRow present) rows
    → CanBeWritten (make_part 0 head ∷ map (orchestrator_part present) (keyed_from 1 rows))
writable-rows head rows short few fits = record {
  each = (record { key = omega arith; value = short }, fit-rows 1 rows (omega (arith, few)) fits);
  few = omega (arith, few, length-map (keyed_from 1 rows) (orchestrator_part present), keyed-length 1 rows);
}
