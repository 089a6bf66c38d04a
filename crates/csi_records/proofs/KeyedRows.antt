-- An orchestrator's rows under the keys from one on, and their parts, read and written one after another.
use Rattle.std.proofs.Common.{◌≡◌, ℕ, zero, suc, ◌+◌, ◌<◌, ◌^◌, List, [], ◌∷◌, ◌++◌, length, take, map, refl, sym, ap, ◌∙◌, arith, get_or, subst}
use Rattle.std.specs.List.{AllByRecursion}
use Rattle.csi_orchestrator.specs.Model.Shown.{RowShown}
use Rattle.csi_orchestrator.specs.Public.Restored.{IsRestorable}
use Rattle.csi_records.specs.declared.version.RecordVersion.{RecordVersion}
use Rattle.csi_records.specs.Public.OrchestratorSpelling.{KeyedRow, orchestrator_part}
use Rattle.csi_records.specs.Public.OrchestratorRows.{IsOrchestratorRow}
use Rattle.csi_records.specs.Public.OrchestratorRecords.{keyed_from, IsKeyedRow}
use Rattle.std.proofs.lemmas.List.{length-map, length-take-le, map_push}
use Rattle.csi_types.proofs.Each.{each-append_one}
use Rattle.csi_orchestrator.specs.declared.row.Row.{Row}
use Rattle.csi_orchestrator.specs.Public.Shown.{row_shown}
use Rattle.csi_stores.specs.declared.part.Part.{Part}
use Rattle.csi_stores.specs.Public.Part.{StoredPart, StoredChange, stored_in, all_stored_in, put_all}
use Rattle.csi_records.specs.Public.Spelling.{present}
use Rattle.csi_records.proofs.WritingPieces.{one_more, one_more_told, put-push}

-- a row under a key, of the two
abbrev pub make_keyed : ℕ → RowShown → KeyedRow
make_keyed key row = record { key = key; row = row }

-- rows under keys are the rows
rows-keyed : (key : ℕ) (rows : List RowShown) → map (λ (keyed : KeyedRow). keyed.row) (keyed_from key rows) ≡ rows
rows-keyed key [] = refl
rows-keyed key (row ∷ rows) = ap (λ (rs : List RowShown). row ∷ rs) (rows-keyed (suc key) rows)

-- the same rows stand under the same keys
pub keyed-same : (key : ℕ) (rows others : List RowShown) → keyed_from key rows ≡ keyed_from key others → rows ≡ others
keyed-same key rows others e = sym (rows-keyed key rows) ∙ ap (map (λ (keyed : KeyedRow). keyed.row)) e ∙ rows-keyed key others

-- as many stand under keys
pub keyed-length : (key : ℕ) (rows : List RowShown) → length (keyed_from key rows) ≡ length rows
keyed-length key [] = refl
keyed-length key (row ∷ rows) = omega (arith, keyed-length (suc key) rows)

-- the first of them stand under the first keys
pub keyed-take : (key k : ℕ) (rows : List RowShown) → take k (keyed_from key rows) ≡ keyed_from key (take k rows)
keyed-take key zero rows = refl
keyed-take key (suc k) [] = refl
keyed-take key (suc k) (row ∷ rows) = ap (λ (ks : List KeyedRow). make_keyed key row ∷ ks) (keyed-take (suc key) k rows)

-- one row more stands under the next key
pub keyed-push : (key : ℕ) (rows : List RowShown) (row : RowShown) → keyed_from key (rows ++ row ∷ []) ≡ keyed_from key rows ++ make_keyed (key + length rows) row ∷ []
keyed-push key [] row = let same : key ≡ key + 0 = omega arith in ap (λ (k : ℕ). make_keyed k row ∷ []) same
keyed-push key (first ∷ rows) row =
    let same : suc key + length rows ≡ key + suc (length rows) = omega arith in
    ap (λ (ks : List KeyedRow). make_keyed key first ∷ ks) (keyed-push (suc key) rows row ∙ ap (λ (k : ℕ). keyed_from (suc key) rows ++ make_keyed k row ∷ []) same)

-- the last of them stands under the key that counts those before it
pub keyed-last : (key : ℕ) (front : List KeyedRow) (last : KeyedRow) (rows : List RowShown) → front ++ last ∷ [] ≡ keyed_from key rows → last.key ≡ key + length front
keyed-last key [] last [] e = absurd cc
keyed-last key [] last (row ∷ rows) e =
    let same : last ≡ make_keyed key row = cc in
    let own : last.key ≡ key = ap (λ (keyed : KeyedRow). keyed.key) same in
    omega (arith, own)
keyed-last key (first ∷ front) last [] e = absurd cc
keyed-last key (first ∷ front) last (row ∷ rows) e =
    let rest : front ++ last ∷ [] ≡ keyed_from (suc key) rows = cc in
    omega (arith, keyed-last (suc key) front last rows rest)

-- rows of a record within their limits are so under keys of 64 bits
pub keyed-each : (version : RecordVersion) (nodes : List (List ℕ)) (key : ℕ) (rows : List RowShown) → key + length rows < 2 ^ 64 → AllByRecursion (IsRestorable nodes) rows
    → AllByRecursion (IsOrchestratorRow version) rows → AllByRecursion (IsKeyedRow version) (keyed_from key rows)
keyed-each version nodes key [] few kept fits = tt
keyed-each version nodes key (row ∷ rows) few kept fits =
    (record { key = omega (arith, few); row = record { fits = fits.0; closed = kept.0.quiet } }, keyed-each version nodes (suc key) rows (omega (arith, few)) kept.1 fits.1)

-- ---- read and written one after another

-- rows under the keys from 1 on, as they are shown
abbrev pub keyed_rows : List Row → List KeyedRow
keyed_rows rows = keyed_from 1 (map row_shown rows)

-- one row more stands under the next place
keyed-more : (rows : List Row) (row : Row) (place : ℕ) → place ≡ length rows + 1 → keyed_rows (rows ++ row ∷ []) ≡ keyed_rows rows ++ make_keyed place (row_shown row) ∷ []
keyed-more rows row place is =
    let count : 1 + length (map row_shown rows) ≡ place = omega (arith, length-map rows row_shown, is) in
    ap (keyed_from 1) (map_push row_shown rows row) ∙ keyed-push 1 (map row_shown rows) (row_shown row)
    ∙ ap (λ (key : ℕ). keyed_rows rows ++ make_keyed key (row_shown row) ∷ []) count

-- the parts before a place are these rows'
pub record ReadSoFar (version : RecordVersion) (rows : List Row) (parts : List Part) (index : ℕ) : Type 0 where
  pub fit : AllByRecursion (IsKeyedRow version) (keyed_rows rows)
  pub are : map (orchestrator_part version) (keyed_rows rows) ≡ all_stored_in (take index parts)

-- so they are with the next one
pub one_more_read : (version : RecordVersion) (rows : List Row) (row : Row) (parts : List Part) (index : ℕ) (part : Part) (place : ℕ) → index < length parts → part ≡ get_or parts index part
    → place ≡ length rows + 1 → ReadSoFar version rows parts index → IsKeyedRow version (make_keyed place (row_shown row)) → orchestrator_part version (make_keyed place (row_shown row)) ≡ stored_in part
    → ReadSoFar version (rows ++ row ∷ []) parts (index + 1)
one_more_read version rows row parts index part place inside is place_is so fits same =
    let keyed = make_keyed place (row_shown row) in
    let more : keyed_rows (rows ++ row ∷ []) ≡ keyed_rows rows ++ keyed ∷ [] = keyed-more rows row place place_is in
    let stored : all_stored_in (take (index + 1) parts) ≡ all_stored_in (take index parts) ++ stored_in part ∷ [] =
    ap all_stored_in (one_more parts index part inside is) ∙ map_push stored_in (take index parts) part in
    record {
      fit = subst (AllByRecursion (IsKeyedRow version)) (sym more) (each-append_one (IsKeyedRow version) (keyed_rows rows) keyed so.fit fits);
      are =
          ap (map (orchestrator_part version)) more ∙ map_push (orchestrator_part version) (keyed_rows rows) keyed
          ∙ ap (λ (ps : List StoredPart). ps ++ orchestrator_part version keyed ∷ []) so.are
          ∙ ap (λ (p : StoredPart). all_stored_in (take index parts) ++ p ∷ []) same ∙ sym stored;
    }

-- where the parts of the first rows are put in and the next row's part is, those of one row more are
pub one_more_keyed : (rows : List Row) (index : ℕ) (row : Row) (place : ℕ) (old before after : List StoredChange) → index < length rows → row ≡ get_or rows index row → place ≡ index + 1
    → before ≡ old ++ put_all (map (orchestrator_part present) (keyed_rows (take index rows))) → after ≡ before ++ put_all (orchestrator_part present (make_keyed place (row_shown row)) ∷ [])
    → after ≡ old ++ put_all (map (orchestrator_part present) (keyed_rows (take (index + 1) rows)))
one_more_keyed rows index row place old before after inside is place_is =
    let so_many : length (take index rows) ≡ index = length-take-le index rows (omega (arith, inside)) in
    let keyed = make_keyed place (row_shown row) in
    let rows_so_far = keyed_rows (take index rows) in
    one_more_told (λ xs. put_all (map (orchestrator_part present) (keyed_rows xs))) rows index row (put_all (orchestrator_part present keyed ∷ [])) old before after inside is
    (ap (λ ks. put_all (map (orchestrator_part present) ks)) (keyed-more (take index rows) row place (omega (arith, so_many, place_is))) ∙ ap put_all (map_push (orchestrator_part present) rows_so_far keyed)
    ∙ put-push (map (orchestrator_part present) rows_so_far) (orchestrator_part present keyed))
