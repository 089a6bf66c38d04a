-- Where a session begins, what is told leads from the parts before it to those after it: all of them, where names were forgotten.
use Rattle.std.proofs.Common.{◌≡◌, ◌∙◌, sym, ap, refl, ℕ, zero, suc, ◌<◌, ◌≤◌, ◌+◌, ◌-◌, ◌==◌, Bool, true, false, cond, not, List, [], ◌∷◌, ◌++◌, append_assoc, map, filter, length, arith, Ok}
use Rattle.std.specs.Prelude.{None}
use Rattle.std.specs.List.{AllByRecursion}
use Rattle.std.proofs.lemmas.Bool.{eqb-true}
use Rattle.std.proofs.lemmas.List.{length-map, map-append}
use Rattle.csi_types.proofs.Filters.{filter-no_longer}
use Rattle.csi_types.proofs.Pairs.{two-filter}
use Rattle.csi_types.specs.Model.Same.{same_text}
use Rattle.csi_orchestrator.specs.Model.Moves.{without_node}
use Rattle.csi_orchestrator.specs.Model.Shown.{RowShown, OrchestratorParts}
use Rattle.csi_orchestrator.specs.Public.Beginning.{is_row_forgotten, remembered}
use Rattle.csi_orchestrator.specs.Public.Laws.{opened_parts}
use Rattle.csi_orchestrator.specs.Public.Raised.{raised_record}
use Rattle.csi_orchestrator.specs.Public.Record.{RecordParts, AreNodesFit}
use Rattle.csi_orchestrator.specs.Public.Restored.{IsRestorable}
use Rattle.csi_orchestrator.specs.declared.row.Row.{Row}
use Rattle.csi_orchestrator.specs.Public.Shown.{row_shown, closed}
use Rattle.csi_stores.specs.Public.Part.{StoredPart, StoredChange, put_all, take_all}
use Rattle.csi_stores.specs.Public.Content.{all_changed}
use Rattle.csi_records.specs.Public.OrchestratorRecords.{keyed_from, kept_parts}
use Rattle.csi_records.specs.Public.OrchestratorSpelling.{orchestrator_head, orchestrator_part}
use Rattle.csi_records.specs.Public.Spelling.{present}
use Rattle.csi_service.specs.declared.orchestrator_changes.OrchestratorChanged.TheVariants.{Head, Whole}
use Rattle.csi_service.specs.Public.OrchestratorServices.{ServedOrchestrator, parts_of_orchestrator, keys_from, whole_change, session_changes, orchestrator_changes_of, TellsChanges}
use Rattle.csi_service.proofs.RisingParts.{put-head}
use Rattle.csi_service.proofs.StayingRows.{take-first, behind-first}

-- ---- rows under keys

-- the part of a row
abbrev row_part : ℕ → RowShown → StoredPart
row_part key row = orchestrator_part present (record { key = key; row = row })

-- the parts of rows under the keys from one on
abbrev keyed_parts : ℕ → List RowShown → List StoredPart
keyed_parts key rows = map (orchestrator_part present) (keyed_from key rows)

-- they are above each key before
above : (low key : ℕ) (rows : List RowShown) → low < key → AllByRecursion (λ (later : StoredPart). low < later.key) (keyed_parts key rows)
above low key [] less = tt
above low key (row ∷ rows) less = (less, above low (suc key) rows (omega (arith, less)))

-- so are changes that put them in, and then take out so many keys
above-told : (low key next count : ℕ) (rows : List RowShown) → low < key → low < next
    → AllByRecursion (λ (change : StoredChange). low < change.key) (put_all (keyed_parts key rows) ++ take_all (keys_from next count))
above-told low key next zero [] less less_too = tt
above-told low key next (suc count) [] less less_too = (less_too, above-told low key (suc next) count [] less (omega (arith, less_too)))
above-told low key next count (row ∷ rows) less less_too = (less, above-told low (suc key) next count rows (omega (arith, less)) less_too)

-- rows, put in, and so many keys behind them, taken out, are all that is there of as many rows
rows-told : (key next count : ℕ) (olds news : List RowShown) → next ≡ key + length news → count ≡ length olds - length news
    → all_changed (put_all (keyed_parts key news) ++ take_all (keys_from next count)) (keyed_parts key olds) ≡ keyed_parts key news
rows-told key next count [] [] from all = let none : count ≡ 0 = omega (arith, all) in rw none refl
rows-told key next count (old ∷ olds) [] from all =
    let own : next ≡ key = omega (arith, from) in
    let more : count ≡ suc (length olds) = omega (arith, all) in
    rw (own, more) (ap (all_changed (take_all (keys_from (suc key) (length olds)))) (take-first (row_part key old) (keyed_parts (suc key) olds) (above key (suc key) olds (omega arith)))
    ∙ rows-told (suc key) (suc key) (length olds) olds [] (omega arith) (omega arith))
rows-told key next count [] (new ∷ news) from all =
    behind-first (row_part key new) (put_all (keyed_parts (suc key) news) ++ take_all (keys_from next count)) [] (above-told key (suc key) next count news (omega arith) (omega (arith, from)))
    ∙ ap (λ (ps : List StoredPart). row_part key new ∷ ps) (rows-told (suc key) next count [] news (omega (arith, from)) (omega (arith, all)))
rows-told key next count (old ∷ olds) (new ∷ news) from all =
    ap (all_changed (put_all (keyed_parts (suc key) news) ++ take_all (keys_from next count))) (put-head (row_part key new) (row_part key old) (keyed_parts (suc key) olds) refl)
    ∙ behind-first (row_part key new) (put_all (keyed_parts (suc key) news) ++ take_all (keys_from next count)) (keyed_parts (suc key) olds) (above-told key (suc key) next count news (omega arith) (omega (arith, from)))
    ∙ ap (λ (ps : List StoredPart). row_part key new ∷ ps) (rows-told (suc key) next count olds news (omega (arith, from)) (omega (arith, all)))

-- ---- so many keys

-- one key more, behind them
keys-more : (key count : ℕ) → keys_from key (suc count) ≡ keys_from key count ++ (key + count) ∷ []
keys-more key zero = let same : key ≡ key + 0 = omega arith in ap (λ (k : ℕ). k ∷ []) same
keys-more key (suc count) =
    let same : suc key + count ≡ key + suc count = omega arith in
    ap (λ (ks : List ℕ). key ∷ ks) (keys-more (suc key) count ∙ ap (λ (k : ℕ). keys_from (suc key) count ++ k ∷ []) same)

-- where the keys behind so many rows are taken out up to a place, and the next one is, they are up to the next place
pub one-more-behind : (now place : ℕ) (old before after : List StoredChange) → now ≤ place → before ≡ old ++ take_all (keys_from (now + 1) (place - now)) → after ≡ before ++ take_all ((place + 1) ∷ [])
    → after ≡ old ++ take_all (keys_from (now + 1) (place + 1 - now))
one-more-behind now place old before after low so_far one =
    let keys = keys_from (now + 1) (place - now) in
    let key : now + 1 + (place - now) ≡ place + 1 = omega (arith, low) in
    let count : suc (place - now) ≡ place + 1 - now = omega (arith, low) in
    let more : keys ++ (place + 1) ∷ [] ≡ keys_from (now + 1) (place + 1 - now) =
    ap (λ (k : ℕ). keys ++ k ∷ []) (sym key) ∙ sym (keys-more (now + 1) (place - now)) ∙ ap (keys_from (now + 1)) count in
    one ∙ ap (λ (cs : List StoredChange). cs ++ take_all ((place + 1) ∷ [])) so_far ∙ append_assoc old (take_all keys) (take_all ((place + 1) ∷ []))
    ∙ ap (λ (cs : List StoredChange). old ++ cs) (sym (map-append take_one keys ((place + 1) ∷ [])))
    ∙ ap (λ (ks : List ℕ). old ++ take_all ks) more
  where
    take_one : ℕ → StoredChange
    take_one n = record { key = n; value = None }

-- ---- a whole record

-- the head of an orchestrator
abbrev head_of : OrchestratorParts → StoredPart
head_of parts = orchestrator_head present parts.last.session parts.nodes

-- all of the new parts, put in, and the keys behind them, taken out, lead from the old parts to the new ones
whole-told : (old new : OrchestratorParts) (before : ℕ) → before ≡ length old.rows → all_changed (whole_change before new) (parts_of_orchestrator old) ≡ parts_of_orchestrator new
whole-told old new before is =
    let next = length new.rows + 1 in
    let count = before - length new.rows in
    let told = put_all (keyed_parts 1 (map closed new.rows)) ++ take_all (keys_from next count) in
    ap (all_changed told) (put-head (head_of new) (head_of old) (keyed_parts 1 (map closed old.rows)) refl)
    ∙ behind-first (head_of new) told (keyed_parts 1 (map closed old.rows)) (above-told 0 1 next count (map closed new.rows) (omega arith) (omega arith))
    ∙ ap (λ (ps : List StoredPart). head_of new ∷ ps)
    (rows-told 1 next count (map closed old.rows) (map closed new.rows) (omega (arith, length-map new.rows closed)) (omega (arith, is, length-map old.rows closed, length-map new.rows closed)))

-- a row's open call isn't in its part
closed-parts : (key : ℕ) (rows : List RowShown) → keyed_parts key rows ≡ keyed_parts key (map closed rows)
closed-parts key [] = refl
closed-parts key (row ∷ rows) = ap (λ (ps : List StoredPart). orchestrator_part present (record { key = key; row = row }) ∷ ps) (closed-parts (suc key) rows)

-- where its head is put in, its rows are, and the keys behind them taken out, all of it is told
pub whole-pushed : (rows : List Row) (own parts : OrchestratorParts) (before : ℕ) (first second third fourth : List StoredChange) → map row_shown rows ≡ own.rows → own ≡ parts
    → second ≡ first ++ put_all (head_of parts ∷ []) → third ≡ second ++ put_all (keyed_parts 1 (map row_shown rows))
    → fourth ≡ third ++ take_all (keys_from (length rows + 1) (before - length rows)) → fourth ≡ first ++ whole_change before parts
whole-pushed rows own parts before first second third fourth shown same head put taken =
    taken ∙ ap (λ (cs : List StoredChange). cs ++ gone (length rows)) (put ∙ ap (λ (cs : List StoredChange). cs ++ put_all (keyed_parts 1 (map row_shown rows))) head
    ∙ append_assoc first (put_all (head_of parts ∷ [])) (put_all (keyed_parts 1 (map row_shown rows))))
    ∙ append_assoc first (put_all (head_of parts ∷ keyed_parts 1 (map row_shown rows))) (gone (length rows))
    ∙ (λ i. first ++ (put_all (head_of parts ∷ all i) ++ gone (count i)))
  where
    gone : ℕ → List StoredChange
    gone now = take_all (keys_from (now + 1) (before - now))

    kept : map row_shown rows ≡ parts.rows
    kept = shown ∙ ap (λ (o : OrchestratorParts). o.rows) same

    all : keyed_parts 1 (map row_shown rows) ≡ keyed_parts 1 (map closed parts.rows)
    all = ap (keyed_parts 1) kept ∙ closed-parts 1 parts.rows

    count : length rows ≡ length parts.rows
    count = sym (length-map rows row_shown) ∙ ap length kept

-- ---- a session that begins

-- where as many are kept, all are
kept-all : {X : Type 0} (p : X → Bool) (xs : List X) → length xs ≡ length (filter p xs) → filter p xs ≡ xs
kept-all p [] same = refl
kept-all p (x ∷ xs) same = grind (arith, same, filter-no_longer p xs, kept-all p xs)

-- rows without open calls are as they are without them
closed-same : (nodes : List (List ℕ)) (rows : List RowShown) → AllByRecursion (IsRestorable nodes) rows → map closed rows ≡ rows
closed-same nodes [] each = refl
closed-same nodes (row ∷ rows) each =
    let quiet = each.0.quiet in
    let rest = closed-same nodes rows each.1 in
    λ i. record row { open_call = sym quiet i } ∷ rest i

-- an orchestrator of which this is the record
abbrev kept_as : RecordParts → OrchestratorParts
kept_as kept = record { nodes = kept.nodes; last = record { session = kept.session; call = 0 }; rows = kept.rows }

-- what is told of a session that begins from a record, raised to this one, leads from its parts to those of the orchestrator
pub session-told : (session : ℕ) (kept : RecordParts) (nodes : List (List ℕ)) → AllByRecursion (IsRestorable kept.nodes) kept.rows
    → all_changed (session_changes (length kept.rows) (opened_parts (raised_record session kept) nodes)) (kept_parts kept) ≡ parts_of_orchestrator (opened_parts (raised_record session kept) nodes)
session-told session kept nodes each = by (length kept.rows == length (remembered kept.rows)) refl
  where
    opened : OrchestratorParts
    opened = opened_parts (raised_record session kept) nodes

    own : kept_parts kept ≡ parts_of_orchestrator (kept_as kept)
    own = ap (λ (rows : List RowShown). orchestrator_head present kept.session kept.nodes ∷ keyed_parts 1 rows) (sym (closed-same kept.nodes kept.rows each))

    by : (b : Bool) → (length kept.rows == length (remembered kept.rows)) ≡ b → all_changed (orchestrator_changes_of (cond b Head (Whole (length kept.rows))) opened) (kept_parts kept) ≡ parts_of_orchestrator opened
    by true t =
        let same : remembered kept.rows ≡ kept.rows = kept-all (λ row. not (is_row_forgotten row)) kept.rows (eqb-true (length kept.rows) (length (remembered kept.rows)) t) in
        put-head (head_of opened) (orchestrator_head present kept.session kept.nodes) (keyed_parts 1 kept.rows) refl
        ∙ ap (λ (rows : List RowShown). head_of opened ∷ keyed_parts 1 rows) (sym (closed-same kept.nodes kept.rows each))
        ∙ ap (λ (rows : List RowShown). head_of opened ∷ keyed_parts 1 (map closed rows)) (sym same)
    by false t = ap (all_changed (whole_change (length kept.rows) opened)) own ∙ whole-told (kept_as kept) opened (length kept.rows) refl

-- ---- a node that is lost

-- the nodes are few and different still
pub fit-without : (node : List ℕ) (nodes : List (List ℕ)) → AreNodesFit nodes → AreNodesFit (without_node node nodes)
fit-without node nodes fit =
    let p = λ (other : List ℕ). not (same_text other node) in
    record {
      few = omega (arith, fit.few, filter-no_longer p nodes);
      apart = two-filter (λ (a b : List ℕ). same_text a b ≡ false) p nodes fit.apart;
    }

-- it tells all of what becomes of the record
pub loss-told : {A : Type 0} (answer : A) (old : ServedOrchestrator) (was new : OrchestratorParts) (before : ℕ) → was ≡ old.orchestrator → before ≡ length was.rows
    → TellsChanges {A = A} old (Ok answer) (record { orchestrator = new; changed = Whole before })
loss-told answer old was new before same is = record {
  parts = sym (whole-told old.orchestrator new before (is ∙ ap (λ (o : OrchestratorParts). length o.rows) same));
  fit = λ each here. here;
  none = tt;
}
