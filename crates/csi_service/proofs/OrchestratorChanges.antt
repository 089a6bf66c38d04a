-- What a call changes of the parts of an orchestrator's record: one row at its place.
use Rattle.std.proofs.Common.{◌≡◌, ◌∙◌, sym, ap, refl, subst, inl, inr, ℕ, zero, suc, ◌<◌, ◌+◌, Bool, true, false, cond, List, [], ◌∷◌, map, length, take, drop, slice_get, arith, IfSome, Ok}
use Rattle.std.specs.Prelude.{Option, Some, None, position, not}
use Rattle.std.specs.List.{AllByRecursion, position_or_len}
use Rattle.std.proofs.lemmas.Bool.Decides.{nat_tests}
use Rattle.std.proofs.lemmas.List.Sums.{prefix_len-le-length}
use Rattle.std.proofs.lemmas.Option.{slice_get_cases}
use Rattle.csi_types.proofs.Places.{FirstAt-position, FirstAt-passes, FirstAt-is_at}
use Rattle.csi_types.specs.Public.Places.{IsAt, FirstAt}
use Rattle.csi_types.specs.declared.number.Number.{Number}
use Rattle.csi_types.specs.Model.Same.{same_text}
use Rattle.csi_orchestrator.specs.declared.fault.Heard.{Heard}
use Rattle.csi_orchestrator.specs.declared.fault.Heard.TheVariants.{Ignored, Taken}
use Rattle.csi_orchestrator.specs.Model.Shown.{RowShown, OrchestratorParts}
use Rattle.csi_orchestrator.specs.Public.Changed.{place_by_name, place_by_call, AreChangedAt, ChangesRowAt, ChangesRowOf, ChangesAsHeard}
use Rattle.csi_orchestrator.specs.Public.Shown.{closed}
use Rattle.csi_stores.specs.Public.Part.{StoredPart}
use Rattle.csi_stores.specs.Public.Content.{put_in, all_changed}
use Rattle.csi_records.specs.Public.OrchestratorRecords.{keyed_from}
use Rattle.csi_records.specs.Public.OrchestratorRows.{IsOrchestratorRow}
use Rattle.csi_records.specs.Public.OrchestratorSpelling.{orchestrator_head, orchestrator_part}
use Rattle.csi_records.specs.Public.Spelling.{present}
use Rattle.csi_service.specs.declared.orchestrator_changes.OrchestratorChanged.{OrchestratorChanged}
use Rattle.csi_service.specs.declared.orchestrator_changes.OrchestratorChanged.TheVariants.{Nothing, Row}
use Rattle.csi_service.specs.Public.OrchestratorServices.{ServedOrchestrator, parts_of_orchestrator, orchestrator_row_change, AreFitOrchestratorRows, TellsChanges}
use Rattle.csi_service.specs.Private.OrchestratorServices.{changed_at, heard_at}
use Rattle.csi_service.proofs.RisingParts.{put-head, put-row}

-- ---- lists of which one element is another

-- what holds of all elements of a list, and of the one that is another in a second list, holds of all elements of that
each-at : {X : Type 0} (P : X → Type 0) (place : ℕ) (olds news : List X) → place < length news → take place news ≡ take place olds → drop (suc place) news ≡ drop (suc place) olds
    → IfSome (slice_get news place) P → AllByRecursion P olds → AllByRecursion P news
each-at P place olds [] within before behind here each = tt
each-at P zero [] (new ∷ news) within before behind here each = (here, subst (AllByRecursion P) (sym behind) tt)
each-at P zero (old ∷ olds) (new ∷ news) within before behind here each = (here, subst (AllByRecursion P) (sym behind) each.1)
each-at P (suc place) [] (new ∷ news) within before behind here each = absurd cc
each-at P (suc place) (old ∷ olds) (new ∷ news) within before behind here each =
    let same : old ≡ new = cc in
    let rest : take place news ≡ take place olds = cc in
    (subst P same each.0, each-at P place olds news (omega (arith, within)) rest behind here each.1)

-- where the first that passes stands now, and what stood there passed too, there was the first that passed, or the end
first-place : {X : Type 0} (p : X → Bool) (place : ℕ) (now : X) (olds news : List X) → FirstAt p news place now → take place news ≡ take place olds
    → ((was : X) → IsAt olds place was → p was ≡ true) → position_or_len p olds ≡ place
first-place p place now olds [] first before stays = absurd first
first-place p zero now [] (new ∷ news) first before stays = refl
first-place p zero now (old ∷ olds) (new ∷ news) first before stays = rw (stays old refl) refl
first-place p (suc place) now [] (new ∷ news) first before stays = absurd cc
first-place p (suc place) now (old ∷ olds) (new ∷ news) first before stays =
    let rest : take place news ≡ take place olds = cc in
    let fails : p old ≡ false = let same : new ≡ old = cc in rw (sym same) first.0 in
    let later = first-place p place now olds news first.1 rest stays in
    rw fails (omega (arith, later))

-- ---- rows, as their parts

-- the part of a row
abbrev row_part : ℕ → RowShown → StoredPart
row_part key row = orchestrator_part present (record { key = key; row = closed row })

-- the parts of rows under the keys from one on
abbrev row_parts : ℕ → List RowShown → List StoredPart
row_parts key rows = map (orchestrator_part present) (keyed_from key (map closed rows))

-- the part of the row that is another, put in
put-at : (key at place : ℕ) (row : RowShown) (olds news : List RowShown) → at ≡ key + place → take place news ≡ take place olds → drop (suc place) news ≡ drop (suc place) olds
    → slice_get news place ≡ Some row → put_in (row_part at row) (row_parts key olds) ≡ row_parts key news
put-at key at place row olds [] is before behind here = absurd cc
put-at key at zero row [] (new ∷ news) is before behind here =
    let same : new ≡ row = cc in
    let own : at ≡ key = omega (arith, is) in
    λ i. row_part (own i) (sym same i) ∷ row_parts (suc key) (sym behind i)
put-at key at zero row (old ∷ olds) (new ∷ news) is before behind here =
    let same : new ≡ row = cc in
    let own : at ≡ key = omega (arith, is) in
    put-head (row_part at row) (row_part key old) (row_parts (suc key) olds) (sym own) ∙ (λ i. row_part (own i) (sym same i) ∷ row_parts (suc key) (sym behind i))
put-at key at (suc place) row [] (new ∷ news) is before behind here = absurd cc
put-at key at (suc place) row (old ∷ olds) (new ∷ news) is before behind here =
    let same : new ≡ old = cc in
    let first : take place news ≡ take place olds = cc in
    let rest = put-at (suc key) at place row olds news (omega (arith, is)) first behind here in
    put-row (row_part key old) (row_part at row) (row_parts (suc key) olds) (omega (arith, is)) ∙ (λ i. row_part key (sym same i) ∷ rest i)

-- ---- a call

module _ (place : ℕ) (old new : OrchestratorParts) (nodes : new.nodes ≡ old.nodes) (session : new.last.session ≡ old.last.session) (rows : AreChangedAt place old.rows new.rows) where
  -- the rows behind the place
  behind : drop (suc place) new.rows ≡ drop (suc place) old.rows
  behind = let one : place + 1 ≡ suc place = omega arith in subst (λ (n : ℕ). drop n new.rows ≡ drop n old.rows) one rows.behind

  -- what was changed at a place leads from the parts before to those after
  row-changed : parts_of_orchestrator new ≡ all_changed (orchestrator_row_change place (slice_get new.rows place)) (parts_of_orchestrator old)
  row-changed = elim (slice_get_cases new.rows place).1 [
    | inl there ↦
        let put = put-at 1 (place + 1) place there.0 old.rows new.rows (omega arith) rows.before behind there.2 in
        (λ i. orchestrator_head present (session i) (nodes i) ∷ sym put i)
        ∙ sym (put-row (orchestrator_head present old.last.session old.nodes) (row_part (place + 1) there.0) (row_parts 1 old.rows) (omega arith))
        ∙ ap (λ (o : Option RowShown). all_changed (orchestrator_row_change place o) (parts_of_orchestrator old)) (sym there.2)
    | inr past ↦ absurd (omega (arith, rows.within, past.0))
  ]

  -- and all that the rows have stays within its limits, where all of that row is
  row-fit : IfSome (slice_get new.rows place) (IsOrchestratorRow present) → AreFitOrchestratorRows old.rows → AreFitOrchestratorRows new.rows
  row-fit here each = each-at (IsOrchestratorRow present) place old.rows new.rows rows.within rows.before behind here each

-- a call that changed the row at a place tells so
pub row-told : {A : Type 0} (answer : A) (found : Option ℕ) (changed : OrchestratorChanged) (old : ServedOrchestrator) (was new : OrchestratorParts) → was ≡ old.orchestrator → changed ≡ changed_at found
    → ChangesRowAt found was new → TellsChanges {A = A} old (Ok answer) (record { orchestrator = new; changed = changed })
row-told {A} answer found changed old was new same is changes =
    let changes_old : ChangesRowAt found old.orchestrator new = subst (λ (o : OrchestratorParts). ChangesRowAt found o new) same changes in
    subst (λ (c : OrchestratorChanged). TellsChanges {A = A} old (Ok answer) (record { orchestrator = new; changed = c })) (sym (is ∙ ap changed_at changes_old.there)) (record {
      parts = row-changed changes_old.place old.orchestrator new changes_old.nodes changes_old.session changes_old.rows;
      fit = λ each here. row-fit changes_old.place old.orchestrator new changes_old.nodes changes_old.session changes_old.rows here each;
      none = tt;
    })

-- one that left all as it was tells nothing
pub none-told : {A : Type 0} (answer : A) (changed : OrchestratorChanged) (old : ServedOrchestrator) (was new : OrchestratorParts) → was ≡ old.orchestrator → changed ≡ Nothing → new ≡ was
    → TellsChanges {A = A} old (Ok answer) (record { orchestrator = new; changed = changed })
none-told {A} answer changed old was new same is stays =
    subst (λ (c : OrchestratorChanged). TellsChanges {A = A} old (Ok answer) (record { orchestrator = new; changed = c })) (sym is) (record {
      parts = ap parts_of_orchestrator (stays ∙ same);
      fit = λ each here. subst (λ (o : OrchestratorParts). AreFitOrchestratorRows o.rows) (sym (stays ∙ same)) each;
      none = tt;
    })

-- by whether it left all as it was
pub some-told : {A : Type 0} (answer : A) (is_changed : Bool) (found : Option ℕ) (changed : OrchestratorChanged) (old : ServedOrchestrator) (was new : OrchestratorParts) → was ≡ old.orchestrator
    → changed ≡ cond is_changed (changed_at found) Nothing → ChangesRowAt found was new → (is_changed ≡ false → new ≡ was)
    → TellsChanges {A = A} old (Ok answer) (record { orchestrator = new; changed = changed })
some-told answer true found changed old was new same is changes stays = row-told answer found changed old was new same is changes
some-told answer false found changed old was new same is changes stays = none-told answer changed old was new same is (stays refl)

-- a frame that came, by what became of it
pub heard-told : (heard : Heard) (number : Number) (found : Option ℕ) (changed : OrchestratorChanged) (old : ServedOrchestrator) (was new : OrchestratorParts) → was ≡ old.orchestrator
    → found ≡ place_by_call number was.rows → changed ≡ heard_at found heard → ChangesAsHeard number heard was new
    → TellsChanges {A = Heard} old (Ok heard) (record { orchestrator = new; changed = changed })
heard-told Ignored number found changed old was new same at is changes = none-told Ignored changed old was new same is changes
heard-told (Taken sent) number found changed old was new same at is changes =
    row-told (Taken sent) (place_by_call number was.rows) changed old was new same (is ∙ ap changed_at at) changes

-- the row that a create changed stands where it did, or at the end
created-at : (name : List ℕ) (was new : OrchestratorParts) (changes : ChangesRowOf name was new) → position_or_len (λ (row : RowShown). same_text row.name name) was.rows ≡ changes.place
created-at name was new changes =
    let p = λ (r : RowShown). same_text r.name name in
    elim (slice_get_cases new.rows changes.place).1 [
      | inl there ↦
          let first = FirstAt-position p new.rows changes.place there.0 changes.there (sym there.3) in
          first-place p changes.place there.0 was.rows new.rows first changes.rows.before
          (λ r at. ap (λ (n : List ℕ). same_text n name) (sym (changes.rows.named r there.0 at (FirstAt-is_at p new.rows changes.place there.0 first))) ∙ FirstAt-passes p new.rows changes.place there.0 first)
      | inr past ↦ absurd (omega (arith, changes.rows.within, past.0))
    ]

-- so a create tells that row
pub created-told : {A : Type 0} (answer : A) (name : List ℕ) (place : ℕ) (old : ServedOrchestrator) (was new : OrchestratorParts) → was ≡ old.orchestrator
    → place ≡ position_or_len (λ (row : RowShown). same_text row.name name) was.rows → ChangesRowOf name was new
    → TellsChanges {A = A} old (Ok answer) (record { orchestrator = new; changed = Row place })
created-told answer name place old was new same at changes =
    row-told answer (place_by_name name new.rows) (Row place) old was new same (ap Row (at ∙ created-at name was new changes) ∙ ap changed_at (sym changes.there)) changes

-- where none is found, the count of all is where a row will stand
pub place-missed : {X : Type 0} (p : X → Bool) (xs : List X) → position p xs ≡ None → length xs ≡ position_or_len p xs
place-missed p xs none = grind (arith, nat_tests, none, prefix_len-le-length (λ x. not (p x)) xs)
