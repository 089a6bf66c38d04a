-- A call that is carried out at its row: what the rows are then, and what it is answered.
use Rattle.std.proofs.Common.{◌≡◌, ◌<◌, ◌≤◌, ℕ, Bool, true, false, cond, not, List, Result, Ok, Err, IfOk, IfErr, length, refl, sym, ◌∙◌, ap, subst, arith}
use Rattle.std.specs.Prelude.{◌==◌, ◌≢◌, All, Some, None, find, filter, count_by, slice_get, slice_set}
use Rattle.std.specs.Result.{result_ok}
use Rattle.std.proofs.lemmas.List.{length-set}
use Rattle.std.proofs.lemmas.List.Elements.{All-set}
use Rattle.std.proofs.lemmas.Option.{same_Some, slice_get_within}
use Rattle.csi_types.specs.declared.call.Call.{Call}
use Rattle.csi_types.specs.declared.frame.Body.TheVariants as bodies
use Rattle.csi_types.specs.declared.number.Number.{Number}
use Rattle.csi_types.specs.declared.rows.TheConstants.{MAX_ROWS}
use Rattle.csi_types.specs.Model.Call.{kind_of}
use Rattle.csi_types.specs.Model.Same.{same_number}
use Rattle.csi_types.specs.Public.Frame.{IsAllowed}
use Rattle.csi_fence.specs.declared.answer.Answer.{Answer}
use Rattle.csi_fence.specs.declared.fence.Verdict.TheVariants.{Stale, Repeated, Fresh}
use Rattle.csi_fence.specs.Model.Fence.{Kept, begins, verdict_of, verdict_of_spent}
use Rattle.csi_fence.specs.Model.Fenced.{in_session}
use Rattle.csi_fence.specs.Public.Rows.{AreKept, AreRising, IsAnswered, IsCurrentRow, IsGapFor, IsPlaceOf, Plan, RowsState, Told, carried, id_of, put_row, row_after, rows_machine, staying, stays_in}
use Rattle.csi_fence.specs.Public.Table.{IsOrderly}
use Rattle.csi_fence.proofs.AnsweredRows.{answered-there, carried-there}
use Rattle.csi_fence.proofs.KeptRows.{IsUpTo, count-forgotten, filter-put, filter-stays, kept-filter, stays-full, stays-own, up_to}
use Rattle.csi_fence.proofs.PlacedRows.{absent-gap, found-at, set-got}
use Rattle.csi_fence.proofs.PutRows.{put-found, put-rising, put-set}
use Rattle.csi_fence.proofs.RisingRows.{rising-filter, rows_rise}
use Rattle.csi_fence.proofs.RowsThere.{all-at}
use Rattle.csi_fence.proofs.Spent.{own_spent}
use Rattle.csi_fence.proofs.StayingRows.{count-set, filter-none_fails, one_if}

-- a number that was answered last isn't carried out again
pub not_again : (number : Number) → verdict_of (Some number) number ≡ Fresh → ⊥
not_again number fresh = by (same_number number number) (sym spent ∙ fresh)
  where
    spent : verdict_of (Some number) number ≡ verdict_of_spent (Some number) number
    spent = ap (λ (b : Bool). cond b (verdict_of_spent (Some number) number) Fresh) (own_spent number)

    by : (b : Bool) → cond b Repeated Stale ≡ Fresh → ⊥
    by true h = cc
    by false h = cc

module _ {Fixed Own S : Type 0} (plan : Plan Fixed Own S) (is_sound : Own → S → Type 0) (orderly : IsOrderly plan is_sound) (number : Number) (call : Call) (row : S) (told : Told) where
  -- the row then
  abbrev pub after : S
  after = row_after plan number call told row

  -- it keeps its id
  pub after-id : plan.id after ≡ plan.id row
  after-id = orderly.keep_id (record { number = number; kind = kind_of call; reply = told.reply }) (cond told.is_done (plan.change call row) row) ∙ by told.is_done
    where
      by : (b : Bool) → plan.id (cond b (plan.change call row) row) ≡ plan.id row
      by true = orderly.change_id call row
      by false = refl

  -- and the call
  pub after-kept : plan.kept after ≡ record { number = number; kind = kind_of call; reply = told.reply }
  after-kept = orderly.keep_kept (record { number = number; kind = kind_of call; reply = told.reply }) (cond told.is_done (plan.change call row) row)

  pub after-number : (plan.kept after).number ≡ number
  after-number = ap (λ (k : Kept). k.number) after-kept

  -- so it may be answered
  pub after-allowed : (fixed : Fixed) (own : Own) → is_sound own after → IsAllowed (plan.party fixed) (bodies.Reply (kind_of call) told.reply)
  after-allowed fixed own sound = subst (λ (k : Kept). IsAllowed (plan.party fixed) (bodies.Reply k.kind k.reply)) after-kept (orderly.sound_allowed fixed own after sound)

  module _ (agrees : List S → Type 0) (old : RowsState Own S) (empty place : ℕ) (kept : AreKept plan is_sound agrees old empty) (at : slice_get old.rows place ≡ Some row) where
    -- the rows then, before any is forgotten
    abbrev pub set_rows : List S
    set_rows = slice_set old.rows place after

    within : place < length old.rows
    within = slice_get_within old.rows place row at

    is_place : IsPlaceOf plan.id old.rows (plan.id row) place
    is_place = record { within = within; has_id = ap (id_of plan.id) at }

    -- the row is put among them
    pub set-is_put : set_rows ≡ put_row plan.id after old.rows
    set-is_put = sym (put-set plan.id old.rows (plan.id row) place after kept.rising is_place after-id)

    pub set-rising : AreRising plan.id set_rows
    set-rising = subst (AreRising plan.id) (sym set-is_put) (put-rising plan.id after old.rows kept.rising)

    set-limit : length set_rows ≤ MAX_ROWS
    set-limit = let same = length-set old.rows place after in let limit = kept.limit in omega (arith, same, limit)

    set-sound : is_sound old.own after → All (is_sound old.own) set_rows
    set-sound sound = All-set (is_sound old.own) old.rows place after sound kept.each

    -- the row there is current
    row-current : IsCurrentRow plan old.session row
    row-current = all-at (IsCurrentRow plan old.session) old.rows place row kept.current at

    module _ (h : old.session ≤ number.session) where
      set-up : All (IsUpTo plan number.session) set_rows
      set-up = All-set (IsUpTo plan number.session) old.rows place after (let same : (plan.kept after).number.session ≡ number.session = ap (λ (n : Number). n.session) after-number in omega (arith, same)) (up_to plan old.session number.session old.rows h kept.current)

      after-stays : stays_in plan number.session after ≡ true
      after-stays = stays-own plan number.session after (ap (λ (n : Number). n.session) after-number)

      -- what stays of them
      pub set-stays : filter (stays_in plan number.session) set_rows ≡ put_row plan.id after (staying plan.is_empty old.session number old.rows)
      set-stays =
          ap (filter (stays_in plan number.session)) set-is_put
          ∙ filter-put plan.id (stays_in plan number.session) after old.rows after-stays (rows_rise plan.id old.rows kept.rising)
          ∙ ap (put_row plan.id after) (filter-stays plan old.session number old.rows h kept.current)

      -- how many don't
      pub set-forgotten : (old.session < number.session → plan.is_empty row ≡ false) → count_by (λ (r : S). not (stays_in plan number.session r)) set_rows ≡ cond (begins old.session number) empty 0
      set-forgotten full =
          let sum = count-set (λ (r : S). not (stays_in plan number.session r)) old.rows place row after at in
          let one : one_if (not (stays_in plan number.session row)) ≡ one_if false = ap (λ (b : Bool). one_if (not b)) (stays-full plan old.session number old.rows h kept.current row row-current full) in
          let two : one_if (not (stays_in plan number.session after)) ≡ one_if false = ap (λ (b : Bool). one_if (not b)) after-stays in
          let all : count_by (λ (r : S). not (stays_in plan number.session r)) set_rows ≡ count_by (λ (r : S). not (stays_in plan number.session r)) old.rows = omega (arith, sum, one, two) in
          all ∙ count-forgotten plan old.session number old.rows h kept.current ∙ ap (λ (n : ℕ). cond (begins old.session number) n 0) (sym kept.counted)

      -- the rules then
      pub set-kept : (after_agrees : List S → Type 0) (new : RowsState Own S) (new_empty : ℕ) → is_sound old.own after → new.own ≡ old.own → new.session ≡ number.session → new.rows ≡ filter (stays_in plan number.session) set_rows → after_agrees new.rows
          → new_empty ≡ count_by plan.is_empty new.rows → AreKept plan is_sound after_agrees new new_empty
      set-kept after_agrees new new_empty sound own same is fits counted =
          kept-filter plan is_sound after_agrees number.session set_rows new new_empty set-rising set-limit (subst (λ (o : Own). All (is_sound o) set_rows) (sym own) (set-sound sound)) set-up same is fits counted

      -- no row of its id had the number
      first : verdict_of (Some (plan.kept row).number) number ≡ Fresh → (was : S) → find (λ (other : S). plan.id other == plan.id after) old.rows ≡ Some was → (plan.kept was).number ≢ number
      first fresh was found again =
          let here : find (λ (other : S). plan.id other == plan.id row) old.rows ≡ Some row = found-at plan.id old.rows (plan.id row) place kept.rising is_place ∙ at in
          let same : row ≡ was = same_Some row was (sym here ∙ ap (λ (n : ℕ). find (λ (other : S). plan.id other == n) old.rows) (sym after-id) ∙ found) in
          not_again number (sym (ap (λ (n : Number). verdict_of (Some n) number) (ap (λ (r : S). (plan.kept r).number) same ∙ again)) ∙ fresh)

      -- what is told of all rows is told of those that stay
      told-stays : (fixed : Fixed) → told ≡ plan.line fixed old.rows row call → told ≡ plan.line fixed (staying plan.is_empty old.session number old.rows) row call
      told-stays fixed is = is ∙ by (begins old.session number)
        where
          by : (b : Bool) → plan.line fixed old.rows row call ≡ plan.line fixed (cond b (filter (λ (r : S). not (plan.is_empty r)) old.rows) old.rows) row call
          by true = sym (orderly.line_full fixed old.own old.rows row call kept.each)
          by false = refl

      -- where no row is forgotten it stands where it stood
      pub stands-there : (rows : List S) (n : ℕ) → n ≡ 0 → n ≡ count_by (λ (r : S). not (stays_in plan number.session r)) set_rows → rows ≡ filter (stays_in plan number.session) set_rows → slice_get rows place ≡ Some after
      stands-there rows n none count is =
          ap (λ (l : List S). slice_get l place) (is ∙ filter-none_fails (stays_in plan number.session) set_rows (sym count ∙ none)) ∙ set-got plan.id old.rows place after within

      -- where some are a search gives its place
      pub stands-searched : (rows : List S) (r : Result ℕ ℕ) → rows ≡ filter (stays_in plan number.session) set_rows → IfOk r (IsPlaceOf plan.id rows (plan.id row)) → IfErr r (IsGapFor plan.id rows (plan.id row))
          → (stands : ℕ) × (result_ok r ≡ Some stands) × (slice_get rows stands ≡ Some after)
      stands-searched rows r is = by r
        where
          there : find (λ (other : S). plan.id other == plan.id row) rows ≡ Some after
          there = ap (λ (n : ℕ). find (λ (other : S). plan.id other == n) rows) (sym after-id) ∙ ap (find (λ (other : S). plan.id other == plan.id after)) (is ∙ set-stays) ∙ put-found plan.id after (staying plan.is_empty old.session number old.rows)

          rising : AreRising plan.id rows
          rising = subst (AreRising plan.id) (sym is) (rising-filter plan.id (stays_in plan number.session) set_rows set-rising)

          clash : {A : Type 0} → Some after ≡ None → A
          clash none = cc

          by : (r : Result ℕ ℕ) → IfOk r (IsPlaceOf plan.id rows (plan.id row)) → IfErr r (IsGapFor plan.id rows (plan.id row)) → (stands : ℕ) × (result_ok r ≡ Some stands) × (slice_get rows stands ≡ Some after)
          by (Ok stands) found gap = (stands, refl, sym (found-at plan.id rows (plan.id row) stands rising found) ∙ there)
          by (Err stands) found gap = clash (sym there ∙ absent-gap plan.id rows (plan.id row) stands gap)

      -- what is carried out of it
      pub set-carried : (fixed : Fixed) → told ≡ plan.line fixed old.rows row call → find (plan.is_for call) (staying plan.is_empty old.session number old.rows) ≡ Some row
          → told.reply ≡ (carried plan fixed (in_session (rows_machine plan fixed) number old) number call).reply
      set-carried fixed is found = ap (λ (t : Told). t.reply) (told-stays fixed is) ∙ sym (carried-there plan fixed number call old row found)

      -- the answer
      pub set-answered : (fixed : Fixed) (new : RowsState Own S) (stands : ℕ) (answer : Answer) → told ≡ plan.line fixed old.rows row call → is_sound old.own after
          → find (plan.is_for call) (staying plan.is_empty old.session number old.rows) ≡ Some row → verdict_of (Some (plan.kept row).number) number ≡ Fresh
          → new.own ≡ old.own → new.session ≡ number.session → new.rows ≡ filter (stays_in plan number.session) set_rows → slice_get new.rows stands ≡ Some after
          → answer ≡ record { kind = kind_of call; reply = told.reply; row = Some stands } → IsAnswered plan fixed number call old new answer
      set-answered fixed new stands answer is_told sound found fresh own same is got is_answer =
          answered-there plan fixed number call old row told new stands answer h found fresh (told-stays fixed is_told)
          (λ i. record { own = own i; session = same i; rows = (is ∙ set-stays) i }) after-number (first fresh) (subst (λ (l : List S). slice_get l stands ≡ Some after) (is ∙ set-stays) got) is_answer
          (after-allowed fixed old.own sound)
