-- A call that has no row among those that stay: what the rows are then, and what it is answered.
use Rattle.std.proofs.Common.{◌≡◌, ◌<◌, ◌≤◌, ℕ, ◌+◌, Bool, true, false, cond, not, List, [], ◌∷◌, length, refl, sym, ◌∙◌, ap, subst, arith}
use Rattle.std.specs.Prelude.{◌==◌, ◌≢◌, All, Some, None, find, filter, count_by, slice_get}
use Rattle.std.proofs.lemmas.Bool.{ltb-true}
use Rattle.std.proofs.lemmas.List.Elements.{All-filter, All-weaker}
use Rattle.csi_types.specs.declared.call.Call.{Call}
use Rattle.csi_types.specs.declared.call.Kind.{Kind}
use Rattle.csi_types.specs.declared.frame.Body.TheVariants as bodies
use Rattle.csi_types.specs.declared.number.Number.{Number}
use Rattle.csi_types.specs.declared.reply.Reply.{Reply}
use Rattle.csi_types.specs.declared.rows.TheConstants.{MAX_ROWS}
use Rattle.csi_types.specs.Model.Call.{kind_of}
use Rattle.csi_types.specs.Public.Frame.{IsAllowed}
use Rattle.csi_types.proofs.Counts.{count-cons}
use Rattle.csi_types.proofs.Members.{among-find, one-of_all}
use Rattle.csi_fence.specs.declared.answer.Answer.{Answer}
use Rattle.csi_fence.specs.Model.Fence.{begins}
use Rattle.csi_fence.specs.Public.Rows.{Answered, AreKept, AreRising, IsAnswered, IsCurrentRow, Made, Plan, RowsState, put_row, staying, stays_in}
use Rattle.csi_fence.specs.Public.Table.{IsOrderly}
use Rattle.csi_fence.proofs.AnsweredRows.{answered-alone, answered-made}
use Rattle.csi_fence.proofs.KeptRows.{count-forgotten, filter-stays, kept-filter, up_to}
use Rattle.csi_fence.proofs.PutRows.{put-all, put-length_new, put-rising}
use Rattle.csi_fence.proofs.RisingRows.{rising-filter}
use Rattle.csi_fence.proofs.StayingRows.{one_if}

-- those that aren't empty, and those that are
length-full : {S : Type 0} (is_empty : S → Bool) (rows : List S) → length (filter (λ (row : S). not (is_empty row)) rows) + count_by is_empty rows ≡ length rows
length-full is_empty [] = refl
length-full {S} is_empty (row ∷ rows) = by (is_empty row) (count-cons is_empty row rows) (length-full is_empty rows)
  where
    by : (b : Bool) → count_by is_empty (row ∷ rows) ≡ one_if b + count_by is_empty rows → length (filter (λ (r : S). not (is_empty r)) rows) + count_by is_empty rows ≡ length rows
        → length (cond (not b) (row ∷ filter (λ (r : S). not (is_empty r)) rows) (filter (λ (r : S). not (is_empty r)) rows)) + count_by is_empty (row ∷ rows) ≡ length (row ∷ rows)
    by true count rest = omega (arith, count, rest)
    by false count rest = omega (arith, count, rest)

module _ {Fixed Own S : Type 0} (plan : Plan Fixed Own S) (is_sound : Own → S → Type 0) (number : Number) (call : Call) (agrees : List S → Type 0) (old : RowsState Own S) (empty : ℕ)
    (kept : AreKept plan is_sound agrees old empty) (h : old.session ≤ number.session) where
  -- the rows that stay
  abbrev pub stay : List S
  stay = staying plan.is_empty old.session number old.rows

  -- are those that stay in the call's session
  pub stay-is : filter (stays_in plan number.session) old.rows ≡ stay
  stay-is = filter-stays plan old.session number old.rows h kept.current

  pub stay-rising : AreRising plan.id stay
  stay-rising = subst (AreRising plan.id) stay-is (rising-filter plan.id (stays_in plan number.session) old.rows kept.rising)

  pub stay-sound : All (is_sound old.own) stay
  stay-sound = subst (All (is_sound old.own)) stay-is (All-filter (stays_in plan number.session) (is_sound old.own) old.rows kept.each)

  -- how many there are
  pub stay-length : length stay + cond (begins old.session number) empty 0 ≡ length old.rows
  stay-length = by (begins old.session number)
    where
      by : (b : Bool) → length (cond b (filter (λ (row : S). not (plan.is_empty row)) old.rows) old.rows) + cond b empty 0 ≡ length old.rows
      by true = let full = length-full plan.is_empty old.rows in let counted = kept.counted in omega (arith, full, counted)
      by false = omega arith

  -- how many don't stay
  pub stay-forgotten : cond (begins old.session number) empty 0 ≡ count_by (λ (row : S). not (stays_in plan number.session row)) old.rows
  stay-forgotten = ap (λ (n : ℕ). cond (begins old.session number) n 0) kept.counted ∙ sym (count-forgotten plan old.session number old.rows h kept.current)

  -- the rules of those that stay
  pub stay-kept : (after_agrees : List S → Type 0) (new : RowsState Own S) (new_empty : ℕ) → new.own ≡ old.own → new.session ≡ number.session → new.rows ≡ filter (stays_in plan number.session) old.rows → after_agrees new.rows
      → new_empty ≡ count_by plan.is_empty new.rows → AreKept plan is_sound after_agrees new new_empty
  stay-kept after_agrees new new_empty own same is fits counted =
      kept-filter plan is_sound after_agrees number.session old.rows new new_empty kept.rising kept.limit (subst (λ (o : Own). All (is_sound o) old.rows) (sym own) kept.each)
      (up_to plan old.session number.session old.rows h kept.current) same is fits counted

  module _ (fixed : Fixed) (none : find (plan.is_for call) stay ≡ None) where
    -- the call is answered alone
    pub alone-answered : (reply : Reply) (new : RowsState Own S) (answer : Answer) → plan.absent fixed old.own stay number call ≡ Answered reply → new.own ≡ old.own → new.session ≡ number.session
        → new.rows ≡ filter (stays_in plan number.session) old.rows → answer ≡ record { kind = kind_of call; reply = reply; row = None } → IsAllowed (plan.party fixed) (bodies.Reply (kind_of call) reply)
        → IsAnswered plan fixed number call old new answer
    alone-answered reply new answer told own same is is_answer allowed =
        answered-alone plan fixed number call old reply new answer h none told (λ i. record { own = own i; session = same i; rows = (is ∙ stay-is) i }) is_answer allowed

    module _ (orderly : IsOrderly plan is_sound) (row : S) (told : plan.absent fixed old.own stay number call ≡ Made row) where
      -- what is so of a row that is made
      pub made-few : length stay < MAX_ROWS
      made-few = (orderly.made_kept fixed old.own stay number call row told).2

      pub made-new : find (λ (other : S). plan.id other == plan.id row) stay ≡ None
      made-new = orderly.made_new fixed old.own stay number call row told stay-sound none

      made-number : (plan.kept row).number ≡ number
      made-number = (orderly.made_kept fixed old.own stay number call row told).0

      made-kind : (plan.kept row).kind ≡ kind_of call
      made-kind = (orderly.made_kept fixed old.own stay number call row told).1

      -- no row of its id had the number
      made-first : (was : S) → find (λ (other : S). plan.id other == plan.id row) old.rows ≡ Some was → (plan.kept was).number ≢ number
      made-first was found again = by (begins old.session number) refl made-new
        where
          clash : Some was ≡ None → ⊥
          clash e = cc

          by : (b : Bool) → begins old.session number ≡ b → find (λ (other : S). plan.id other == plan.id row) (cond b (filter (λ (r : S). not (plan.is_empty r)) old.rows) old.rows) ≡ None → ⊥
          by true e new =
              let later = ltb-true old.session number.session e in
              let current = one-of_all (IsCurrentRow plan old.session) old.rows was kept.current (among-find (λ (other : S). plan.id other == plan.id row) old.rows was found) in
              let before = current.before in
              let own : (plan.kept was).number.session ≡ number.session = ap (λ (n : Number). n.session) again in
              omega (arith, later, before, own)
          by false e new = clash (sym found ∙ new)

      -- the rules then
      pub made-kept : (after_agrees : List S → Type 0) (new : RowsState Own S) (new_empty : ℕ) → is_sound (plan.next old.own) row → new.own ≡ plan.next old.own → new.session ≡ number.session → new.rows ≡ put_row plan.id row stay
          → after_agrees new.rows → new_empty ≡ count_by plan.is_empty new.rows → AreKept plan is_sound after_agrees new new_empty
      made-kept after_agrees new new_empty sound own same is fits counted = record {
        rising = subst (AreRising plan.id) (sym is) (put-rising plan.id row stay stay-rising);
        limit = subst (λ (l : List S). length l ≤ MAX_ROWS) (sym is) (let long = put-length_new plan.id row stay stay-rising made-new in let few = made-few in omega (arith, long, few));
        each = subst (λ (o : Own). All (is_sound o) new.rows) (sym own) (subst (All (is_sound (plan.next old.own))) (sym is)
            (put-all plan.id (is_sound (plan.next old.own)) row stay sound (All-weaker (is_sound old.own) (is_sound (plan.next old.own)) (orderly.next_sound old.own) stay stay-sound)));
        current = subst (λ (n : ℕ). All (IsCurrentRow plan n) new.rows) (sym same) (subst (All (IsCurrentRow plan number.session)) (sym is) (put-all plan.id (IsCurrentRow plan number.session) row stay own_current stay_current));
        fits = fits;
        counted = counted;
      }
        where
          own_session : (plan.kept row).number.session ≡ number.session
          own_session = ap (λ (n : Number). n.session) made-number

          own_current : IsCurrentRow plan number.session row
          own_current = record { before = omega (arith, own_session); empty = λ empty. own_session }

          state : RowsState Own S
          state = record { own = old.own; session = number.session; rows = filter (stays_in plan number.session) old.rows }

          stay_current : All (IsCurrentRow plan number.session) stay
          stay_current = subst (All (IsCurrentRow plan number.session)) stay-is (stay-kept (λ (l : List S). Unit {0}) state (count_by plan.is_empty state.rows) refl refl refl tt refl).current

      -- the answer
      pub made-answered : (reply : Reply) (new : RowsState Own S) (place : ℕ) (answer : Answer) → reply ≡ (plan.kept row).reply → is_sound (plan.next old.own) row → new.own ≡ plan.next old.own → new.session ≡ number.session
          → new.rows ≡ put_row plan.id row stay → slice_get new.rows place ≡ Some row → answer ≡ record { kind = kind_of call; reply = reply; row = Some place } → IsAnswered plan fixed number call old new answer
      made-answered reply new place answer same_reply sound own same is got is_answer =
          answered-made plan fixed number call old row new place answer h none told (λ i. record { own = own i; session = same i; rows = is i }) made-number made-first
          (subst (λ (l : List S). slice_get l place ≡ Some row) is got) (is_answer ∙ (λ i. record { kind = kind_of call; reply = same_reply i; row = Some place }))
          (subst (λ (k : Kind). IsAllowed (plan.party fixed) (bodies.Reply k (plan.kept row).reply)) made-kind (orderly.sound_allowed fixed (plan.next old.own) row sound))
