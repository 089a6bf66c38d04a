-- What is so of a call that rows answered, or that ended in an error.
use Rattle.std.proofs.Common.{◌≡◌, ◌<◌, ◌≤◌, ℕ, List, [], Result, Ok, Err, IfOk, refl, sym, ◌∙◌, ap, subst, arith, Bool, true, false, cond, ◌&&◌}
use Rattle.std.specs.Prelude.{Option, Some, None, option_map, find, count_by, nat_lt, slice_get, IsErr, IsOk, IsTrue}
use Rattle.std.proofs.lemmas.Bool.{false≢true, lt-ltb, ltb-true}
use Rattle.std.proofs.lemmas.Bool.Decides.{nat_tests}
use Rattle.std.proofs.lemmas.Option.{same_Some}
use Rattle.csi_types.specs.declared.call.Call.{Call}
use Rattle.csi_types.specs.declared.call.Kind.{Kind}
use Rattle.csi_types.specs.declared.call.Party.{Party}
use Rattle.csi_types.specs.declared.frame.Body.TheVariants as bodies
use Rattle.csi_types.specs.declared.number.Number.{Number}
use Rattle.csi_types.specs.declared.status.Status.TheVariants.{Ok as OkStatus}
use Rattle.csi_types.specs.Model.Call.{kind_of}
use Rattle.csi_types.specs.Model.Replies.{stale_reply}
use Rattle.csi_types.specs.Public.Call.{is_party_of}
use Rattle.csi_types.specs.Public.Frame.{IsAllowed}
use Rattle.csi_types.specs.Public.Reply.{is_create}
use Rattle.csi_fence.specs.declared.answer.Answer.{Answer}
use Rattle.csi_fence.specs.declared.fault.CoreFault.{CoreFault}
use Rattle.csi_fence.specs.declared.fence.Verdict.TheVariants.{Stale, Repeated, Fresh}
use Rattle.csi_fence.specs.Model.Fence.{Kept, verdict_of}
use Rattle.csi_fence.specs.Model.Fenced.{in_session}
use Rattle.csi_fence.specs.Public.Lawful.{IsLetThrough}
use Rattle.csi_fence.specs.Public.Repeats.{IsPlainRepeat}
use Rattle.csi_fence.specs.Public.Rows.{Answers, AreKept, IsAnswered, IsCurrentRow, Plan, RowsState, carried, rows_machine, staying}
use Rattle.csi_fence.specs.Public.Table.{IsOrderly}
use Rattle.csi_fence.proofs.AnsweredRows.{answered-again, answered-late, answered-over, fresh-later, staying-all, through-fresh}
use Rattle.csi_fence.proofs.RowsThere.{all-at}

-- that it comes late may be answered to any call
pub stale-allowed : (party : Party) (kind : Kind) → IsTrue (is_party_of kind party) → IsAllowed party (bodies.Reply kind stale_reply)
stale-allowed party kind own = (own, by (is_create kind))
  where
    by : (b : Bool) → cond (b && false) false true ≡ true
    by true = refl
    by false = refl

module _ {Fixed Own S : Type 0} (plan : Plan Fixed Own S) (is_sound : Own → S → Type 0) where
  -- rows that are as they were keep the rules
  pub kept-same : (agrees after_agrees : List S → Type 0) (old new : RowsState Own S) (empty new_empty : ℕ) → AreKept plan is_sound agrees old empty → new ≡ old → after_agrees new.rows → new_empty ≡ count_by plan.is_empty new.rows
      → AreKept plan is_sound after_agrees new new_empty
  kept-same agrees after_agrees old new empty new_empty kept same fits counted =
      let was = subst (λ (s : RowsState Own S). AreKept plan is_sound (λ (rows : List S). Unit {0}) s (count_by plan.is_empty s.rows)) (sym same)
      (record { rising = kept.rising; limit = kept.limit; each = kept.each; current = kept.current; fits = tt; counted = refl }) in
      record { rising = was.rising; limit = was.limit; each = was.each; current = was.current; fits = fits; counted = counted }

  module _ (is_frugal : Call → Type 0) (fixed : Fixed) (number : Number) (call : Call) (old : RowsState Own S) where
    -- an answer
    pub answers-ok : (new : RowsState Own S) (agrees : List S → Type 0) (empty : ℕ) (answer : Answer) → IsAnswered plan fixed number call old new answer → AreKept plan is_sound agrees new empty
        → Answers plan is_sound is_frugal fixed number call old new agrees empty (Ok answer)
    answers-ok new agrees empty answer is kept = record { ok = is; err = tt; kept = kept; repeated = λ plain. refl; frugal = λ frugal through ok. refl }

    -- an error
    pub answers-err : (new : RowsState Own S) (agrees : List S → Type 0) (empty : ℕ) (fault : CoreFault) → new ≡ old → AreKept plan is_sound agrees new empty
        → (IsPlainRepeat old.session (option_map plan.kept (find (plan.is_for call) old.rows)) number → ⊥)
        → (is_frugal call → IsLetThrough (rows_machine plan fixed) old number call → (carried plan fixed (in_session (rows_machine plan fixed) number old) number call).reply.status ≡ OkStatus → ⊥)
        → Answers plan is_sound is_frugal fixed number call old new agrees empty (Err fault)
    answers-err new agrees empty fault same kept no_repeat no_frugal =
        record { ok = tt; err = same; kept = kept; repeated = λ plain. absurd (no_repeat plain); frugal = λ frugal through ok. absurd (no_frugal frugal through ok) }

    -- the same of a result that is one
    pub answers-errs : (new : RowsState Own S) (agrees : List S → Type 0) (empty : ℕ) (r : Result Answer CoreFault) → IsErr r → new ≡ old → AreKept plan is_sound agrees new empty
        → (IsPlainRepeat old.session (option_map plan.kept (find (plan.is_for call) old.rows)) number → ⊥)
        → (is_frugal call → IsLetThrough (rows_machine plan fixed) old number call → (carried plan fixed (in_session (rows_machine plan fixed) number old) number call).reply.status ≡ OkStatus → ⊥)
        → Answers plan is_sound is_frugal fixed number call old new agrees empty r
    answers-errs new agrees empty (Ok answer) fails same kept no_repeat no_frugal = absurd (false≢true fails)
    answers-errs new agrees empty (Err fault) fails same kept no_repeat no_frugal = answers-err new agrees empty fault same kept no_repeat no_frugal

  -- a call that is fresh for its row isn't a repeat
  pub repeat-fresh : (number : Number) (call : Call) (session : ℕ) (rows : List S) (row : S) → find (plan.is_for call) (staying plan.is_empty session number rows) ≡ Some row → verdict_of (Some (plan.kept row).number) number ≡ Fresh
      → IsPlainRepeat session (option_map plan.kept (find (plan.is_for call) rows)) number → ⊥
  repeat-fresh number call session rows row found fresh = by (find (plan.is_for call) rows) refl
    where
      clash : Repeated ≡ Fresh → ⊥
      clash h = cc

      by : (o : Option S) → find (plan.is_for call) rows ≡ o → IsPlainRepeat session (option_map plan.kept o) number → ⊥
      by None is plain = plain
      by (Some r) is plain =
          let same_session = plain.0 in
          let same : row ≡ r = same_Some row r (sym found ∙ ap (find (plan.is_for call)) (staying-all plan.is_empty session number rows (omega (arith, same_session))) ∙ is) in
          clash (sym plain.1 ∙ ap (λ (k : S). verdict_of (Some (plan.kept k).number) number) (sym same) ∙ fresh)

  -- nor is one that has no row among those that stay
  pub repeat-absent : (number : Number) (call : Call) (session : ℕ) (rows : List S) → find (plan.is_for call) (staying plan.is_empty session number rows) ≡ None
      → IsPlainRepeat session (option_map plan.kept (find (plan.is_for call) rows)) number → ⊥
  repeat-absent number call session rows none = by (find (plan.is_for call) rows) refl
    where
      clash : (r : S) → Some r ≡ None → ⊥
      clash r h = cc

      by : (o : Option S) → find (plan.is_for call) rows ≡ o → IsPlainRepeat session (option_map plan.kept o) number → ⊥
      by None is plain = plain
      by (Some r) is plain =
          let same_session = plain.0 in
          clash r (sym is ∙ sym (ap (find (plan.is_for call)) (staying-all plan.is_empty session number rows (omega (arith, same_session)))) ∙ none)

-- a number that isn't fresh is of no later session than the last one
not_fresh : (last number : Number) → (verdict_of (Some last) number ≡ Fresh → ⊥) → number.session ≤ last.session
not_fresh last number h = by (nat_lt last.session number.session) refl
  where
    by : (b : Bool) → nat_lt last.session number.session ≡ b → number.session ≤ last.session
    by true e = absurd (h (fresh-later last number (ltb-true last.session number.session e)))
    by false e = grind (arith, nat_tests)

module _ {Fixed Own S : Type 0} (plan : Plan Fixed Own S) (is_sound : Own → S → Type 0) (is_frugal : Call → Type 0) (fixed : Fixed) (number : Number) (call : Call) (old : RowsState Own S) (agrees : List S → Type 0) (empty : ℕ)
    (kept : AreKept plan is_sound agrees old empty) where
  -- an answer or an error that changes nothing
  answers-same : (r : Result Answer CoreFault) (answer : Answer) → IfOk r (λ a. a ≡ answer) → IsAnswered plan fixed number call old old answer
      → (IsPlainRepeat old.session (option_map plan.kept (find (plan.is_for call) old.rows)) number → IsOk r) → (IsLetThrough (rows_machine plan fixed) old number call → ⊥)
      → Answers plan is_sound is_frugal fixed number call old old agrees empty r
  answers-same (Ok a) answer same is repeated through =
      answers-ok plan is_sound is_frugal fixed number call old old agrees empty a (subst (IsAnswered plan fixed number call old old) (sym same) is) kept
  answers-same (Err fault) answer same is repeated through =
      answers-err plan is_sound is_frugal fixed number call old old agrees empty fault refl kept (λ plain. false≢true (repeated plain)) (λ frugal let_through ok. through let_through)

  -- a call that is over
  pub over-answers : (r : Result Answer CoreFault) → number.session < old.session → IsTrue (is_party_of (kind_of call) (plan.party fixed)) → IfOk r (λ a. a ≡ record { kind = kind_of call; reply = stale_reply; row = None })
      → Answers plan is_sound is_frugal fixed number call old old agrees empty r
  over-answers r h party same =
      answers-same r (record { kind = kind_of call; reply = stale_reply; row = None }) same
      (answered-over plan fixed number call old (record { kind = kind_of call; reply = stale_reply; row = None }) h refl (stale-allowed (plan.party fixed) (kind_of call) party))
      (λ plain. absurd (no_repeat (option_map plan.kept (find (plan.is_for call) old.rows)) plain)) (λ through. false≢true (sym through.not_over ∙ lt-ltb number.session old.session h))
    where
      no_repeat : (o : Option Kept) → IsPlainRepeat old.session o number → ⊥
      no_repeat None plain = plain
      no_repeat (Some k) plain = let same_session = plain.0 in omega (arith, same_session, h)

  module _ (row : S) (place : ℕ) (h : old.session ≤ number.session) (at : slice_get old.rows place ≡ Some row) (found : find (plan.is_for call) (staying plan.is_empty old.session number old.rows) ≡ Some row) where
    -- a call that isn't fresh for its row is of the present session
    same-session : (verdict_of (Some (plan.kept row).number) number ≡ Fresh → ⊥) → old.session ≡ number.session
    same-session not_again =
        let last = not_fresh (plan.kept row).number number not_again in
        let current = all-at (IsCurrentRow plan old.session) old.rows place row kept.current at in
        let before = current.before in
        omega (arith, last, before, h)

    -- a call that comes late for its row
    pub late-answers : (r : Result Answer CoreFault) → verdict_of (Some (plan.kept row).number) number ≡ Stale → IsTrue (is_party_of (kind_of call) (plan.party fixed))
        → IfOk r (λ a. a ≡ record { kind = kind_of call; reply = stale_reply; row = None }) → Answers plan is_sound is_frugal fixed number call old old agrees empty r
    late-answers r late party same =
        answers-same r (record { kind = kind_of call; reply = stale_reply; row = None }) same
        (answered-late plan fixed number call old row (record { kind = kind_of call; reply = stale_reply; row = None }) (same-session never) found late refl (stale-allowed (plan.party fixed) (kind_of call) party))
        (λ plain. absurd (by (find (plan.is_for call) old.rows) refl plain)) (λ through. never (through-fresh plan fixed number call old row found through))
      where
        never : verdict_of (Some (plan.kept row).number) number ≡ Fresh → ⊥
        never fresh = clash (sym late ∙ fresh)
          where
            clash : Stale ≡ Fresh → ⊥
            clash e = cc

        by : (o : Option S) → find (plan.is_for call) old.rows ≡ o → IsPlainRepeat old.session (option_map plan.kept o) number → ⊥
        by None is plain = plain
        by (Some k) is plain =
            let same_session = plain.0 in
            let own : row ≡ k = same_Some row k (sym found ∙ ap (find (plan.is_for call)) (staying-all plan.is_empty old.session number old.rows (omega (arith, same_session))) ∙ is) in
            clash (sym late ∙ ap (λ (s : S). verdict_of (Some (plan.kept s).number) number) own ∙ plain.1)
          where
            clash : Stale ≡ Repeated → ⊥
            clash e = cc

    -- one that comes again gets what is kept
    pub again-answers : (orderly : IsOrderly plan is_sound) (r : Result Answer CoreFault) → verdict_of (Some (plan.kept row).number) number ≡ Repeated
        → IfOk r (λ a. a ≡ record { kind = (plan.kept row).kind; reply = (plan.kept row).reply; row = None }) → ((plan.kept row).reply.detail ≡ [] → IsOk r)
        → Answers plan is_sound is_frugal fixed number call old old agrees empty r
    again-answers orderly r again same plainly =
        answers-same r (record { kind = (plan.kept row).kind; reply = (plan.kept row).reply; row = None }) same
        (answered-again plan fixed number call old row (record { kind = (plan.kept row).kind; reply = (plan.kept row).reply; row = None }) (same-session never) found again refl
        (orderly.sound_allowed fixed old.own row (all-at (is_sound old.own) old.rows place row kept.each at)))
        (by (find (plan.is_for call) old.rows) refl) (λ through. never (through-fresh plan fixed number call old row found through))
      where
        never : verdict_of (Some (plan.kept row).number) number ≡ Fresh → ⊥
        never fresh = clash (sym again ∙ fresh)
          where
            clash : Repeated ≡ Fresh → ⊥
            clash e = cc

        by : (o : Option S) → find (plan.is_for call) old.rows ≡ o → IsPlainRepeat old.session (option_map plan.kept o) number → IsOk r
        by None is plain = absurd plain
        by (Some k) is plain =
            let same_session = plain.0 in
            let own : row ≡ k = same_Some row k (sym found ∙ ap (find (plan.is_for call)) (staying-all plan.is_empty old.session number old.rows (omega (arith, same_session))) ∙ is) in
            plainly (ap (λ (s : S). (plan.kept s).reply.detail) own ∙ plain.2)
