-- What rows behind the fence answer to a call, and what that changes of them, in each case.
use Rattle.std.proofs.Common.{◌≡◌, ◌<◌, ◌≤◌, ℕ, Bool, true, false, cond, not, List, refl, sym, ◌∙◌, ap, subst, arith}
use Rattle.std.specs.Prelude.{◌≢◌, ◌==◌, Option, Some, None, option_map, find, filter, slice_get}
use Rattle.std.proofs.lemmas.Bool.{lt-ltb}
use Rattle.std.proofs.lemmas.Bool.Decides.{nat_tests}
use Rattle.csi_types.specs.declared.call.Call.{Call}
use Rattle.csi_types.specs.declared.call.Kind.{Kind}
use Rattle.csi_types.specs.declared.frame.Body.TheVariants as bodies
use Rattle.csi_types.specs.declared.number.Number.{Number}
use Rattle.csi_types.specs.declared.reply.Reply.{Reply}
use Rattle.csi_types.specs.Model.Call.{kind_of}
use Rattle.csi_types.specs.Model.Replies.{reply_frame, stale_reply}
use Rattle.csi_types.specs.Public.Frame.{IsAllowed}
use Rattle.csi_fence.specs.declared.answer.Answer.{Answer}
use Rattle.csi_fence.specs.declared.fence.Verdict.{Verdict}
use Rattle.csi_fence.specs.declared.fence.Verdict.TheVariants.{Stale, Repeated, Fresh}
use Rattle.csi_fence.specs.Model.Fence.{begins, is_over, verdict_of, verdict_of_spent}
use Rattle.csi_fence.specs.Model.Fenced.{Fenced, answered_in, answered_only, fenced_call, in_session, judged}
use Rattle.csi_fence.specs.Public.Delivery.{last_of}
use Rattle.csi_fence.specs.Public.Fence.{IsFresh}
use Rattle.csi_fence.specs.Public.Lawful.{IsLetThrough}
use Rattle.csi_fence.specs.Public.Rows.{Carried, IsAnswered, Lacking, Answered, Made, Plan, RowsState, Told, begun, carried, carried_by, carried_lacking, put_row, row_after, rows_machine, session_after, staying}
use Rattle.csi_fence.specs.Public.Table.{reply_of_lacking}
use Rattle.csi_fence.proofs.Spent.{fresh_in-later}

-- a call of no earlier session isn't over
not_over : (session : ℕ) (number : Number) → session ≤ number.session → is_over session number ≡ false
not_over session number h = grind (arith, nat_tests)

-- a call of an earlier or the same session begins none
not_begins : (session : ℕ) (number : Number) → number.session ≤ session → begins session number ≡ false
not_begins session number h = grind (arith, nat_tests)

-- after a call of no earlier session its session is the greatest
pub session-now : (session : ℕ) (number : Number) → session ≤ number.session → session_after session number ≡ number.session
session-now session number h = by (begins session number) refl
  where
    by : (b : Bool) → begins session number ≡ b → cond b number.session session ≡ number.session
    by true e = refl
    by false e = grind (arith, nat_tests)

-- after another one it is as it was
session-as_was : (session : ℕ) (number : Number) → number.session ≤ session → session ≡ session_after session number
session-as_was session number h = sym (ap (λ (b : Bool). cond b number.session session) (not_begins session number h))

-- where no session begins all rows stay
pub staying-all : {S : Type 0} (is_empty : S → Bool) (session : ℕ) (number : Number) (rows : List S) → number.session ≤ session → staying is_empty session number rows ≡ rows
staying-all {S} is_empty session number rows h = ap (λ (b : Bool). cond b (filter (λ (row : S). not (is_empty row)) rows) rows) (not_begins session number h)

-- where one begins those stay that aren't empty
pub staying-full : {S : Type 0} (is_empty : S → Bool) (session : ℕ) (number : Number) (rows : List S) → session < number.session
    → staying is_empty session number rows ≡ filter (λ (row : S). not (is_empty row)) rows
staying-full {S} is_empty session number rows h = ap (λ (b : Bool). cond b (filter (λ (row : S). not (is_empty row)) rows) rows) (lt-ltb session number.session h)

-- a number of a later session than the last one is fresh
pub fresh-later : (last number : Number) → last.session < number.session → verdict_of (Some last) number ≡ Fresh
fresh-later last number later = ap (λ (b : Bool). cond b (verdict_of_spent (Some last) number) Fresh) (fresh_in-later last number later)

module _ {Fixed Own S : Type 0} (plan : Plan Fixed Own S) (fixed : Fixed) (number : Number) (call : Call) (state : RowsState Own S) where
  -- the rows among which the call is judged
  abbrev pub stay : List S
  stay = staying plan.is_empty state.session number state.rows

  -- the state in which it is
  abbrev pub now : RowsState Own S
  now = record { own = state.own; session = session_after state.session number; rows = stay }

  -- the call's row there
  abbrev pub row_now : Option S
  row_now = find (plan.is_for call) stay

  pub in_session-now : in_session (rows_machine plan fixed) number state ≡ now
  in_session-now = by (begins state.session number)
    where
      by : (b : Bool)
          → cond b (begun plan number.session state) state
          ≡ record { own = state.own; session = cond b number.session state.session; rows = cond b (filter (λ (row : S). not (plan.is_empty row)) state.rows) state.rows }
      by true = refl
      by false = refl

  -- ---- what the fence makes of it

  -- a call of an earlier session is stale
  over : number.session < state.session → answered_in (rows_machine plan fixed) state number call ≡ answered_only (rows_machine plan fixed) state number (kind_of call) stale_reply
  over h =
      ap
      (λ (b : Bool). cond b (answered_only (rows_machine plan fixed) state number (kind_of call) stale_reply)
      (fenced_call (rows_machine plan fixed) (in_session (rows_machine plan fixed) number state) number call ((rows_machine plan fixed).kept_for call (in_session (rows_machine plan fixed) number state))))
      (lt-ltb number.session state.session h)

  -- any other is judged by its row
  judged_now : (o : Option S) → state.session ≤ number.session → row_now ≡ o
      → answered_in (rows_machine plan fixed) state number call ≡ fenced_call (rows_machine plan fixed) now number call (option_map plan.kept o)
  judged_now o h found =
      ap
      (λ (b : Bool). cond b (answered_only (rows_machine plan fixed) state number (kind_of call) stale_reply)
      (fenced_call (rows_machine plan fixed) (in_session (rows_machine plan fixed) number state) number call ((rows_machine plan fixed).kept_for call (in_session (rows_machine plan fixed) number state))))
      (not_over state.session number h)
      ∙ ap (λ (s : RowsState Own S). fenced_call (rows_machine plan fixed) s number call ((rows_machine plan fixed).kept_for call s)) in_session-now
      ∙ ap (λ (k : Option S). fenced_call (rows_machine plan fixed) now number call (option_map plan.kept k)) found

  -- by what the fence says where it has a row
  judged_there : (row : S) (verdict : Verdict) → state.session ≤ number.session → row_now ≡ Some row → verdict_of (Some (plan.kept row).number) number ≡ verdict
      → answered_in (rows_machine plan fixed) state number call ≡ judged (rows_machine plan fixed) now number call (plan.kept row) verdict
  judged_there row verdict h found is = judged_now (Some row) h found ∙ ap (judged (rows_machine plan fixed) now number call (plan.kept row)) is

  -- where the session goes on the call is judged in the state as it is
  same_state : state.session ≡ number.session → now ≡ state
  same_state same =
      λ i. record { own = state.own; session = sym (session-as_was state.session number (omega (arith, same))) i; rows = staying-all plan.is_empty state.session number state.rows (omega (arith, same)) i }

  -- ---- where nothing changes

  -- an answer that changes nothing
  unchanged : (kind : Kind) (reply : Reply) (answer : Answer) → number.session ≤ state.session → answered_in (rows_machine plan fixed) state number call ≡ answered_only (rows_machine plan fixed) state number kind reply
      → answer ≡ record { kind = kind; reply = reply; row = None } → IsAllowed (plan.party fixed) (bodies.Reply kind reply) → IsAnswered plan fixed number call state state answer
  unchanged kind reply answer h gives is allowed =
      subst (IsAnswered plan fixed number call state state) (sym is)
      (record {
        gives = gives;
        puts = record {
          session = session-as_was state.session number h;
          own = refl;
          rows = sym (staying-all plan.is_empty state.session number state.rows h);
        };
        allowed = allowed;
      })

  -- a call of an earlier session
  pub answered-over : (answer : Answer) → number.session < state.session → answer ≡ record { kind = kind_of call; reply = stale_reply; row = None }
      → IsAllowed (plan.party fixed) (bodies.Reply (kind_of call) stale_reply) → IsAnswered plan fixed number call state state answer
  answered-over answer h is allowed = unchanged (kind_of call) stale_reply answer (omega (arith, h)) (over h) is allowed

  -- one that comes late for its row
  pub answered-late : (row : S) (answer : Answer) → state.session ≡ number.session → row_now ≡ Some row → verdict_of (Some (plan.kept row).number) number ≡ Stale
      → answer ≡ record { kind = kind_of call; reply = stale_reply; row = None } → IsAllowed (plan.party fixed) (bodies.Reply (kind_of call) stale_reply)
      → IsAnswered plan fixed number call state state answer
  answered-late row answer h found stale is allowed =
      unchanged (kind_of call) stale_reply answer (omega (arith, h))
      (judged_there row Stale (omega (arith, h)) found stale ∙ ap (λ (s : RowsState Own S). answered_only (rows_machine plan fixed) s number (kind_of call) stale_reply) (same_state h)) is allowed

  -- one that comes again
  pub answered-again : (row : S) (answer : Answer) → state.session ≡ number.session → row_now ≡ Some row → verdict_of (Some (plan.kept row).number) number ≡ Repeated
      → answer ≡ record { kind = (plan.kept row).kind; reply = (plan.kept row).reply; row = None } → IsAllowed (plan.party fixed) (bodies.Reply (plan.kept row).kind (plan.kept row).reply)
      → IsAnswered plan fixed number call state state answer
  answered-again row answer h found again is allowed =
      unchanged (plan.kept row).kind (plan.kept row).reply answer (omega (arith, h))
      (judged_there row Repeated (omega (arith, h)) found again
      ∙ ap (λ (s : RowsState Own S). answered_only (rows_machine plan fixed) s number (plan.kept row).kind (plan.kept row).reply) (same_state h)) is allowed

  -- ---- where it is carried out

  -- a call that is carried out, by its row, if it has one
  carried_now : (o : Option S) → row_now ≡ o → carried plan fixed now number call ≡ carried_by plan fixed now number call o
  carried_now o found = ap (carried_by plan fixed now number call) found

  -- a call at its row
  gives_there : (row : S) → state.session ≤ number.session → row_now ≡ Some row → verdict_of (Some (plan.kept row).number) number ≡ Fresh
      → answered_in (rows_machine plan fixed) state number call
      ≡ record {
        reply = Some (reply_frame number (plan.party fixed) (kind_of call) (plan.line fixed stay row call).reply);
        state = record { own = state.own; session = session_after state.session number; rows = put_row plan.id (row_after plan number call (plan.line fixed stay row call) row) stay };
      }
  gives_there row h found fresh =
      judged_there row Fresh h found fresh
      ∙ ap (λ (c : Carried Own S). let f : Fenced (RowsState Own S) = record { reply = Some (reply_frame number (plan.party fixed) (kind_of call) c.reply); state = c.state } in f) (carried_now (Some row) found)

  -- a call that has no row
  gives_absent : (lacking : Lacking S) → state.session ≤ number.session → row_now ≡ None → plan.absent fixed state.own stay number call ≡ lacking
      → answered_in (rows_machine plan fixed) state number call
      ≡ record { reply = Some (reply_frame number (plan.party fixed) (kind_of call) (carried_lacking plan now lacking).reply); state = (carried_lacking plan now lacking).state }
  gives_absent lacking h found is =
      judged_now None h found
      ∙ ap (λ (c : Carried Own S). let f : Fenced (RowsState Own S) = record { reply = Some (reply_frame number (plan.party fixed) (kind_of call) c.reply); state = c.state } in f)
      (carried_now None found ∙ ap (carried_lacking plan now) is)

  -- no row of the id had the number
  abbrev pub IsFirst : S → Type 0
  IsFirst row = (was : S) → find (λ (other : S). plan.id other == plan.id row) state.rows ≡ Some was → (plan.kept was).number ≢ number

  -- a row that was put
  put_at : (own : Own) (row : S) (place : ℕ) (new : RowsState Own S) (answer : Answer) (reply : Reply) → state.session ≤ number.session
      → answered_in (rows_machine plan fixed) state number call
      ≡ record { reply = Some (reply_frame number (plan.party fixed) (kind_of call) reply); state = record { own = own; session = session_after state.session number; rows = put_row plan.id row stay } }
      → new ≡ record { own = own; session = number.session; rows = put_row plan.id row stay } → (plan.kept row).number ≡ number → IsFirst row → slice_get (put_row plan.id row stay) place ≡ Some row
      → answer ≡ record { kind = kind_of call; reply = reply; row = Some place } → IsAllowed (plan.party fixed) (bodies.Reply (kind_of call) reply) → IsAnswered plan fixed number call state new answer
  put_at own row place new answer reply h gives is_new numbered first stands is allowed =
      subst (IsAnswered plan fixed number call state new) (sym is)
      (subst (λ (n : RowsState Own S). IsAnswered plan fixed number call state n (record { kind = kind_of call; reply = reply; row = Some place })) (sym now_new)
      (record {
        gives = gives;
        puts = (row, stands, record { session = refl; has_number = numbered; rows = refl; fresh = first });
        allowed = allowed;
      }))
    where
      now_new : new ≡ record { own = own; session = session_after state.session number; rows = put_row plan.id row stay }
      now_new = is_new ∙ (λ i. record { own = own; session = sym (session-now state.session number h) i; rows = put_row plan.id row stay })

  -- a call at its row, which was told so
  pub answered-there : (row : S) (told : Told) (new : RowsState Own S) (place : ℕ) (answer : Answer) → state.session ≤ number.session → row_now ≡ Some row
      → verdict_of (Some (plan.kept row).number) number ≡ Fresh → told ≡ plan.line fixed stay row call
      → new ≡ record { own = state.own; session = number.session; rows = put_row plan.id (row_after plan number call told row) stay }
      → (plan.kept (row_after plan number call told row)).number ≡ number → IsFirst (row_after plan number call told row)
      → slice_get (put_row plan.id (row_after plan number call told row) stay) place ≡ Some (row_after plan number call told row)
      → answer ≡ record { kind = kind_of call; reply = told.reply; row = Some place } → IsAllowed (plan.party fixed) (bodies.Reply (kind_of call) told.reply)
      → IsAnswered plan fixed number call state new answer
  answered-there row told new place answer h found fresh is_told is_new numbered first stands is allowed =
      put_at state.own (row_after plan number call told row) place new answer told.reply h
      (gives_there row h found fresh
      ∙ ap
      (λ (t : Told).
      let f : Fenced (RowsState Own S) =
      record {
        reply = Some (reply_frame number (plan.party fixed) (kind_of call) t.reply);
        state = record { own = state.own; session = session_after state.session number; rows = put_row plan.id (row_after plan number call t row) stay };
      } in
      f)
      (sym is_told))
      is_new numbered first stands is allowed

  -- a call that has no row, and is answered alone
  pub answered-alone : (reply : Reply) (new : RowsState Own S) (answer : Answer) → state.session ≤ number.session → row_now ≡ None → plan.absent fixed state.own stay number call ≡ Answered reply
      → new ≡ record { own = state.own; session = number.session; rows = stay } → answer ≡ record { kind = kind_of call; reply = reply; row = None }
      → IsAllowed (plan.party fixed) (bodies.Reply (kind_of call) reply) → IsAnswered plan fixed number call state new answer
  answered-alone reply new answer h found is_told is_new is allowed =
      subst (IsAnswered plan fixed number call state new) (sym is)
      (subst (λ (n : RowsState Own S). IsAnswered plan fixed number call state n (record { kind = kind_of call; reply = reply; row = None })) (sym now_new)
      (record { gives = gives_absent (Answered reply) h found is_told; puts = record { session = refl; own = refl; rows = refl }; allowed = allowed }))
    where
      now_new : new ≡ now
      now_new = is_new ∙ (λ i. record { own = state.own; session = sym (session-now state.session number h) i; rows = stay })

  -- a call that has no row, and makes one
  pub answered-made : (row : S) (new : RowsState Own S) (place : ℕ) (answer : Answer) → state.session ≤ number.session → row_now ≡ None → plan.absent fixed state.own stay number call ≡ Made row
      → new ≡ record { own = plan.next state.own; session = number.session; rows = put_row plan.id row stay } → (plan.kept row).number ≡ number → IsFirst row
      → slice_get (put_row plan.id row stay) place ≡ Some row → answer ≡ record { kind = kind_of call; reply = (plan.kept row).reply; row = Some place }
      → IsAllowed (plan.party fixed) (bodies.Reply (kind_of call) (plan.kept row).reply) → IsAnswered plan fixed number call state new answer
  answered-made row new place answer h found is_told is_new numbered first stands is allowed =
      put_at (plan.next state.own) row place new answer (plan.kept row).reply h (gives_absent (Made row) h found is_told) is_new numbered first stands is allowed

  -- ---- which calls take no memory

  -- a call that is let through is fresh for its row
  pub through-fresh : (row : S) → row_now ≡ Some row → IsLetThrough (rows_machine plan fixed) state number call → verdict_of (Some (plan.kept row).number) number ≡ Fresh
  through-fresh row found through =
      subst (λ (o : Option S). IsFresh (last_of (option_map plan.kept o)) number) found
      (subst (λ (s : RowsState Own S). IsFresh (last_of ((rows_machine plan fixed).kept_for call s)) number) in_session-now through.fresh)

  -- what is carried out at the row
  pub carried-there : (row : S) → row_now ≡ Some row → (carried plan fixed (in_session (rows_machine plan fixed) number state) number call).reply ≡ (plan.line fixed stay row call).reply
  carried-there row found =
      ap (λ (s : RowsState Own S). (carried plan fixed s number call).reply) in_session-now ∙ ap (λ (c : Carried Own S). c.reply) (carried_now (Some row) found)

  -- and without one
  pub carried-absent : row_now ≡ None → (carried plan fixed (in_session (rows_machine plan fixed) number state) number call).reply ≡ reply_of_lacking plan (plan.absent fixed state.own stay number call)
  carried-absent found =
      ap (λ (s : RowsState Own S). (carried plan fixed s number call).reply) in_session-now ∙ ap (λ (c : Carried Own S). c.reply) (carried_now None found) ∙ by (plan.absent fixed state.own stay number call)
    where
      by : (lacking : Lacking S) → (carried_lacking plan now lacking).reply ≡ reply_of_lacking plan lacking
      by (Answered reply) = refl
      by (Made row) = refl
