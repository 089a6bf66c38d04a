-- Rows once their session was raised: the empty ones are forgotten, and the others keep the rules.
use Rattle.std.proofs.Common.{◌≡◌, ◌<◌, ◌≤◌, ℕ, Bool, true, false, cond, not, List, refl, sym, ◌∙◌, ap, subst, arith}
use Rattle.std.specs.Prelude.{All, filter, count_by, nat_lt}
use Rattle.std.proofs.lemmas.Bool.{lt-ltb}
use Rattle.csi_types.specs.declared.number.Number.{Number}
use Rattle.csi_fence.specs.Public.Rows.{AreKept, Plan, PutsNone, RowsState, begun, stays_in}
use Rattle.csi_fence.specs.Public.Raised.{raised_rows}
use Rattle.csi_fence.proofs.KeptRows.{count-forgotten, filter-stays, kept-filter, up_to}

-- a raised session does to rows what a call of it does that puts none in
pub raised-puts : {Fixed Own S : Type 0} (plan : Plan Fixed Own S) (session : ℕ) (old new : RowsState Own S) → new ≡ raised_rows plan session old → PutsNone plan (record { session = session; call = 0 }) old new
raised-puts {Fixed} {Own} {S} plan session old new is =
    let then = by (nat_lt old.session session) in
    record {
      session = ap (λ (state : RowsState Own S). state.session) is ∙ then.0;
      own = ap (λ (state : RowsState Own S). state.own) is ∙ then.1;
      rows = ap (λ (state : RowsState Own S). state.rows) is ∙ then.2;
    }
  where
    left : Bool → RowsState Own S
    left b = cond b (begun plan session old) old

    by : (b : Bool) → ((left b).session ≡ cond b session old.session) × ((left b).own ≡ old.own) × ((left b).rows ≡ cond b (filter (λ (row : S). not (plan.is_empty row)) old.rows) old.rows)
    by true = (refl, refl, refl)
    by false = (refl, refl, refl)

module _ {Fixed Own S : Type 0} (plan : Plan Fixed Own S) (is_sound : Own → S → Type 0) (agrees : List S → Type 0) (state : RowsState Own S) (empty : ℕ) (kept : AreKept plan is_sound agrees state empty)
    (session : ℕ) (later : state.session < session) where
  abbrev number : Number
  number = record { session = session; call = 0 }

  no_later : state.session ≤ session
  no_later = omega (arith, later)

  begins_so : nat_lt state.session session ≡ true
  begins_so = lt-ltb state.session session later

  -- those stay that aren't empty
  pub raised-stay : filter (stays_in plan session) state.rows ≡ filter (λ (row : S). not (plan.is_empty row)) state.rows
  raised-stay = filter-stays plan state.session number state.rows no_later kept.current ∙ ap (λ (b : Bool). cond b (filter (λ (row : S). not (plan.is_empty row)) state.rows) state.rows) begins_so

  -- so many are forgotten
  pub raised-gone : empty ≡ count_by (λ (row : S). not (stays_in plan session row)) state.rows
  raised-gone =
      kept.counted
      ∙ sym (count-forgotten plan state.session number state.rows no_later kept.current ∙ ap (λ (b : Bool). cond b (count_by plan.is_empty state.rows) 0) begins_so)

  -- what stays is what a raised session leaves
  pub raised-so : (own : Own) (now : ℕ) (rows : List S) → own ≡ state.own → now ≡ session → rows ≡ filter (stays_in plan session) state.rows
      → (let new : RowsState Own S = record { own = own; session = now; rows = rows } in new) ≡ raised_rows plan session state
  raised-so own now rows same at is =
      (λ i. record { own = same i; session = at i; rows = (is ∙ raised-stay) i })
      ∙ sym (ap (λ (b : Bool). cond b (begun plan session state) state) begins_so)

  -- and keeps the rules
  pub raised-kept : (fits : List S → Type 0) (new : RowsState Own S) (left : ℕ) → new.own ≡ state.own → new.session ≡ session → new.rows ≡ filter (stays_in plan session) state.rows → fits new.rows
      → left ≡ count_by plan.is_empty new.rows → AreKept plan is_sound fits new left
  raised-kept fits new left own at is agreed counted =
      kept-filter plan is_sound fits session state.rows new left kept.rising kept.limit (subst (λ (o : Own). All (is_sound o) state.rows) (sym own) kept.each)
      (up_to plan state.session session state.rows no_later kept.current) at is agreed counted
