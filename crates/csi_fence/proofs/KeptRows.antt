-- The rules of rows after a call: which rows stay, how many are forgotten, and what is so of those that stay.
use Rattle.std.proofs.Common.{◌≡◌, ◌<◌, ◌≤◌, ℕ, ◌+◌, Bool, true, false, cond, not, ◌||◌, List, [], ◌∷◌, length, get_or, refl, sym, ◌∙◌, ap, subst, arith}
use Rattle.std.specs.Prelude.{◌==◌, All, filter, count_by, nat_lt}
use Rattle.std.specs.List.{AllByRecursion}
use Rattle.std.proofs.lemmas.Bool.{eq-eqb, eqb-true, false≢true, ltb-true}
use Rattle.std.proofs.lemmas.Bool.Decides.{nat_tests}
use Rattle.std.proofs.lemmas.List.Elements.{All-filter, All-from_recursion, filter_passes, recursion_from_All}
use Rattle.csi_types.specs.declared.number.Number.{Number}
use Rattle.csi_types.specs.declared.rows.TheConstants.{MAX_ROWS}
use Rattle.csi_types.specs.Model.Members.{EachTwo}
use Rattle.csi_types.proofs.Each.{each-filter, each-weaker}
use Rattle.csi_types.proofs.Filters.{filter-each, filter-no_longer}
use Rattle.csi_types.proofs.Counts.{count-cons}
use Rattle.csi_fence.specs.Model.Fence.{begins}
use Rattle.csi_fence.specs.Public.Rows.{AreKept, AreRising, IsCurrentRow, Plan, RowsState, put_row, staying, stays_in}
use Rattle.csi_fence.proofs.PutRows.{put-first}
use Rattle.csi_fence.proofs.RisingRows.{IsBefore, rising-filter}
use Rattle.csi_fence.proofs.StayingRows.{one_if}

-- tests that agree on each keep the same
pub filter-alike : {S : Type 0} (p q : S → Bool) (rows : List S) → AllByRecursion (λ row. p row ≡ q row) rows → filter p rows ≡ filter q rows
filter-alike p q [] alike = refl
filter-alike {S} p q (row ∷ rows) alike =
    ap (λ (b : Bool). cond b (row ∷ filter p rows) (filter p rows)) (alike.0)
    ∙ ap (λ (rest : List S). cond (q row) (row ∷ rest) rest) (filter-alike p q rows alike.1)

-- and count the same
pub count-alike : {S : Type 0} (p q : S → Bool) (rows : List S) → AllByRecursion (λ row. p row ≡ q row) rows → count_by p rows ≡ count_by q rows
count-alike p q [] alike = refl
count-alike p q (row ∷ rows) alike =
    count-cons p row rows
    ∙ ap (λ (b : Bool). one_if b + count_by p rows) (alike.0)
    ∙ ap (λ (n : ℕ). one_if (q row) + n) (count-alike p q rows alike.1)
    ∙ sym (count-cons q row rows)

-- where none passes, none is counted
pub count-no_one : {S : Type 0} (p : S → Bool) (rows : List S) → AllByRecursion (λ row. p row ≡ false) rows → count_by p rows ≡ 0
count-no_one p [] none = refl
count-no_one p (row ∷ rows) none =
    let all = count-cons p row rows in
    let first : one_if (p row) ≡ one_if false = ap (λ (b : Bool). one_if b) none.0 in
    let rest = count-no_one p rows none.1 in
    omega (arith, all, first, rest)

-- a row that stays, put before those of its kind that stay are picked, or after
pub filter-put : {S : Type 0} (id : S → ℕ) (p : S → Bool) (new : S) (rows : List S) → p new ≡ true → EachTwo (IsBefore id) rows → filter p (put_row id new rows) ≡ put_row id new (filter p rows)
filter-put id p new [] own rise = ap (λ (b : Bool). cond b (new ∷ []) []) own
filter-put {S} id p new (row ∷ rows) own rise = by (filter-put id p new rows own rise.1) (nat_lt (id row) (id new)) refl (id row == id new) refl
  where
    first : (l : List S) → filter p (new ∷ l) ≡ new ∷ filter p l
    first l = ap (λ (b : Bool). cond b (new ∷ filter p l) (filter p l)) own

    -- where the row stands before the new one
    lower_first : (d : Bool) → nat_lt (id row) (id new) ≡ true → cond d (row ∷ put_row id new (filter p rows)) (put_row id new (filter p rows)) ≡ put_row id new (cond d (row ∷ filter p rows) (filter p rows))
    lower_first true lower = sym (ap (λ (b : Bool). cond b (row ∷ put_row id new (filter p rows)) (cond (id row == id new) (new ∷ filter p rows) (new ∷ row ∷ filter p rows))) lower)
    lower_first false lower = refl

    -- where it has its id
    same_first : (d : Bool) → nat_lt (id row) (id new) ≡ false → (id row == id new) ≡ true → new ∷ filter p rows ≡ put_row id new (cond d (row ∷ filter p rows) (filter p rows))
    same_first true not_lower same =
        sym (ap (λ (b : Bool). cond b (row ∷ put_row id new (filter p rows)) (cond (id row == id new) (new ∷ filter p rows) (new ∷ row ∷ filter p rows))) not_lower
        ∙ ap (λ (b : Bool). cond b (new ∷ filter p rows) (new ∷ row ∷ filter p rows)) same)
    same_first false not_lower same =
        let n = eqb-true (id row) (id new) same in
        sym (put-first id new (filter p rows) (each-filter (IsBefore id new) p rows (each-weaker (IsBefore id row) (IsBefore id new) rows (λ r before. omega (arith, before, n)) rise.0)))

    -- where it stands behind it
    higher_first : (d : Bool) → nat_lt (id row) (id new) ≡ false → (id row == id new) ≡ false → new ∷ cond d (row ∷ filter p rows) (filter p rows) ≡ put_row id new (cond d (row ∷ filter p rows) (filter p rows))
    higher_first true not_lower other =
        sym (ap (λ (b : Bool). cond b (row ∷ put_row id new (filter p rows)) (cond (id row == id new) (new ∷ filter p rows) (new ∷ row ∷ filter p rows))) not_lower
        ∙ ap (λ (b : Bool). cond b (new ∷ filter p rows) (new ∷ row ∷ filter p rows)) other)
    higher_first false not_lower other =
        let below : id new < id row = grind (arith, nat_tests) in
        sym (put-first id new (filter p rows) (each-filter (IsBefore id new) p rows (each-weaker (IsBefore id row) (IsBefore id new) rows (λ r before. omega (arith, before, below)) rise.0)))

    by : filter p (put_row id new rows) ≡ put_row id new (filter p rows) → (b : Bool) → nat_lt (id row) (id new) ≡ b → (c : Bool) → (id row == id new) ≡ c
        → filter p (cond b (row ∷ put_row id new rows) (cond c (new ∷ rows) (new ∷ row ∷ rows))) ≡ put_row id new (filter p (row ∷ rows))
    by rest true lower c e = ap (λ (l : List S). cond (p row) (row ∷ l) l) rest ∙ lower_first (p row) lower
    by rest false not_lower true same = first rows ∙ same_first (p row) not_lower same
    by rest false not_lower false other = first (row ∷ rows) ∙ higher_first (p row) not_lower other

module _ {Fixed Own S : Type 0} (plan : Plan Fixed Own S) where
  -- a row of the session stays in it
  pub stays-own : (session : ℕ) (row : S) → (plan.kept row).number.session ≡ session → stays_in plan session row ≡ true
  stays-own session row own = by (plan.is_empty row) (eq-eqb (plan.kept row).number.session session own)
    where
      by : (b : Bool) → ((plan.kept row).number.session == session) ≡ true → (not b || ((plan.kept row).number.session == session)) ≡ true
      by true e = e
      by false e = refl

  -- a current row stays in its session
  stays-now : (session : ℕ) (row : S) → IsCurrentRow plan session row → stays_in plan session row ≡ true
  stays-now session row current = by (plan.is_empty row) refl
    where
      by : (b : Bool) → plan.is_empty row ≡ b → (not b || ((plan.kept row).number.session == session)) ≡ true
      by true e = eq-eqb (plan.kept row).number.session session (current.empty e)
      by false e = refl

  -- and in a later one where it isn't empty
  stays-later : (session later : ℕ) (row : S) → session < later → IsCurrentRow plan session row → stays_in plan later row ≡ not (plan.is_empty row)
  stays-later session later row h current = by (plan.is_empty row) ((plan.kept row).number.session == later) refl
    where
      by : (b c : Bool) → ((plan.kept row).number.session == later) ≡ c → (not b || c) ≡ not b
      by true true e = let same = eqb-true (plan.kept row).number.session later e in let before = current.before in absurd (omega (arith, same, before, h))
      by true false e = refl
      by false c e = refl

  module _ (session : ℕ) (number : Number) (rows : List S) (h : session ≤ number.session) (current : All (IsCurrentRow plan session) rows) where
    each : AllByRecursion (IsCurrentRow plan session) rows
    each = recursion_from_All (IsCurrentRow plan session) rows current

    -- where no session begins all stay
    all_stay : begins session number ≡ false → AllByRecursion (λ (row : S). stays_in plan number.session row ≡ true) rows
    all_stay e =
        let same : session ≡ number.session = grind (arith, nat_tests) in
        each-weaker (IsCurrentRow plan session) (λ (row : S). stays_in plan number.session row ≡ true) rows
        (λ row is. subst (λ (n : ℕ). stays_in plan n row ≡ true) same (stays-now session row is)) each

    -- where one begins those stay that aren't empty
    full_stay : begins session number ≡ true → AllByRecursion (λ (row : S). stays_in plan number.session row ≡ not (plan.is_empty row)) rows
    full_stay e =
        each-weaker (IsCurrentRow plan session) (λ (row : S). stays_in plan number.session row ≡ not (plan.is_empty row)) rows
        (λ row is. stays-later session number.session row (ltb-true session number.session e) is) each

    -- those that stay in the call's session are those that stay
    pub filter-stays : filter (stays_in plan number.session) rows ≡ staying plan.is_empty session number rows
    filter-stays = by (begins session number) refl
      where
        by : (b : Bool) → begins session number ≡ b → filter (stays_in plan number.session) rows ≡ cond b (filter (λ (row : S). not (plan.is_empty row)) rows) rows
        by true e = filter-alike (stays_in plan number.session) (λ (row : S). not (plan.is_empty row)) rows (full_stay e)
        by false e = filter-each (stays_in plan number.session) rows (all_stay e)

    -- the others are the empty ones where a session begins
    pub count-forgotten : count_by (λ (row : S). not (stays_in plan number.session row)) rows ≡ cond (begins session number) (count_by plan.is_empty rows) 0
    count-forgotten = by (begins session number) refl
      where
        not_not : (b : Bool) → not (not b) ≡ b
        not_not true = refl
        not_not false = refl

        by : (b : Bool) → begins session number ≡ b → count_by (λ (row : S). not (stays_in plan number.session row)) rows ≡ cond b (count_by plan.is_empty rows) 0
        by true e =
            count-alike (λ (row : S). not (stays_in plan number.session row)) plan.is_empty rows
            (each-weaker (λ (row : S). stays_in plan number.session row ≡ not (plan.is_empty row)) (λ (row : S). not (stays_in plan number.session row) ≡ plan.is_empty row) rows
            (λ row is. ap not is ∙ not_not (plan.is_empty row)) (full_stay e))
        by false e =
            count-no_one (λ (row : S). not (stays_in plan number.session row)) rows
            (each-weaker (λ (row : S). stays_in plan number.session row ≡ true) (λ (row : S). not (stays_in plan number.session row) ≡ false) rows (λ row is. ap not is) (all_stay e))

    -- a current row stays, unless it is empty and a session begins
    pub stays-full : (row : S) → IsCurrentRow plan session row → (session < number.session → plan.is_empty row ≡ false) → stays_in plan number.session row ≡ true
    stays-full row is full = by (begins session number) refl
      where
        by : (b : Bool) → begins session number ≡ b → stays_in plan number.session row ≡ true
        by true e = let later = ltb-true session number.session e in stays-later session number.session row later is ∙ ap not (full later)
        by false e = let same : session ≡ number.session = grind (arith, nat_tests) in subst (λ (n : ℕ). stays_in plan n row ≡ true) same (stays-now session row is)

  -- the last call of a row is of no later session
  abbrev pub IsUpTo : ℕ → S → Type 0
  IsUpTo session row = (plan.kept row).number.session ≤ session

  -- current rows are of no later session than this
  pub up_to : (session later : ℕ) (rows : List S) → session ≤ later → All (IsCurrentRow plan session) rows → All (IsUpTo later) rows
  up_to session later rows h current =
      All-from_recursion (IsUpTo later) rows
      (each-weaker (IsCurrentRow plan session) (IsUpTo later) rows (λ row is. let before = is.before in omega (arith, before, h)) (recursion_from_All (IsCurrentRow plan session) rows current))

  -- what stays in a session of rows with rules keeps them
  pub kept-filter : (is_sound : Own → S → Type 0) (agrees : List S → Type 0) (session : ℕ) (before : List S) (state : RowsState Own S) (empty : ℕ) → AreRising plan.id before → length before ≤ MAX_ROWS
      → All (is_sound state.own) before → All (IsUpTo session) before → state.session ≡ session → state.rows ≡ filter (stays_in plan session) before → agrees state.rows → empty ≡ count_by plan.is_empty state.rows
      → AreKept plan is_sound agrees state empty
  kept-filter is_sound agrees session before state empty rising limit sound up same is fits counted = record {
    rising = subst (AreRising plan.id) (sym is) (rising-filter plan.id (stays_in plan session) before rising);
    limit = subst (λ (l : List S). length l ≤ MAX_ROWS) (sym is) (let fewer = filter-no_longer (stays_in plan session) before in omega (arith, fewer, limit));
    each = subst (All (is_sound state.own)) (sym is) (All-filter (stays_in plan session) (is_sound state.own) before sound);
    current = subst (λ (n : ℕ). All (IsCurrentRow plan n) state.rows) (sym same) (subst (All (IsCurrentRow plan session)) (sym is) (λ k d inside. now k d inside));
    fits = fits;
    counted = counted;
  }
    where
      own_session : (row : S) → stays_in plan session row ≡ true → plan.is_empty row ≡ true → (plan.kept row).number.session ≡ session
      own_session row stays empty = by ((plan.kept row).number.session == session) refl (sym (ap (λ (b : Bool). not b || ((plan.kept row).number.session == session)) empty) ∙ stays)
        where
          by : (b : Bool) → ((plan.kept row).number.session == session) ≡ b → b ≡ true → (plan.kept row).number.session ≡ session
          by true e h = eqb-true (plan.kept row).number.session session e
          by false e h = absurd (false≢true h)

      now : (k : ℕ) (d : S) → k < length (filter (stays_in plan session) before) → IsCurrentRow plan session (get_or (filter (stays_in plan session) before) k d)
      now k d inside = record {
        before = All-filter (stays_in plan session) (IsUpTo session) before up k d inside;
        empty = own_session (get_or (filter (stays_in plan session) before) k d) (filter_passes (stays_in plan session) before k d inside);
      }
