-- The calls that are noted: what stays so when the open ones are noted anew, and when all are closed.
use Rattle.csi_orchestrator.proofs.Words.{◌≡◌, ◌<◌, ◌≤◌, ◌+◌, ◌⊎◌, inl, inr, ℕ, zero, suc, Bool, true, false, cond}
use Rattle.csi_orchestrator.proofs.Words.{List, [], ◌∷◌, length, get_or, map, refl, sym, ◌∙◌, ap, subst, arith, Option}
use Rattle.csi_orchestrator.proofs.Words.{Some, None, is_some, slice_get, nat_eq, Result, Ok, Err, IsOk, IfOk, OnOk}
use Rattle.csi_orchestrator.proofs.Words.{values_of, lookup, IndexMap, values, get, spare, index_map_len, Updates, IsAt}
use Rattle.csi_orchestrator.proofs.Words.{OpenCall, Row, Catalog, rows_of, by_name, place_noted, HasRoomForCalls}
use Rattle.csi_orchestrator.proofs.Words.{IsNoted, IsIndexed, IsNotedWith, IsClosedAt, without_call}
use Rattle.csi_orchestrator.proofs.Lemmas.{false≢true, eqb_tells, length-map, none-some, slice_get_cases, same_Some}
use Rattle.csi_orchestrator.proofs.Lemmas.{same-at}
use Rattle.csi_orchestrator.proofs.RowsUnderNames.{rows-within}
use Rattle.csi_orchestrator.proofs.ListPlaces.{at-of_get, get-of_at, at-within, all-mapped}

-- the result of what can't be refused
pub held-ok : {T E P : Type 0} (r : Result T E) → IsOk r → OnOk r P → P
held-ok (Ok x) ok p = p
held-ok (Err e) ok p = absurd (false≢true ok)

-- once a value was put under a key that had none, there is one more
pub grown : {V E : Type 0} (r : Result (Option V) E) (a b : ℕ) (o : Option V) → IsOk r → IfOk r (λ old. old ≡ o) → IfOk r (λ old. a ≡ b + cond (is_some old) 0 1) → o ≡ None → a ≡ b + 1
grown (Ok x) a b o ok is long none = long ∙ ap (λ y. b + cond (is_some y) 0 1) (is ∙ none)
grown (Err e) a b o ok is long none = absurd (false≢true ok)

-- what is noted once one more call is
noted-cases : {S : Type 0} (old new : IndexMap ℕ ℕ S) (call place other : ℕ) → Updates nat_eq old new call (Some place)
    → ((call ≡ other) × (get nat_eq new other ≡ Some place)) ⊎ ((call ≡ other → ⊥) × (get nat_eq new other ≡ get nat_eq old other))
noted-cases old new call place other updates = grind (arith, eqb_tells)

-- ---- the open calls, noted anew

-- those of the first rows are noted, and no other
pub record Renewed (old : Catalog) (k : ℕ) (now : Catalog) : Type 0 where
  pub rows : now.rows ≡ old.rows
  pub all : (place : ℕ) (row : Row) (kept : OpenCall) → IsAt (rows_of old) place row → row.open_call ≡ Some kept → place < k → place_noted now kept.number.call ≡ Some place
  pub only : (call place : ℕ) → place_noted now call ≡ Some place → (place < k) × (place_noted old call ≡ Some place)
  pub count : index_map_len now.calls ≤ k
  pub room : index_map_len old.calls + spare old.calls ≤ index_map_len now.calls + spare now.calls

-- another call of the map has no place that the call of this row has
unnoted : (old now : Catalog) (k : ℕ) (row : Row) (kept : OpenCall) → IsNoted old → Renewed old k now → IsAt (rows_of old) k row → row.open_call ≡ Some kept → place_noted now kept.number.call ≡ None
unnoted old now k row kept noted renewed at is_open = grind (arith, same_Some)

-- once the call of the next row is noted, if it has one, those of one more row are
pub renewed-more : (old now then : Catalog) (k : ℕ) (row : Row) → IsNoted old → Renewed old k now → IsAt (rows_of old) k row → then.rows ≡ now.rows → IsNotedWith k row.open_call now then → Renewed old (k + 1) then
renewed-more old now then k row noted renewed at rows more = grind (arith, eqb_tells, same-at, none-some, unnoted, noted-cases, same_Some)

-- all of them are
pub renewed-noted : (old now : Catalog) (k : ℕ) → IsNoted old → Renewed old k now → length (rows_of old) ≤ k → IsNoted now
renewed-noted old now k noted renewed over = grind (arith, at-within)

-- ---- every call is closed

-- those that were noted in the first turns are closed, and no row is otherwise
pub record ClosedBefore (old : Catalog) (turn : ℕ) (now : Catalog) : Type 0 where
  pub long : length (rows_of now) ≡ length (rows_of old)
  pub each : (place : ℕ) (row : Row) → IsAt (rows_of old) place row
      → IsAt (rows_of now) place (without_call row) ⊎ (IsAt (rows_of now) place row × ((i : ℕ) → i < turn → slice_get (values old.calls) i ≡ Some place → ⊥))
  pub calls : now.calls ≡ old.calls
  pub names : now.rows.entries ≡ map by_name (rows_of now)

-- a turn closes the row at its place
pub closed-more : (old now then : Catalog) (turn place : ℕ) → ClosedBefore old turn now → slice_get (values now.calls) turn ≡ Some place → IsClosedAt place (rows_of now) (rows_of then) → then.calls ≡ now.calls
    → (now.rows.entries ≡ map by_name (rows_of now) → then.rows.entries ≡ map by_name (rows_of then)) → ClosedBefore old (turn + 1) then
closed-more old now then turn place closed noted changed calls names = grind (arith, eqb_tells, same_Some)

-- what is looked up is among the values
looked-up : (es : List (ℕ × ℕ)) (call place : ℕ) → lookup (nat_eq call) es ≡ Some place → ((i : ℕ) → i < length es → slice_get (values_of es) i ≡ Some place → ⊥) → ⊥
looked-up [] call place is none = none-some place is
looked-up (e ∷ es) call place is none = by (nat_eq call e.0) is (λ rest. looked-up es call place rest (λ i below at. none (suc i) (omega (arith, below)) at))
  where
    by : (b : Bool) → cond b (Some e.1) (lookup (nat_eq call) es) ≡ Some place → (lookup (nat_eq call) es ≡ Some place → ⊥) → ⊥
    by true own further = none 0 (omega arith) own
    by false rest further = further rest

-- after as many turns as calls were noted, every row is without an open call
pub closed-all : (old now : Catalog) (turn : ℕ) → IsNoted old → ClosedBefore old turn now → index_map_len old.calls ≤ turn → rows_of now ≡ map without_call (rows_of old)
closed-all old now turn noted closed over = all-mapped without_call (rows_of old) (rows_of now) closed.long (λ place row at. by place row at (closed.each place row at))
  where
    not_open : (place : ℕ) (row : Row) → IsAt (rows_of old) place row → ((i : ℕ) → i < turn → slice_get (values old.calls) i ≡ Some place → ⊥) → (o : Option OpenCall) → row.open_call ≡ o → o ≡ None
    not_open place row at none None e = refl
    not_open place row at none (Some kept) e =
        absurd (looked-up old.calls.entries kept.number.call place (noted.found place row kept at e) (λ i below is. none i (omega (arith, below, over)) is))

    by : (place : ℕ) (row : Row) → IsAt (rows_of old) place row → IsAt (rows_of now) place (without_call row) ⊎ (IsAt (rows_of now) place row × ((i : ℕ) → i < turn → slice_get (values old.calls) i ≡ Some place → ⊥))
        → IsAt (rows_of now) place (without_call row)
    by place row at (inl there) = there
    by place row at (inr there) =
        let none : row.open_call ≡ None = not_open place row at there.1 row.open_call refl in
        subst (λ (r : Row). IsAt (rows_of now) place r) (λ i. record row { open_call = none i }) there.0

-- no call is noted after that
pub emptied-indexed : (rows : List Row) (now then : Catalog) → rows_of now ≡ map without_call rows → now.rows.entries ≡ map by_name (rows_of now) → then.rows ≡ now.rows → then.calls.entries ≡ []
    → HasRoomForCalls then → IsIndexed then
emptied-indexed rows now then closed names same empty room =
    let rows_same : rows_of then ≡ rows_of now = ap values same in
    record {
      rows = subst (λ (m : IndexMap (List ℕ) Row _). m.entries ≡ map by_name (values m)) (sym same) names;
      noted = record {
        found = λ place row kept at is_open. absurd (none-open place row kept rows (subst (λ (rs : List Row). IsAt rs place row) (rows_same ∙ closed) at) is_open);
        room = room;
      };
      free = λ some. let least = room some in let none = ap length empty in omega (arith, least, none);
      few = let none = ap length empty in omega (arith, none);
    }
  where
    none-open : (place : ℕ) (row : Row) (kept : OpenCall) (rs : List Row) → IsAt (map without_call rs) place row → row.open_call ≡ Some kept → ⊥
    none-open place row kept [] at is_open = at
    none-open zero row kept (r ∷ rs) at is_open = none-some kept (ap (λ (x : Row). x.open_call) at ∙ is_open)
    none-open (suc place) row kept (r ∷ rs) at is_open = none-open place row kept rs at is_open

-- the open call of the row at a place
pub open-there : (rows : List Row) (place : ℕ) (read row : Row) → slice_get rows place ≡ Some read → IsAt rows place row → read.open_call ≡ row.open_call
open-there rows place read row at is = ap (λ (r : Row). r.open_call) (same_Some read row (sym at ∙ get-of_at rows place row is))

-- a turn that notes the call of the row at its place, if it has one
pub renewed-step : (old now then : Catalog) (k last : ℕ) → IsNoted old → Renewed old k now → last ≡ length old.rows.entries → k < last → then.rows ≡ now.rows
    → ((row : Row) → IsAt (rows_of now) k row → IsNotedWith k row.open_call now then) → Renewed old (k + 1) then
renewed-step old now then k last noted renewed is below rows more = by (slice_get_cases (rows_of old) k).1 (rows-within old k (omega (arith, is, below)))
  where
    same : rows_of now ≡ rows_of old
    same = ap values renewed.rows

    by : ((x : Row) × (k < length (rows_of old)) × (slice_get (rows_of old) k ≡ Some x) × (get_or (rows_of old) k x ≡ x)) ⊎ ((length (rows_of old) ≤ k) × (slice_get (rows_of old) k ≡ None)) → k < length (rows_of old) → Renewed old (k + 1) then
    by (inl at) inside =
        let there = at-of_get (rows_of old) k at.0 at.2 in
        renewed-more old now then k at.0 noted renewed there rows (more at.0 (subst (λ (rs : List Row). IsAt rs k at.0) (sym same) there))
    by (inr past) inside = let over = past.0 in absurd (omega (arith, over, inside))

-- more calls can be noted then than there are rows
pub emptied-room : (old now then : Catalog) (turn : ℕ) → IsNoted old → ClosedBefore old turn now → then.rows ≡ now.rows → index_map_len now.calls + spare now.calls ≤ spare then.calls → HasRoomForCalls then
emptied-room old now then turn noted closed same room = grind arith

-- the call of a turn is closed
pub turn-closed : (old now then : Catalog) (turn : ℕ) → ClosedBefore old turn now → turn < length old.calls.entries
    → ((place : ℕ) → slice_get (values now.calls) turn ≡ Some place → IsClosedAt place (rows_of now) (rows_of then)) → then.calls ≡ now.calls
    → (now.rows.entries ≡ map by_name (rows_of now) → then.rows.entries ≡ map by_name (rows_of then)) → ClosedBefore old (turn + 1) then
turn-closed old now then turn closed below changed calls names =
    by (slice_get_cases (values now.calls) turn).1 (let long = length-map now.calls.entries (λ (e : ℕ × ℕ). e.1) in let same = ap (λ (m : IndexMap ℕ ℕ _). index_map_len m) closed.calls in omega (arith, below, long, same))
  where
    by : ((x : ℕ) × (turn < length (values now.calls)) × (slice_get (values now.calls) turn ≡ Some x) × (get_or (values now.calls) turn x ≡ x)) ⊎ ((length (values now.calls) ≤ turn) × (slice_get (values now.calls) turn ≡ None))
        → turn < length (values now.calls) → ClosedBefore old (turn + 1) then
    by (inl at) inside = closed-more old now then turn at.0 closed at.2 (changed at.0 at.2) calls names
    by (inr past) inside = let over = past.0 in absurd (omega (arith, over, inside))
