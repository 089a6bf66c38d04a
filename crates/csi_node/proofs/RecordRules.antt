-- The rules of a record are those of rows behind the fence.
use Rattle.std.proofs.Common.{◌≡◌, ℕ, zero, suc, ◌<◌, List, [], ◌∷◌, length, get_or, true, not, refl, sym, ◌∙◌, ap, arith, ◌⊎◌, ◌≤◌, ◌+◌, inl, inr}
use Rattle.std.specs.Prelude.{Option, Some, None, count_by, slice_get, is_some, ◌==◌}
use Rattle.csi_types.specs.Model.Members.{EachTwo}
use Rattle.csi_types.specs.declared.capability.Capability.{Capability}
use Rattle.csi_fence.specs.Public.Rows as rows
use Rattle.csi_fence.specs.Public.Rows.{AreRising, id_of}
use Rattle.csi_fence.proofs.RisingRows as risen
use Rattle.csi_node.specs.declared.row.NodeRow.{NodeRow}
use Rattle.csi_node.specs.Model.OneRow.{NodeRowShown, node_row_shown}
use Rattle.csi_node.specs.Model.Record.{parts}
use Rattle.csi_node.specs.Public.Record.{row_id_at, AreSoundRows, IsCurrent, IsCurrentRow}
use Rattle.csi_node.specs.Public.Plan.{node_plan, AreNodeRows}
use Rattle.std.proofs.lemmas.Bool.{eq-eqb}
use Rattle.std.proofs.lemmas.List.{length-map}
use Rattle.csi_types.proofs.Counts.{count-either}
use Rattle.csi_types.proofs.Members.{one-of_all}
use Rattle.csi_types.proofs.Options.{none-from_is_some}
use Rattle.csi_node.proofs.ChangedRows.{staged-tells}

-- the ids rise
abbrev pub IsRising : List NodeRowShown → Type 0
IsRising rows = (i j : ℕ) → i < j → j < length rows → row_id_at rows i < row_id_at rows j

-- the first has the lower id
abbrev pub IsRowBefore : NodeRowShown → NodeRowShown → Type 0
IsRowBefore a b = a.id < b.id

-- the id at a place
pub id_at : (rows : List NodeRowShown) (place : ℕ) → row_id_at rows place ≡ id_of node_plan.id (slice_get rows place)
id_at [] place = refl
id_at (row ∷ rows) zero = refl
id_at (row ∷ rows) (suc place) = id_at rows place

-- ids that rise do so by places
pub places-rise : (rows : List NodeRowShown) → IsRising rows → AreRising node_plan.id rows
places-rise rows rising i j lt within = omega (arith, rising i j lt within, id_at rows i, id_at rows j)

-- and the other way round
pub rise-places : (rows : List NodeRowShown) → AreRising node_plan.id rows → IsRising rows
rise-places rows rising i j lt within = omega (arith, rising i j lt within, id_at rows i, id_at rows j)

-- rows with rising ids have the lower id before the higher, any two of them
pub rows_rise : (rows : List NodeRowShown) → IsRising rows → EachTwo IsRowBefore rows
rows_rise rows rising = risen.rows_rise node_plan.id rows (places-rise rows rising)

-- a row that is current by one definition is so by the other
current-row : (session : ℕ) (row : NodeRowShown) → rows.IsCurrentRow node_plan session row → IsCurrentRow session row
current-row session row current = record { before = current.before; empty = λ none. current.empty (rw none refl) }

-- and the other way round
row-current : (session : ℕ) (row : NodeRowShown) → IsCurrentRow session row → rows.IsCurrentRow node_plan session row
row-current session row current = record { before = current.before; empty = λ none. current.empty (none-from_is_some row.staged (sym (staged-tells row.staged) ∙ ap not none)) }

-- rows behind the fence keep the rules of a record
pub record-rules : (session : ℕ) (old : List NodeRow) (empty : ℕ) → AreNodeRows session old empty → AreSoundRows (parts old)
record-rules session old empty kept = record { rising = rise-places (parts old) kept.rising; limit = kept.limit; each = kept.each }

-- and those of its sessions
pub record-current : (session : ℕ) (old : List NodeRow) (empty : ℕ) → AreNodeRows session old empty → IsCurrent session (parts old)
record-current session old empty kept = λ place row within. current-row session (get_or (parts old) place row) (kept.current place row within)

-- rows that keep the rules of a record are rows behind the fence
pub node-rows : (session : ℕ) (old : List NodeRow) (empty : ℕ) → AreSoundRows (parts old) → IsCurrent session (parts old) → empty ≡ count_by node_plan.is_empty (parts old) → AreNodeRows session old empty
node-rows session old empty rules current counted = record {
  rising = places-rise (parts old) rules.rising;
  limit = rules.limit;
  each = rules.each;
  current = λ place row within. row-current session (get_or (parts old) place row) (current place row within);
  fits = tt;
  counted = counted;
}

-- a record has at most as many rows as are of staged volumes and as are of its session
pub few-rows : (session : ℕ) (rows : List NodeRow) → IsCurrent session (parts rows)
    → length rows ≤ count_by (λ (row : NodeRowShown). is_some row.staged) (parts rows) + count_by (λ (row : NodeRowShown). row.kept.number.session == session) (parts rows)
few-rows session rows current =
    let same = length-map rows node_row_shown in
    let few = count-either (λ (row : NodeRowShown). is_some row.staged) (λ (row : NodeRowShown). row.kept.number.session == session) (parts rows)
    (λ row among. by row.staged row (one-of_all (IsCurrentRow session) (parts rows) row current among).empty) in
    omega (arith, same, few)
  where
    by : (o : Option Capability) (row : NodeRowShown) → (o ≡ None → row.kept.number.session ≡ session) → (is_some o ≡ true) ⊎ ((row.kept.number.session == session) ≡ true)
    by None row own = inr (eq-eqb row.kept.number.session session (own refl))
    by (Some capability) row own = inl refl
