-- What stays of rows that were kept without a session: they are of the greatest session of all.
use Rattle.std.proofs.Common.{◌≡◌, ◌≤◌, ℕ, List, [], ◌∷◌, max, Bool, ◌||◌, ◌∙◌, ap, refl, sym, subst, arith}
use Rattle.std.specs.Prelude.{All, count_by, filter, is_some, ◌==◌}
use Rattle.std.specs.List.{AllByRecursion}
use Rattle.std.proofs.lemmas.List.Elements.{All-from_recursion, filter_agree}
use Rattle.csi_types.proofs.Each.{each-map, each-weaker}
use Rattle.csi_types.proofs.Filters.{filter-of_map}
use Rattle.csi_fence.specs.Public.Rows as behind
use Rattle.csi_fence.proofs.KeptRows.{IsUpTo, kept-filter}
use Rattle.csi_node.specs.declared.row.NodeRow.{NodeRow}
use Rattle.csi_node.specs.Model.OneRow.{NodeRowShown, node_row_shown}
use Rattle.csi_node.specs.Model.Record.{parts}
use Rattle.csi_node.specs.Public.Plan.{AreNodeRows, is_sound_by, node_plan}
use Rattle.csi_node.specs.Public.Record.{IsCurrent, AreSoundRows}
use Rattle.csi_node.specs.Public.WithoutSession.{latest_session, stays_in}
use Rattle.csi_node.proofs.ChangedRows.{staged-tells}
use Rattle.csi_node.proofs.RecordRules.{places-rise, record-current, record-rules}

-- no row's last call is of a later session than the greatest
latest-most : (rows : List NodeRow) → AllByRecursion (λ (row : NodeRow). row.last.session ≤ latest_session rows) rows
latest-most [] = tt
latest-most (row ∷ rows) = (
  omega arith,
  each-weaker (λ (r : NodeRow). r.last.session ≤ latest_session rows) (λ (r : NodeRow). r.last.session ≤ max row.last.session (latest_session rows)) rows (λ r le. omega (arith, le)) (latest-most rows),
)

-- so do the rows as they are shown
latest-shown : (rows : List NodeRow) → All (IsUpTo node_plan (latest_session rows)) (parts rows)
latest-shown rows =
    All-from_recursion (IsUpTo node_plan (latest_session rows)) (parts rows)
    (each-map (λ (row : NodeRow). row.last.session ≤ latest_session rows) (IsUpTo node_plan (latest_session rows)) node_row_shown rows (λ row most. most) (latest-most rows))

-- rows that stay, as they are shown
parts-left : (session : ℕ) (rows : List NodeRow) → parts (filter (stays_in session) rows) ≡ filter (behind.stays_in node_plan session) (parts rows)
parts-left session rows =
    sym (filter-of_map (λ (row : NodeRowShown). is_some row.staged || (row.kept.number.session == session)) node_row_shown rows)
    ∙ filter_agree (λ (row : NodeRowShown). is_some row.staged || (row.kept.number.session == session)) (behind.stays_in node_plan session)
    (λ row. ap (λ (b : Bool). b || (row.kept.number.session == session)) (sym (staged-tells row.staged))) (parts rows)

-- they keep the rules of a record of the greatest session
pub rules-found : (rows left : List NodeRow) (session : ℕ) → session ≡ latest_session rows → left ≡ filter (stays_in session) rows → AreSoundRows (parts rows)
    → AreSoundRows (parts left) × IsCurrent session (parts left)
rules-found rows left session latest stay rules =
    let most : All (IsUpTo node_plan session) (parts rows) = subst (λ (s : ℕ). All (IsUpTo node_plan s) (parts rows)) (sym latest) (latest-shown rows) in
    let kept : AreNodeRows session left (count_by node_plan.is_empty (parts left)) =
    kept-filter node_plan is_sound_by (λ l. Unit {0}) session (parts rows) (record { own = tt; session = session; rows = parts left }) (count_by node_plan.is_empty (parts left))
    (places-rise (parts rows) rules.rising) rules.limit rules.each most refl (ap parts stay ∙ parts-left session rows) tt refl in
    (record-rules session left (count_by node_plan.is_empty (parts left)) kept, record-current session left (count_by node_plan.is_empty (parts left)) kept)
