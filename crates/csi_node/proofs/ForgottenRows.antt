-- A node of which no volume is staged has no row once a session begins, and then the row of its call at most.
use Rattle.std.proofs.Common.{◌≡◌, ◌≤◌, ℕ, List, [], ◌∷◌, true, length, refl, sym, ap, subst, arith}
use Rattle.std.specs.Prelude.{Option, Some, None, option_map, find, ◌==◌, codes}
use Rattle.csi_types.specs.declared.number.Number.{Number}
use Rattle.csi_types.specs.declared.call.Call.{Call}
use Rattle.csi_types.specs.declared.call.Call.TheVariants.{NodeStageVolume, NodeUnstageVolume}
use Rattle.csi_types.specs.declared.mode.Mode.TheVariants.{SingleNodeWriter}
use Rattle.csi_fence.specs.declared.fence.Verdict.TheVariants.{Fresh}
use Rattle.csi_fence.specs.Public.Delivery.{last_of}
use Rattle.csi_fence.specs.Model.Fence.{Kept, is_over, verdict_of}
use Rattle.csi_fence.specs.Model.Fenced.{Fenced}
use Rattle.csi_fence.proofs.LetThrough.{is_carried_out, over_call}
use Rattle.csi_node.specs.Model.State.{NodeState, AnsweredVolume, row_of_volume, row_for, volume_of}
use Rattle.csi_node.specs.Public.View.{empty_node}
use Rattle.csi_node.specs.Model.Table.{Change, changed, lifecycle_row, node_row}
use Rattle.csi_node.specs.Public.Fenced.{after_frames}
use Rattle.csi_node.specs.Model.Fenced.{carried_out, keep, kept_for, kept_rows, node_at}
use Rattle.csi_node.specs.Private.Worked.{ForgottenRow, block, first_session_call, forgotten, number}
use Rattle.csi_node.proofs.CarriedOut.{Carried, no_room, has_room, was_carried, kept_of, session_then}
use Rattle.csi_node.proofs.LastCalls.{changed-rows}

-- a node that has nothing, of session 2
abbrev bare : NodeState
bare = record { rows = []; session = 2; staged = []; published = [] }

-- the first number of that session
abbrev first : Number
first = record { session = 2; call = 1 }

-- no call has a row there
no_row : (call : Call) → row_for call bare ≡ None
no_row call = by (volume_of call)
  where
    by : (o : Option ℕ) → row_of_volume o bare ≡ None
    by None = refl
    by (Some id) = refl

-- once something is kept there is one row at most
one_row : (volume : Option ℕ) (kept : Kept) (change : Change) → length (keep volume kept (changed bare change)).rows ≤ 1
one_row None kept change = let none = ap length (changed-rows bare change) in omega (arith, none)
one_row (Some id) kept change =
    let one = ap (λ (rows : List AnsweredVolume). length (kept_rows id kept rows (find (λ (row : AnsweredVolume). row.id == id) rows))) (changed-rows bare change) in
    omega (arith, one)

-- the session stays, and there is one row at most
pub record IsBare (state : NodeState) : Type 0 where
  pub session : state.session ≡ 2
  pub few : length state.rows ≤ 1

-- the state after the session's first call is such a one
carried_bare : (call : Call) (after : Fenced NodeState) → Carried (codes "n1") bare first call after → IsBare after.state
carried_bare call _ (no_room full) = record { session = refl; few = omega arith }
carried_bare call _ (has_room room) = record {
  session = session_then bare first call;
  few = one_row (volume_of call) (kept_of bare first call) (lifecycle_row bare call).change;
}

-- so it is once volume 1 is forgotten
forgotten_bare : (call : Call) → IsBare (after_frames (codes "n1") empty_node (forgotten call))
forgotten_bare call =
    let was : NodeState = after_frames (codes "n1") empty_node (first_session_call 1 (NodeStageVolume 1 (block SingleNodeWriter)) ∷ first_session_call 2 (NodeUnstageVolume 1) ∷ []) in
    let fresh : verdict_of (last_of (kept_for call bare)) first ≡ Fresh = ap (λ (o : Option AnsweredVolume). verdict_of (last_of (option_map (λ (row : AnsweredVolume). row.kept) o)) first) (no_row call) in
    subst (λ (f : Fenced NodeState). IsBare f.state) (sym (is_carried_out (node_at (codes "n1")) was first call (record { not_over = refl; fresh = fresh })))
    (carried_bare call (carried_out (codes "n1") bare first call (node_row bare call)) (was_carried (codes "n1") bare first call))

-- the old staging is stale there, and changes nothing
pub forgotten_row : (call : Call) → ForgottenRow call
forgotten_row call =
    let state : NodeState = after_frames (codes "n1") empty_node (forgotten call) in
    let bare_then = forgotten_bare call in
    let over : is_over state.session (number 1) ≡ true = ap (λ (session : ℕ). is_over session (number 1)) bare_then.session in
    let late = over_call (node_at (codes "n1")) state (number 1) (NodeStageVolume 1 (block SingleNodeWriter)) over in
    record {
      late = ap (λ (f : Fenced NodeState). f.reply) late;
      few = subst (λ (f : Fenced NodeState). length f.state.rows ≤ 1) (sym late) bare_then.few;
    }
