-- The rows of volumes that aren't staged are forgotten: the rest shows the state in which a session has begun.
use Rattle.std.proofs.Common.{◌≡◌, ℕ, List, [], ◌∷◌, map, Bool, cond, refl, sym, ◌∙◌, ap, arith, inl, inr}
use Rattle.std.specs.Prelude.{Option, Some, None, filter, ◌==◌, is_some}
use Rattle.std.proofs.lemmas.Bool.{eq-eqb, ne_eqb}
use Rattle.csi_types.specs.declared.capability.Capability.{Capability}
use Rattle.csi_types.specs.Model.Members.{IsAmong, EachTwo}
use Rattle.csi_types.proofs.Members.{each_of}
use Rattle.csi_fence.proofs.RisingRows.{once-rise}
use Rattle.csi_types.proofs.PassingByKey.{find-passing, length-by_key, passing, passing-by_key}
use Rattle.csi_node.specs.Model.State.{NodeState, AnsweredVolume, StagedVolume, staged_of}
use Rattle.csi_node.specs.Public.View.{empty_node}
use Rattle.csi_node.specs.Model.Fenced.{begun}
use Rattle.csi_node.specs.Model.OneRow.{NodeRowShown}
use Rattle.csi_node.specs.Public.OneRow.{state_shown, staged_by, published_by}
use Rattle.csi_node.specs.Public.Plan.{node_plan}
use Rattle.csi_node.proofs.OneRow.{staged_of-alone}
use Rattle.csi_node.proofs.StateChanges.{part-staged}
use Rattle.csi_node.proofs.ShownAfter.{ShowsAll, row_of, alone_in, answered_of, part_of}
use Rattle.csi_node.proofs.RecordRules.{IsRowBefore}

-- the volume is staged
abbrev pub is_staged : NodeRowShown → Bool
is_staged row = is_some row.staged

-- a row among rows by rising id is found by its id
found-among : (rows : List NodeRowShown) → EachTwo IsRowBefore rows → (row : NodeRowShown) → IsAmong row rows → row_of row.id rows ≡ Some row
found-among [] rise row among = absurd among
found-among (first ∷ rows) rise row (inl same) =
    ap (λ (b : Bool). cond b (Some first) (row_of row.id rows)) (eq-eqb first.id row.id (ap (λ (r : NodeRowShown). r.id) (sym same))) ∙ ap Some (sym same)
found-among (first ∷ rows) rise row (inr among) =
    let before = each_of (IsRowBefore first) rows row rise.0 among in
    ap (λ (b : Bool). cond b (Some first) (row_of row.id rows)) (ne_eqb first.id row.id (λ e. omega (arith, e, before))) ∙ found-among rows rise.1 row among

-- a row that isn't staged has nothing of the state
alone-unstaged : (row : NodeRowShown) → row.staged ≡ None → state_shown row ≡ empty_node
alone-unstaged row e = λ i. record { rows = []; session = 0; staged = staged_by row.id (e i); published = published_by row.id (e i) row.targets }

-- so it is the same of the state whether it is there or not
alone-passing : (o : Option NodeRowShown) → alone_in (passing is_staged o) ≡ alone_in o
alone-passing None = refl
alone-passing (Some row) = by row.staged refl
  where
    by : (s : Option Capability) → row.staged ≡ s → alone_in (cond (is_some row.staged) (Some row) None) ≡ state_shown row
    by None e = ap (λ (t : Option Capability). alone_in (cond (is_some t) (Some row) None)) e ∙ sym (alone-unstaged row e)
    by (Some capability) e = ap (λ (t : Option Capability). alone_in (cond (is_some t) (Some row) None)) e

-- ---- the state in which a session has begun

-- what isn't staged is forgotten there too
pub forgotten-shows : (session : ℕ) (rows : List NodeRowShown) (state : NodeState) → EachTwo IsRowBefore rows → ShowsAll rows state → ShowsAll (filter is_staged rows) (begun session state)
forgotten-shows session rows state rise all = record {
  count = length-by_key answered_of (λ (row : NodeRowShown). row.id) (λ (row : AnsweredVolume). row.id) is_staged stays rows state.rows (once-rise node_plan.id rows rise) all.kept alike;
  kept = passing-by_key answered_of (λ (row : NodeRowShown). row.id) (λ (row : AnsweredVolume). row.id) is_staged stays rows state.rows (once-rise node_plan.id rows rise) all.kept alike;
  staged = λ id. ap (λ (s : NodeState). map (λ (v : StagedVolume). v.capability) s.staged) (same id) ∙ all.staged id;
  published = λ id. ap (λ (s : NodeState). s.published) (same id) ∙ all.published id;
}
  where
    stays : AnsweredVolume → Bool
    stays row = is_some (staged_of row.id state)

    alike : (row : NodeRowShown) → IsAmong row rows → stays (answered_of row) ≡ is_staged row
    alike row among =
        ap is_some (sym (part-staged row.id (alone_in (row_of row.id rows)) state (part_of row.id rows state all))
        ∙ ap (λ (o : Option NodeRowShown). staged_of row.id (alone_in o)) (found-among rows rise row among)
        ∙ staged_of-alone row)

    same : (id : ℕ) → alone_in (row_of id (filter is_staged rows)) ≡ alone_in (row_of id rows)
    same id = ap alone_in (find-passing (λ (row : NodeRowShown). row.id == id) is_staged rows (once-rise node_plan.id rows rise id)) ∙ alone-passing (row_of id rows)
