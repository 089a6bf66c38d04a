-- Rows that keep the rules of a record show no state but safe ones.
use Rattle.std.proofs.Common.{◌≡◌, ℕ, ◌≤◌, List, [], ◌∷◌, map, length, Bool, true, false, refl, sym, ◌∙◌, ap, subst, arith}
use Rattle.std.specs.Prelude.{Option, Some, None, ◌==◌, All}
use Rattle.std.proofs.lemmas.Bool.{eq-eqb}
use Rattle.csi_types.specs.declared.capability.Capability.{Capability}
use Rattle.csi_types.specs.Model.Members.{IsAmong, EachTwo}
use Rattle.csi_types.specs.Model.Sharing.{allows_one_target}
use Rattle.csi_types.proofs.Members.{all_of, among-map, in_filter}
use Rattle.csi_types.proofs.Pairs.{two-by_key, two-more}
use Rattle.csi_node.specs.declared.row.NodeRow.{NodeRow}
use Rattle.csi_node.specs.declared.row.NodeTarget.{NodeTarget}
use Rattle.csi_node.specs.Model.State.{NodeState, PublishedVolume, staged_of, published_of}
use Rattle.csi_node.specs.Model.Shown.{RowsShow}
use Rattle.csi_node.specs.Model.OneRow.{NodeRowShown}
use Rattle.csi_node.specs.Public.OneRow.{state_shown, published_so, published_by, IsSoundRow}
use Rattle.csi_node.specs.Model.Record.{parts}
use Rattle.csi_node.specs.Public.Record.{AreSoundRows}
use Rattle.csi_node.specs.Public.Safe.{AllowTwo, IsPublishedRight}
use Rattle.csi_node.proofs.CopiedRows.{there-sound}
use Rattle.csi_node.proofs.OneRow.{staged_of-alone}
use Rattle.csi_node.proofs.StateChanges.{part-staged}
use Rattle.csi_node.proofs.ShownAfter.{ShowsAll, row_of, row_of-id, alone_in, part_of, all-from_shows}

-- targets are published in the capability in which the volume is staged
in_capability : (id : ℕ) (capability : Capability) (targets : List NodeTarget) (p : PublishedVolume) → IsAmong p (map (published_so id capability) targets) → p.capability ≡ capability
in_capability id capability targets p among = ap (λ (q : PublishedVolume). q.capability) (among-map (published_so id capability) targets p among).2

-- what is published by a row is in the capability in which the row is staged
so_staged : (id : ℕ) (o : Option Capability) (targets : List NodeTarget) (p : PublishedVolume) → IsAmong p (published_by id o targets) → o ≡ Some p.capability
so_staged id None targets p among = absurd among
so_staged id (Some capability) targets p among = ap Some (sym (in_capability id capability targets p among))

-- neither is in a mode that allows one target
abbrev AreShared : PublishedVolume → PublishedVolume → Type 0
AreShared a b = (allows_one_target a.capability.mode ≡ false) × (allows_one_target b.capability.mode ≡ false)

-- so it is of each two targets of a volume whose mode allows more
each-shared : (id : ℕ) (capability : Capability) (targets : List NodeTarget) → allows_one_target capability.mode ≡ false → EachTwo AreShared (map (published_so id capability) targets)
each-shared id capability [] shared = tt
each-shared id capability (target ∷ targets) shared = (
  all_of (AreShared (published_so id capability target)) (map (published_so id capability) targets)
      (λ p among. (shared, ap (λ (c : Capability). allows_one_target c.mode) (in_capability id capability targets p among) ∙ shared)),
  each-shared id capability targets shared,
)

-- and where there is one target at most, no two are to be looked at
one-shared : (id : ℕ) (capability : Capability) (targets : List NodeTarget) → length targets ≤ 1 → EachTwo AreShared (map (published_so id capability) targets)
one-shared id capability [] few = tt
one-shared id capability (target ∷ []) few = (tt, tt)
one-shared id capability (target ∷ next ∷ targets) few = absurd (omega arith)

-- so it is of what a row that keeps the rules has published
row-shared : (id : ℕ) (o : Option Capability) (targets : List NodeTarget) → ((capability : Capability) → o ≡ Some capability → allows_one_target capability.mode ≡ true → length targets ≤ 1) → EachTwo AreShared (published_by id o targets)
row-shared id None targets single = tt
row-shared id (Some capability) targets single = by (allows_one_target capability.mode) refl
  where
    by : (b : Bool) → allows_one_target capability.mode ≡ b → EachTwo AreShared (map (published_so id capability) targets)
    by true one = one-shared id capability targets (single capability refl one)
    by false shared = each-shared id capability targets shared

module _ (rows : List NodeRowShown) (state : NodeState) (each : All IsSoundRow rows) (all : ShowsAll rows state) where
  -- the state has a volume staged as its row has it
  row_staged : (id : ℕ) (row : NodeRowShown) → row_of id rows ≡ Some row → staged_of id state ≡ row.staged
  row_staged id row found =
      sym (part-staged id (alone_in (row_of id rows)) state (part_of id rows state all))
      ∙ ap (λ (o : Option NodeRowShown). staged_of id (alone_in o)) found
      ∙ ap (λ (n : ℕ). staged_of n (state_shown row)) (sym (row_of-id id rows row found))
      ∙ staged_of-alone row

  -- what is published of a volume is what its row has
  row_published : (id : ℕ) (o : Option NodeRowShown) → row_of id rows ≡ o → (alone_in o).published ≡ published_of id state
  row_published id o found = ap (λ (x : Option NodeRowShown). (alone_in x).published) (sym found) ∙ all.published id

  -- what the state has published is among what the volume's row has
  among_own : (p : PublishedVolume) (o : Option NodeRowShown) → row_of p.volume rows ≡ o → IsAmong p state.published → IsAmong p (alone_in o).published
  among_own p o found among =
      subst (IsAmong p) (sym (row_published p.volume o found)) (in_filter (λ (q : PublishedVolume). q.volume == p.volume) state.published p among (eq-eqb p.volume p.volume refl))

  -- what a row has published is staged so
  staged_by_row : (p : PublishedVolume) (o : Option NodeRowShown) → row_of p.volume rows ≡ o → IsAmong p (alone_in o).published → staged_of p.volume state ≡ Some p.capability
  staged_by_row p None found among = absurd among
  staged_by_row p (Some row) found among = row_staged p.volume row found ∙ so_staged row.id row.staged row.targets p among

  -- no two targets of a volume are in a mode that allows one
  shared_in : (id : ℕ) (o : Option NodeRowShown) → row_of id rows ≡ o → EachTwo AreShared (alone_in o).published
  shared_in id None found = tt
  shared_in id (Some row) found = row-shared row.id row.staged row.targets (there-sound rows id row each found).targets.single

  -- each publication of the state is right
  published_right : IsPublishedRight state
  published_right = record {
    staged = λ p among. staged_by_row p (row_of p.volume rows) refl (among_own p (row_of p.volume rows) refl among);
    targets =
        two-more (λ (a b : PublishedVolume). a.volume ≡ b.volume → AreShared a b) AllowTwo state.published (λ a b shared. record { first = λ same. (shared same).0; second = λ same. (shared same).1 })
        (two-by_key AreShared (λ (p : PublishedVolume). p.volume) state.published (λ id. subst (EachTwo AreShared) (all.published id) (shared_in id (row_of id rows) refl)));
  }

-- in a state that a record's rows show, what is published is right
pub right-from : (rows : List NodeRow) (state : NodeState) → AreSoundRows (parts rows) → RowsShow rows state → IsPublishedRight state
right-from rows state rules shows = published_right (parts rows) state rules.each (all-from_shows rows state shows)
