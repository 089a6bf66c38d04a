-- What a node is once a later session has begun: all that is staged and published stays, and of each row either all stays or nothing.
use Rattle.std.proofs.Common.{◌≡◌, ◌⊎◌, ℕ, List, Bool, true, false, refl, sym, ◌∙◌, ap, inl, inr}
use Rattle.std.specs.Prelude.{Option, Some, None, option_map, is_some, ◌==◌}
use Rattle.std.proofs.lemmas.Bool.{eqb-true, true≢false, false_from_ne_true}
use Rattle.csi_types.proofs.Searches.{find-filter, find-filtered}
use Rattle.csi_types.specs.Public.PluginThing.{PluginThing, Exists, Attached, Staged, Published}
use Rattle.csi_node.specs.Model.State.{NodeState, AnsweredVolume, row_with_id, staged_of}
use Rattle.csi_node.specs.Model.Fenced.{begun}
use Rattle.csi_node.specs.Public.View.{held_on, kept_on}
use Rattle.csi_node.proofs.ThingRows.{row_id, kept_at, kept_on-at}

-- how each thing is stays
pub begun-held : (node : List ℕ) (session : ℕ) (state : NodeState) (thing : PluginThing) → held_on node (begun session state) thing ≡ held_on node state thing
begun-held node session state (Exists name) = refl
begun-held node session state (Attached id there) = refl
begun-held node session state (Staged id there) = refl
begun-held node session state (Published id there target) = refl

module _ (session id : ℕ) (state : NodeState) where
  -- the row has this id
  abbrev is_own : AnsweredVolume → Bool
  is_own row = row.id == id

  -- the row's volume is staged
  abbrev stays : AnsweredVolume → Bool
  stays row = is_some (staged_of row.id state)

  -- each row stays, or is gone
  pub begun-row : (row_with_id id (begun session state) ≡ row_with_id id state) ⊎ (row_with_id id (begun session state) ≡ None)
  begun-row = by (is_some (staged_of id state)) refl
    where
      by : (b : Bool) → is_some (staged_of id state) ≡ b → (row_with_id id (begun session state) ≡ row_with_id id state) ⊎ (row_with_id id (begun session state) ≡ None)
      by true staged = inl (find-filter is_own stays state.rows (λ row own. ap (λ (n : ℕ). is_some (staged_of n state)) (eqb-true row.id id own) ∙ staged))
      by false unstaged =
          inr (find-filtered is_own stays state.rows (λ row kept. false_from_ne_true (row.id == id) (λ own.
          true≢false (sym kept ∙ ap (λ (n : ℕ). is_some (staged_of n state)) (eqb-true row.id id own) ∙ unstaged))))

-- and what is kept for each thing
pub begun-kept : (node : List ℕ) (session : ℕ) (state : NodeState) (thing : PluginThing) → (kept_on node (begun session state) thing ≡ kept_on node state thing) ⊎ (kept_on node (begun session state) thing ≡ None)
begun-kept node session state thing = by (row_id node thing) (kept_on-at node (begun session state) thing) (kept_on-at node state thing)
  where
    of_row : (id : ℕ) → (row_with_id id (begun session state) ≡ row_with_id id state) ⊎ (row_with_id id (begun session state) ≡ None)
        → kept_on node (begun session state) thing ≡ kept_at (Some id) (begun session state) → kept_on node state thing ≡ kept_at (Some id) state
        → (kept_on node (begun session state) thing ≡ kept_on node state thing) ⊎ (kept_on node (begun session state) thing ≡ None)
    of_row id (inl same) now before = inl (now ∙ ap (option_map (λ (row : AnsweredVolume). row.kept)) same ∙ sym before)
    of_row id (inr none) now before = inr (now ∙ ap (option_map (λ (row : AnsweredVolume). row.kept)) none)

    by : (o : Option ℕ) → kept_on node (begun session state) thing ≡ kept_at o (begun session state) → kept_on node state thing ≡ kept_at o state
        → (kept_on node (begun session state) thing ≡ kept_on node state thing) ⊎ (kept_on node (begun session state) thing ≡ None)
    by None now before = inr now
    by (Some id) now before = of_row id (begun-row session id state) now before
