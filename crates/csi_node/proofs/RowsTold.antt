-- What a row is told is what the table has for its volume: a change that is made is the call's, can be made, and leads to the state that the
-- table has.
use Rattle.std.proofs.Common.{◌≡◌, ℕ, ◌<◌, List, [], ◌∷◌, map, length, Bool, true, false, cond, refl, sym, ◌∙◌, ap, subst, arith}
use Rattle.std.specs.Prelude.{Option, Some, None, find, position, codes}
use Rattle.std.proofs.lemmas.Bool.Decides.{nat_tests}
use Rattle.std.proofs.lemmas.List.{length-map}
use Rattle.std.proofs.lemmas.Option.{same_Some}
use Rattle.std.proofs.lemmas.Bool.{eqb-true, false≢true, lt-leb, true≢false}
use Rattle.csi_types.proofs.Options.{none-from_map}
use Rattle.csi_types.proofs.Places.{position-none}
use Rattle.csi_types.specs.declared.capability.Capability.{Capability}
use Rattle.csi_types.specs.declared.call.Call.{Call}
use Rattle.csi_types.specs.declared.call.Kind.{Kind}
use Rattle.csi_types.specs.declared.number.Number.{Number}
use Rattle.csi_types.specs.declared.reply.Reply.{Reply}
use Rattle.csi_types.specs.Model.Call.{kind_of}
use Rattle.csi_types.specs.Public.Call.{is_node_kind}
use Rattle.csi_fence.specs.Model.Fence.{Kept}
use Rattle.csi_types.specs.declared.status.Status.TheVariants.{ResourceExhausted}
use Rattle.csi_types.specs.Model.Replies.{plain_reply}
use Rattle.csi_fence.specs.Public.Rows.{Answered, Made}
use Rattle.csi_fence.specs.Public.Table.{IsMade}
use Rattle.csi_node.specs.declared.row.NodeTarget.{NodeTarget}
use Rattle.csi_node.specs.Model.State.{PublishedVolume, staged_of, published_of, published_at, is_published_at, volume_of}
use Rattle.csi_node.specs.Model.Table.{Change, Stays, Stages, Unstages, Publishes, Unpublishes, Outcome, lifecycle_row, changed}
use Rattle.csi_node.specs.Model.OneRow.{NodeRowShown}
use Rattle.csi_node.specs.Public.OneRow.{state_shown, published_so, published_by, TargetsFit, IsSoundRow, row_anew, row_changed}
use Rattle.csi_node.specs.Private.OneRow.{call_change, target_of_row, CanChange, HasRoomFor}
use Rattle.csi_node.specs.Public.Plan.{first_row, is_change, is_of, is_sound_by, lacking, node_plan, told_at, row_told}
use Rattle.csi_node.proofs.OneRow.{staged_of-alone, published_of-alone, published_at-staged}
use Rattle.csi_node.specs.Private.PlanLaws.{stays-by}
use Rattle.csi_node.proofs.RowChanges.{alone-changed, fits-changed, no_targets}
use Rattle.csi_node.proofs.TableOutcomes.{IsOutcome, Fits, refuses, was_staged, stages, unstages, was_published, publishes, was_unpublished, unpublishes, lifecycle_outcomes, reply-no_id}

-- what doesn't change stays
stays : (change : Change) → is_change change ≡ false → change ≡ Stays
stays Stays h = refl
stays (Stages staged) h = absurd (true≢false h)
stays (Unstages id) h = absurd (true≢false h)
stays (Publishes published) h = absurd (true≢false h)
stays (Unpublishes id target) h = absurd (true≢false h)

-- a volume that is published nowhere has no targets, where it has none without being staged
none-from : (id : ℕ) (staged o : Option Capability) (targets : List NodeTarget) → staged ≡ o → (staged ≡ None → targets ≡ []) → published_by id o targets ≡ [] → targets ≡ []
none-from id staged None targets e unstaged none = unstaged e
none-from id staged (Some capability) [] e unstaged none = refl
none-from id staged (Some capability) (target ∷ targets) e unstaged none = cc

module _ (row : NodeRowShown) (fits : TargetsFit row.staged row.targets) where
  -- how the row's volume is staged
  staged-own : (id : ℕ) (o : Option Capability) → Some id ≡ Some row.id → staged_of id (state_shown row) ≡ o → row.staged ≡ o
  staged-own id o v is = sym (staged_of-alone row) ∙ ap (λ (n : ℕ). staged_of n (state_shown row)) (sym (same_Some id row.id v)) ∙ is

  -- and where it is published
  published-own : (id : ℕ) → Some id ≡ Some row.id → published_of id (state_shown row) ≡ published_by row.id row.staged row.targets
  published-own id v = ap (λ (n : ℕ). published_of n (state_shown row)) (same_Some id row.id v) ∙ published_of-alone row

  -- so it may be published at a target that is new
  room-own : (p : PublishedVolume) → Some p.volume ≡ Some row.id → Fits (state_shown row) p → HasRoomFor row p.target p.capability
  room-own p v new =
      let staged : row.staged ≡ Some p.capability = staged-own p.volume (Some p.capability) v new.staged in
      let own : published_of p.volume (state_shown row) ≡ map (published_so row.id p.capability) row.targets =
      published-own p.volume v ∙ ap (λ (o : Option Capability). published_by row.id o row.targets) staged in
      let free : published_at row.id p.target (state_shown row) ≡ None = ap (λ (n : ℕ). published_at n p.target (state_shown row)) (sym (same_Some p.volume row.id v)) ∙ new.free in
      record {
        staged = staged;
        absolute = new.slash;
        «new» =
            none-from_map (published_so row.id p.capability) (target_of_row row p.target)
            (sym (ap (λ (o : Option Capability). find (is_published_at row.id p.target) (published_by row.id o row.targets)) staged ∙ published_at-staged row.id p.capability row.targets p.target)
            ∙ free);
        single = λ one. none-from row.id row.staged row.staged row.targets refl fits.unstaged (sym (published-own p.volume v) ∙ new.alone one);
        limit =
            let many : length (published_of p.volume (state_shown row)) ≡ length row.targets = ap length own ∙ length-map row.targets (published_so row.id p.capability) in
            let few = new.room in grind (arith, nat_tests, many, few);
      }

  -- a change that is made is the call's, and can be made
  can-by : (call : Call) (outcome : Outcome) → IsOutcome (state_shown row) call outcome → volume_of call ≡ Some row.id → is_change outcome.change ≡ true → (outcome.change ≡ call_change call) × CanChange row call
  can-by _ _ (refuses call status detail not_ok) v h = absurd (false≢true h)
  can-by _ _ (was_staged staged is) v h = absurd (false≢true h)
  can-by _ _ (stages staged is) v h = (refl, staged-own staged.volume None v is)
  can-by _ _ (unstages id is) v h = (refl, none-from row.id row.staged row.staged row.targets refl fits.unstaged (sym (published-own id v) ∙ is))
  can-by _ _ (was_published published slash is) v h = absurd (false≢true h)
  can-by _ _ (publishes published new) v h = (refl, room-own published v new)
  can-by _ _ (was_unpublished id target is) v h = absurd (false≢true h)
  can-by _ _ (unpublishes id target there is) v h = (refl, tt)

  -- where the row is told that the change is made
  can-change : (call : Call) → volume_of call ≡ Some row.id → (told_at row call).is_done ≡ true → ((lifecycle_row (state_shown row) call).change ≡ call_change call) × CanChange row call
  can-change call v done = can-by call (lifecycle_row (state_shown row) call) (lifecycle_outcomes (state_shown row) call) v done

  -- the state of the row alone is then the one after the table's change
  pub alone-told : (number : Number) (call : Call) → volume_of call ≡ Some row.id → state_shown (row_told number call (told_at row call) row) ≡ changed (state_shown row) (lifecycle_row (state_shown row) call).change
  alone-told number call v = by (is_change change) refl
    where
      change : Change
      change = (lifecycle_row (state_shown row) call).change

      by : (b : Bool) → is_change change ≡ b → state_shown (row_told number call (told_at row call) row) ≡ changed (state_shown row) change
      by true e =
          ap (λ (b : Bool). state_shown (cond b (row_changed row call) row)) e
          ∙ alone-changed row call v fits (can-change call v e).1
          ∙ ap (changed (state_shown row)) (sym (can-change call v e).0)
      by false e = ap (λ (b : Bool). state_shown (cond b (row_changed row call) row)) e ∙ ap (changed (state_shown row)) (sym (stays change e))

-- the rules of a row after a change that is made
pub sound-changed : (row : NodeRowShown) (call : Call) → IsSoundRow row → volume_of call ≡ Some row.id → (told_at row call).is_done ≡ true → IsSoundRow (row_changed row call)
sound-changed row call sound v done =
    let same : (row_changed row call).kept ≡ row.kept = (stays-by row call).1 in
    record {
      kind = ap (λ (k : Kept). is_node_kind k.kind) same ∙ sound.kind;
      no_id = ap (λ (k : Kept). k.reply.id) same ∙ sound.no_id;
      targets = fits-changed row call sound.targets (can-change row sound.targets call v done).1;
    }

-- the targets fit, whether or not the change is made
abbrev FitWhere : NodeRowShown → Call → Bool → Type 0
FitWhere row call done = TargetsFit (cond done (row_changed row call) row).staged (cond done (row_changed row call) row).targets

-- the row after a call that is carried out keeps the rules of a row
pub sound-told : (row : NodeRowShown) (number : Number) (call : Call) → IsSoundRow row → volume_of call ≡ Some row.id → is_node_kind (kind_of call) ≡ true → IsSoundRow (row_told number call (told_at row call) row)
sound-told row number call sound v own =
    record { kind = own; no_id = reply-no_id (state_shown row) call (lifecycle_row (state_shown row) call) (lifecycle_outcomes (state_shown row) call); targets = by (told_at row call).is_done refl }
  where
    by : (b : Bool) → (told_at row call).is_done ≡ b → FitWhere row call (told_at row call).is_done
    by true e = subst (FitWhere row call) (sym e) (sound-changed row call sound v e).targets
    by false e = subst (FitWhere row call) (sym e) sound.targets

-- a row before its first call keeps them
pub sound-anew : (id : ℕ) (number : Number) (kind : Kind) → is_node_kind kind ≡ true → IsSoundRow (row_anew id number kind)
sound-anew id number kind own = record { kind = own; no_id = refl; targets = no_targets None }

-- and so does the row after it
pub sound-first : (id : ℕ) (number : Number) (call : Call) → volume_of call ≡ Some id → is_node_kind (kind_of call) ≡ true → IsSoundRow (first_row id number call)
sound-first id number call v own = sound-told (row_anew id number (kind_of call)) number call (sound-anew id number (kind_of call) own) v own

-- a volume of a call has a row or can have one
pub volume-from : (call : Call) (id : ℕ) → is_of (volume_of call) id ≡ true → volume_of call ≡ Some id
volume-from call id h = by (volume_of call) refl
  where
    by : (o : Option ℕ) → volume_of call ≡ o → volume_of call ≡ Some id
    by None v = absurd (false≢true (sym (ap (λ (p : Option ℕ). is_of p id) v) ∙ h))
    by (Some volume) v = v ∙ ap Some (sym (eqb-true id volume (sym (ap (λ (p : Option ℕ). is_of p id) v) ∙ h)))

-- a call without a volume has no row
pub none-at : (call : Call) (rows : List NodeRowShown) → volume_of call ≡ None → None ≡ position (node_plan.is_for call) rows
none-at call rows v = subst (λ (o : Option ℕ). None ≡ position (λ (row : NodeRowShown). is_of o row.id) rows) (sym v) (position-none (λ (row : NodeRowShown). false) rows (λ place row within. refl))

-- a row that was made is the plan's
pub is-made : (node : List ℕ) (rows : List NodeRowShown) (id : ℕ) (number : Number) (call : Call) (row : NodeRowShown) (reply : Reply) → length rows < 4096 → volume_of call ≡ Some id → is_node_kind (kind_of call) ≡ true
    → row ≡ first_row id number call → reply ≡ row.kept.reply → IsMade node_plan is_sound_by tt (node_plan.absent node tt rows number call) row reply
is-made node rows id number call row reply few v own is same = record {
  is_told =
      ap (λ (b : Bool). cond b (Answered (plain_reply ResourceExhausted (codes "rows"))) (lacking (volume_of call) number call)) (lt-leb 4096 (length rows) few)
      ∙ ap (λ (o : Option ℕ). lacking o number call) v
      ∙ ap Made (sym is);
  is_kept = same;
  sound = subst IsSoundRow (sym is) (sound-first id number call v own);
}
