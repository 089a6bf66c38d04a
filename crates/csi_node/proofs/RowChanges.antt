-- What a call that the table carries out changes in its row is what it changes in the state, and the row keeps its
-- rules.
use Rattle.std.proofs.Common.{◌≡◌, ℕ, List, [], ◌∷◌, ◌++◌, map, Bool, true, false, cond, not, refl, sym, ◌∙◌, ap, arith, length-append}
use Rattle.std.specs.Prelude.{Option, Some, None, filter, ◌==◌}
use Rattle.std.proofs.lemmas.Bool.{both_ways, false_from_ne_true}
use Rattle.std.proofs.lemmas.List.{map-append}
use Rattle.csi_types.specs.declared.capability.Capability.{Capability}
use Rattle.csi_types.specs.declared.call.Call.{Call}
use Rattle.csi_types.specs.declared.call.Call.TheVariants as calls
use Rattle.csi_types.specs.Model.Same.{same_text}
use Rattle.csi_types.specs.Model.Sharing.{allows_one_target}
use Rattle.csi_types.proofs.Searches.{find-append, find-missed, find-none_in_filter}
use Rattle.csi_types.proofs.Equality.{same_text-tells}
use Rattle.std.proofs.lemmas.Option.{same_Some}
use Rattle.std.proofs.lemmas.List.Elements.{filter_agree}
use Rattle.csi_types.proofs.Options.{option_or-none, some_is_not_none}
use Rattle.csi_types.proofs.Filters.{filter-no_longer, filter-of_map}
use Rattle.csi_node.specs.declared.row.NodeTarget.{NodeTarget}
use Rattle.csi_node.specs.Model.State.{NodeState, StagedVolume, PublishedVolume, is_published_at, volume_of}
use Rattle.csi_node.specs.Model.Table.{changed, begins_with_slash}
use Rattle.csi_node.specs.Model.OneRow.{NodeRowShown}
use Rattle.csi_node.specs.Public.OneRow.{state_shown, staged_by, published_so, published_by, target_among, AreDistinctTargets, AreAbsolute, TargetsFit, row_changed}
use Rattle.csi_node.specs.Private.OneRow.{call_change, CanChange}
use Rattle.csi_node.proofs.OneRow.{itself, itself_and}

-- texts differ both ways
differs : (a b : List ℕ) → same_text a b ≡ false → same_text b a ≡ false
differs a b h = false_from_ne_true (same_text b a) (λ same. both_ways (same_text a b) h ((same_text-tells a b).1 (sym ((same_text-tells b a).0 same))))

-- a state by what is staged and published
abbrev of_parts : List StagedVolume → List PublishedVolume → NodeState
of_parts staged published = record { rows = []; session = 0; staged = staged; published = published }

-- a staging that is undone leaves nothing staged
unstaged_by : (id : ℕ) (o : Option Capability) → filter (λ (s : StagedVolume). not (s.volume == id)) (staged_by id o) ≡ []
unstaged_by id None = refl
unstaged_by id (Some capability) = rw (itself id) refl

-- without targets nothing is published
nothing_published : (id : ℕ) (o : Option Capability) → published_by id o [] ≡ []
nothing_published id None = refl
nothing_published id (Some capability) = refl

-- taking a target from what is published is taking it from the targets
unpublished_by : (id : ℕ) (o : Option Capability) (targets : List NodeTarget) (target : List ℕ)
    → filter (λ (p : PublishedVolume). not (is_published_at id target p)) (published_by id o targets) ≡ published_by id o (filter (λ there. not (same_text there.target target)) targets)
unpublished_by id None targets target = refl
unpublished_by id (Some capability) targets target =
    filter-of_map (λ (p : PublishedVolume). not (is_published_at id target p)) (published_so id capability) targets
    ∙ ap (map (published_so id capability)) (filter_agree (λ there. not (is_published_at id target (published_so id capability there))) (λ there. not (same_text there.target target))
    (λ there. ap not (itself_and id (same_text there.target target))) targets)

-- the state of the row alone after a change
pub alone-changed : (row : NodeRowShown) (call : Call) → volume_of call ≡ Some row.id → TargetsFit row.staged row.targets → CanChange row call
    → state_shown (row_changed row call) ≡ changed (state_shown row) (call_change call)
alone-changed row (calls.NodeStageVolume id capability) volume fits can =
    let same : id ≡ row.id = same_Some id row.id volume in
    let none : row.targets ≡ [] = fits.unstaged can in
    rw (same, can, none) refl
alone-changed row (calls.NodeUnstageVolume id) volume fits can =
    let same : id ≡ row.id = same_Some id row.id volume in
    let staged : [] ≡ filter (λ (s : StagedVolume). not (s.volume == row.id)) (staged_by row.id row.staged) = sym (unstaged_by row.id row.staged) in
    let published : [] ≡ published_by row.id row.staged row.targets = sym (ap (published_by row.id row.staged) can ∙ nothing_published row.id row.staged) in
    rw same (λ i. of_parts (staged i) (published i))
alone-changed row (calls.NodePublishVolume id target capability readonly) volume fits can =
    let same : id ≡ row.id = same_Some id row.id volume in
    rw (same, can.staged) (ap (of_parts (staged_by row.id (Some capability))) (map-append (published_so row.id capability) row.targets _))
alone-changed row (calls.NodeUnpublishVolume id target) volume fits can =
    let same : id ≡ row.id = same_Some id row.id volume in
    rw same (ap (of_parts (staged_by row.id row.staged)) (sym (unpublished_by row.id row.staged row.targets target)))
alone-changed row (calls.CreateVolume name required limit capabilities) volume fits can = absurd can
alone-changed row (calls.DeleteVolume id) volume fits can = absurd can
alone-changed row (calls.ControllerPublishVolume id node capability readonly) volume fits can = absurd can
alone-changed row (calls.ControllerUnpublishVolume id node) volume fits can = absurd can

-- rules of targets
append_distinct : (targets : List NodeTarget) (one : NodeTarget) → AreDistinctTargets targets → target_among targets one.target ≡ None → AreDistinctTargets (targets ++ one ∷ [])
append_distinct [] one distinct none = (refl, tt)
append_distinct (first ∷ rest) one distinct none =
    let missed = find-missed (same_text first.target one.target) first (target_among rest one.target) none in (
      find-append (λ (there : NodeTarget). same_text there.target first.target) rest one
          ∙ option_or-none (target_among rest first.target) _ distinct.0
          ∙ ap (λ (b : Bool). cond b (Some one) None) (differs first.target one.target missed.0),
      append_distinct rest one distinct.1 missed.1,
    )

-- absolute targets and one more are absolute
append_absolute : (targets : List NodeTarget) (one : NodeTarget) → AreAbsolute targets → begins_with_slash one.target ≡ true → AreAbsolute (targets ++ one ∷ [])
append_absolute [] one all h = (h, tt)
append_absolute (first ∷ rest) one all h = (all.0, append_absolute rest one all.1 h)

-- absolute targets that are each there once still are so after some are left out
filter_fit : (p : NodeTarget → Bool) (targets : List NodeTarget) → AreAbsolute targets → AreDistinctTargets targets → AreAbsolute (filter p targets) × AreDistinctTargets (filter p targets)
filter_fit p [] all distinct = (tt, tt)
filter_fit p (first ∷ rest) all distinct = step (p first) (filter_fit p rest all.1 distinct.1)
  where
    step : (b : Bool) → AreAbsolute (filter p rest) × AreDistinctTargets (filter p rest) → AreAbsolute (cond b (first ∷ filter p rest) (filter p rest)) × AreDistinctTargets (cond b (first ∷ filter p rest) (filter p rest))
    step true h = ((all.0, h.0), (find-none_in_filter (λ there. same_text there.target first.target) p rest distinct.0, h.1))
    step false h = h

-- no targets fit however the volume is staged
pub no_targets : (staged : Option Capability) → TargetsFit staged []
no_targets staged = record { unstaged = λ _. refl; absolute = tt; distinct = tt; single = λ capability is one. omega arith; limit = omega arith }

-- the rules after a change
pub fits-changed : (row : NodeRowShown) (call : Call) → TargetsFit row.staged row.targets → CanChange row call → TargetsFit (row_changed row call).staged (row_changed row call).targets
fits-changed row (calls.NodeStageVolume id capability) fits can = let none : row.targets ≡ [] = fits.unstaged can in rw none (no_targets (Some capability))
fits-changed row (calls.NodeUnstageVolume id) fits can = rw can (no_targets None)
fits-changed row (calls.NodePublishVolume id target capability readonly) fits can = record {
  unstaged = λ none. absurd (some_is_not_none capability (sym can.staged ∙ none));
  absolute = append_absolute row.targets _ fits.absolute can.absolute;
  distinct = append_distinct row.targets _ fits.distinct can.«new»;
  single = λ other is one.
      let same : other ≡ capability = same_Some other capability (sym is ∙ can.staged) in
      let none : row.targets ≡ [] = can.single (ap (λ (c : Capability). allows_one_target c.mode) (sym same) ∙ one) in
      rw none (omega arith);
  limit = let few = can.limit in omega (arith, length-append {A = NodeTarget});
}
fits-changed row (calls.NodeUnpublishVolume id target) fits can = record {
  unstaged = λ none. ap (filter (λ there. not (same_text there.target target))) (fits.unstaged none);
  absolute = (filter_fit (λ there. not (same_text there.target target)) row.targets fits.absolute fits.distinct).0;
  distinct = (filter_fit (λ there. not (same_text there.target target)) row.targets fits.absolute fits.distinct).1;
  single = λ capability is one. let few = fits.single capability is one in omega (arith, filter-no_longer (λ (there : NodeTarget). not (same_text there.target target)) row.targets);
  limit = let few = fits.limit in omega (arith, filter-no_longer (λ (there : NodeTarget). not (same_text there.target target)) row.targets);
}
fits-changed row (calls.CreateVolume name required limit capabilities) fits can = absurd can
fits-changed row (calls.DeleteVolume id) fits can = absurd can
fits-changed row (calls.ControllerPublishVolume id node capability readonly) fits can = absurd can
fits-changed row (calls.ControllerUnpublishVolume id node) fits can = absurd can
