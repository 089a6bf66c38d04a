-- What the table reads of a state is what it reads of the volume alone, and what it changes is what it changes there.
use Rattle.std.proofs.Common.{◌≡◌, ℕ, List, [], ◌∷◌, ◌++◌, map, cond, not, refl, sym, ◌∙◌, ap}
use Rattle.std.specs.Prelude.{Option, Some, None, find, filter, ◌==◌, codes}
use Rattle.std.proofs.lemmas.Bool.{eq-eqb, and_parts}
use Rattle.std.proofs.lemmas.List.{map-append}
use Rattle.csi_types.specs.declared.capability.Capability.{Capability}
use Rattle.csi_types.specs.declared.call.Call.{Call}
use Rattle.csi_types.specs.declared.call.Call.TheVariants as calls
use Rattle.csi_types.specs.declared.status.Status.TheVariants.{InvalidArgument, FailedPrecondition}
use Rattle.csi_types.specs.Model.Same.{same_text, same_capability}
use Rattle.csi_types.proofs.Filters.{filter-filter, filter-swap, filter-none, filter-append_passes}
use Rattle.std.proofs.lemmas.Option.{same_Some}
use Rattle.csi_types.proofs.Searches.{find-first, find-filter, first_of_list}
use Rattle.csi_node.specs.Model.State.{NodeState, StagedVolume, PublishedVolume, staged_of, published_of, published_at, is_published_at, volume_of}
use Rattle.csi_node.specs.Model.Table.{Change, Stays, Stages, Unstages, Publishes, Unpublishes, Outcome, refused, stage, unstage, publish, publish_at_target, publish_staged, publish_new, unpublish, lifecycle_row, changed, begins_with_slash}
use Rattle.csi_node.proofs.TableOutcomes.{IsOutcome, refuses, was_staged, stages, unstages, was_published, publishes, was_unpublished, unpublishes, lifecycle_outcomes}

-- the part of a state that is the volume's, in another state
pub record IsPart (id : ℕ) (part state : NodeState) : Type 0 where
  pub staged : map (λ (s : StagedVolume). s.capability) part.staged ≡ map (λ (s : StagedVolume). s.capability) (filter (λ (s : StagedVolume). s.volume == id) state.staged)
  pub of_id : filter (λ (s : StagedVolume). s.volume == id) part.staged ≡ part.staged
  pub published : part.published ≡ published_of id state

module _ (id : ℕ) (part state : NodeState) (is : IsPart id part state) where
  -- the part and the state have the volume staged alike
  pub part-staged : staged_of id part ≡ staged_of id state
  part-staged =
      find-first (λ (s : StagedVolume). s.volume == id) (λ (s : StagedVolume). s.capability) part.staged
      ∙ ap (λ (l : List StagedVolume). first_of_list (map (λ (s : StagedVolume). s.capability) l)) is.of_id
      ∙ ap first_of_list is.staged
      ∙ sym (find-first (λ (s : StagedVolume). s.volume == id) (λ (s : StagedVolume). s.capability) state.staged)

  -- they have it published alike
  part-published : published_of id part ≡ published_of id state
  part-published =
      ap (filter (λ (p : PublishedVolume). p.volume == id)) is.published
      ∙ filter-filter (λ (p : PublishedVolume). p.volume == id) (λ (p : PublishedVolume). p.volume == id) state.published (λ x h. h)

  -- and at each target alike
  part-published_at : (target : List ℕ) → published_at id target part ≡ published_at id target state
  part-published_at target =
      ap (find (is_published_at id target)) is.published
      ∙ find-filter (is_published_at id target) (λ (p : PublishedVolume). p.volume == id) state.published (λ x h. (and_parts (x.volume == id) (same_text x.target target) h).0)

-- two states that have the same published of a volume answer NodePublishVolume alike, by how the volume is staged
publish_staged-same : (part state : NodeState) (p : PublishedVolume) (o : Option Capability) → published_of p.volume part ≡ published_of p.volume state
    → publish_staged part p o ≡ publish_staged state p o
publish_staged-same part state p None h = refl
publish_staged-same part state p (Some capability) h =
    ap (λ (others : List PublishedVolume). cond (not (same_capability capability p.capability)) (refused FailedPrecondition (codes "staged otherwise")) (publish_new p others)) h

-- two states that have the same of a volume answer NodePublishVolume alike, by what is at the target
publish_at-same : (part state : NodeState) (p : PublishedVolume) (o : Option PublishedVolume) → staged_of p.volume part ≡ staged_of p.volume state → published_of p.volume part ≡ published_of p.volume state
    → publish_at_target part p o ≡ publish_at_target state p o
publish_at-same part state p (Some there) s h = refl
publish_at-same part state p None s h = ap (publish_staged part p) s ∙ publish_staged-same part state p (staged_of p.volume state) h

-- two states that have the same of a volume answer NodePublishVolume alike
publish-same : (part state : NodeState) (p : PublishedVolume) → staged_of p.volume part ≡ staged_of p.volume state → published_of p.volume part ≡ published_of p.volume state
    → published_at p.volume p.target part ≡ published_at p.volume p.target state → publish part p ≡ publish state p
publish-same part state p s h at =
    ap (λ (o : Outcome). cond (not (begins_with_slash p.target)) (refused InvalidArgument (codes "target")) o)
    (ap (publish_at_target part p) at ∙ publish_at-same part state p (published_at p.volume p.target state) s h)

-- the table answers by the volume alone
pub lifecycle-part : (id : ℕ) (part state : NodeState) (call : Call) → volume_of call ≡ Some id → IsPart id part state → lifecycle_row part call ≡ lifecycle_row state call
lifecycle-part id part state (calls.NodeStageVolume volume capability) v is = rw (same_Some volume id v) (ap (stage (record { volume = id; capability = capability })) (part-staged id part state is))
lifecycle-part id part state (calls.NodeUnstageVolume volume) v is = rw (same_Some volume id v) (ap (unstage id) (part-published id part state is))
lifecycle-part id part state (calls.NodePublishVolume volume target capability readonly) v is =
    rw (same_Some volume id v) (publish-same part state (record { volume = id; target = target; capability = capability; readonly = readonly }) (part-staged id part state is) (part-published id part state is) (part-published_at id part state is target))
lifecycle-part id part state (calls.NodeUnpublishVolume volume target) v is = rw (same_Some volume id v) (ap (unpublish id target) (part-published_at id part state is target))
lifecycle-part id part state (calls.CreateVolume name required limit capabilities) v is = refl
lifecycle-part id part state (calls.DeleteVolume volume) v is = refl
lifecycle-part id part state (calls.ControllerPublishVolume volume node capability readonly) v is = refl
lifecycle-part id part state (calls.ControllerUnpublishVolume volume node) v is = refl

-- the volume that a change is about
pub IsAbout : ℕ → Change → Type 0
IsAbout id Stays = Unit {0}
IsAbout id (Stages staged) = staged.volume ≡ id
IsAbout id (Unstages volume) = volume ≡ id
IsAbout id (Publishes published) = published.volume ≡ id
IsAbout id (Unpublishes volume target) = volume ≡ id

-- what an outcome changes is of the call's volume
outcome-about : (id : ℕ) (state : NodeState) (call : Call) (outcome : Outcome) → IsOutcome state call outcome → volume_of call ≡ Some id → IsAbout id outcome.change
unfolding IsAbout
outcome-about id state _ _ (refuses call status detail not_ok) v = tt
outcome-about id state _ _ (was_staged staged is) v = tt
outcome-about id state _ _ (stages staged is) v = same_Some staged.volume id v
outcome-about id state _ _ (unstages volume is) v = same_Some volume id v
outcome-about id state _ _ (was_published published slash is) v = tt
outcome-about id state _ _ (publishes published fits) v = same_Some published.volume id v
outcome-about id state _ _ (was_unpublished volume target is) v = tt
outcome-about id state _ _ (unpublishes volume target there is) v = same_Some volume id v

-- the table changes nothing but the call's volume
pub lifecycle-about : (id : ℕ) (state : NodeState) (call : Call) → volume_of call ≡ Some id → IsAbout id (lifecycle_row state call).change
lifecycle-about id state call v = outcome-about id state call (lifecycle_row state call) (lifecycle_outcomes state call) v

-- what is published of the volume after a change
pub changed-published : (id : ℕ) (part state : NodeState) (change : Change) → IsAbout id change → IsPart id part state → (changed part change).published ≡ published_of id (changed state change)
unfolding IsAbout
changed-published id part state Stays about is = is.published
changed-published id part state (Stages staged) about is = is.published
changed-published id part state (Unstages volume) about is = is.published
changed-published id part state (Publishes published) about is =
    ap (λ (l : List PublishedVolume). l ++ published ∷ []) is.published
    ∙ sym (filter-append_passes (λ (p : PublishedVolume). p.volume == id) state.published published (eq-eqb published.volume id about))
changed-published id part state (Unpublishes volume target) about is =
    ap (filter (λ (p : PublishedVolume). not (is_published_at volume target p))) is.published
    ∙ sym (filter-swap (λ (p : PublishedVolume). p.volume == id) (λ (p : PublishedVolume). not (is_published_at volume target p)) state.published)

-- how the volume is staged after a change
pub changed-staged : (id : ℕ) (part state : NodeState) (change : Change) → IsAbout id change → IsPart id part state
    → map (λ (s : StagedVolume). s.capability) (changed part change).staged ≡ map (λ (s : StagedVolume). s.capability) (filter (λ (s : StagedVolume). s.volume == id) (changed state change).staged)
unfolding IsAbout
changed-staged id part state Stays about is = is.staged
changed-staged id part state (Stages staged) about is =
    map-append (λ (s : StagedVolume). s.capability) part.staged (staged ∷ [])
    ∙ ap (λ (l : List Capability). l ++ staged.capability ∷ []) is.staged
    ∙ sym (map-append (λ (s : StagedVolume). s.capability) (filter (λ (s : StagedVolume). s.volume == id) state.staged) (staged ∷ []))
    ∙ ap (map (λ (s : StagedVolume). s.capability)) (sym (filter-append_passes (λ (s : StagedVolume). s.volume == id) state.staged staged (eq-eqb staged.volume id about)))
changed-staged id part state (Unstages volume) about is =
    let left : filter (λ (s : StagedVolume). s.volume == id) (filter (λ (s : StagedVolume). not (s.volume == id)) state.staged) ≡ [] = filter-none (λ (s : StagedVolume). s.volume == id) state.staged in
    let none : filter (λ (s : StagedVolume). not (s.volume == id)) part.staged ≡ [] =
    ap (filter (λ (s : StagedVolume). not (s.volume == id))) (sym is.of_id)
    ∙ filter-swap (λ (s : StagedVolume). not (s.volume == id)) (λ (s : StagedVolume). s.volume == id) part.staged
    ∙ filter-none (λ (s : StagedVolume). s.volume == id) part.staged in
    rw about (ap (map (λ (s : StagedVolume). s.capability)) (none ∙ sym left))
changed-staged id part state (Publishes published) about is = is.staged
changed-staged id part state (Unpublishes volume target) about is = is.staged
