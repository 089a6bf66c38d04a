-- What the table reads of the state of one row alone.
use Rattle.std.proofs.Common.{◌≡◌, ℕ, List, [], map, Bool, true, cond, not, ◌&&◌, refl, ◌∙◌, ap}
use Rattle.std.specs.Prelude.{Option, Some, None, option_map, find, filter, ◌==◌, codes}
use Rattle.std.proofs.lemmas.Bool.{eq-eqb}
use Rattle.csi_types.specs.declared.capability.Capability.{Capability}
use Rattle.csi_types.specs.declared.status.Status.TheVariants.{FailedPrecondition}
use Rattle.csi_types.specs.Model.Same.{same_text, same_capability}
use Rattle.csi_types.proofs.Searches.{find-of_map, find-same}
use Rattle.csi_types.proofs.Filters.{filter-of_map, filter-all}
use Rattle.csi_node.specs.declared.row.NodeTarget.{NodeTarget}
use Rattle.csi_node.specs.Model.State.{StagedVolume, PublishedVolume, is_published_at, published_at, published_of, staged_of}
use Rattle.csi_node.specs.Model.Table.{Outcome, refused, publish, publish_at_target, publish_staged, publish_new, unpublish, begins_with_slash}
use Rattle.csi_node.specs.Model.OneRow.{NodeRowShown}
use Rattle.csi_node.specs.Private.OneRow.{target_of_row, publish_by_row, unpublish_by_row}
use Rattle.csi_node.specs.Public.OneRow.{state_shown, staged_by, published_so, published_by}

-- an id is equal to itself, and below: asking that too asks nothing more
pub itself : (id : ℕ) → (id == id) ≡ true
itself id = eq-eqb id id refl

-- an id is equal to itself, and so asking that too asks nothing more
pub itself_and : (id : ℕ) (b : Bool) → ((id == id) && b) ≡ b
itself_and id b = rw (itself id) refl

-- how a staged row is published at a target
pub published_at-staged : (id : ℕ) (capability : Capability) (targets : List NodeTarget) (target : List ℕ)
    → find (is_published_at id target) (map (published_so id capability) targets) ≡ option_map (published_so id capability) (find (λ there. same_text there.target target) targets)
published_at-staged id capability targets target =
    find-of_map (is_published_at id target) (published_so id capability) targets
    ∙ ap (option_map (published_so id capability)) (find-same (λ there. is_published_at id target (published_so id capability there)) (λ there. same_text there.target target) targets (λ there. itself_and id (same_text there.target target)))

-- NodeUnpublishVolume is answered alike by what the state and what the row has at the target
unpublish-found : (id : ℕ) (capability : Capability) (target : List ℕ) (o : Option NodeTarget)
    → unpublish id target (option_map (published_so id capability) o) ≡ unpublish_by_row id target o
unpublish-found id capability target None = refl
unpublish-found id capability target (Some there) = refl

-- NodeUnpublishVolume, by the row
pub unpublish-row : (row : NodeRowShown) (target : List ℕ) → (row.staged ≡ None → row.targets ≡ [])
    → unpublish row.id target (published_at row.id target (state_shown row)) ≡ unpublish_by_row row.id target (target_of_row row target)
unpublish-row row target unstaged = by row.staged refl
  where
    by : (o : Option Capability) → row.staged ≡ o → unpublish row.id target (find (is_published_at row.id target) (published_by row.id o row.targets)) ≡ unpublish_by_row row.id target (target_of_row row target)
    by None e = let none : row.targets ≡ [] = unstaged e in rw none refl
    by (Some capability) e = ap (unpublish row.id target) (published_at-staged row.id capability row.targets target) ∙ unpublish-found row.id capability target (target_of_row row target)

-- how a row is staged
pub staged_of-alone : (row : NodeRowShown) → staged_of row.id (state_shown row) ≡ row.staged
staged_of-alone row = by row.staged
  where
    by : (o : Option Capability) → option_map (λ (s : StagedVolume). s.capability) (find (λ (s : StagedVolume). s.volume == row.id) (staged_by row.id o)) ≡ o
    by None = refl
    by (Some capability) = rw (itself row.id) refl

-- all that a row publishes is of its volume
pub published_of-alone : (row : NodeRowShown) → published_of row.id (state_shown row) ≡ published_by row.id row.staged row.targets
published_of-alone row = by row.staged
  where
    by : (o : Option Capability) → filter (λ (p : PublishedVolume). p.volume == row.id) (published_by row.id o row.targets) ≡ published_by row.id o row.targets
    by None = refl
    by (Some capability) =
        filter-of_map (λ (p : PublishedVolume). p.volume == row.id) (published_so row.id capability) row.targets
        ∙ ap (map (published_so row.id capability)) (filter-all (λ (there : NodeTarget). row.id == row.id) row.targets (λ there. itself row.id))

-- NodePublishVolume is answered alike by what the state and what the row has at the target
publish-found : (row : NodeRowShown) (staged : Capability) (published : PublishedVolume) (o : Option NodeTarget)
    → staged_of published.volume (state_shown row) ≡ Some staged → published_of published.volume (state_shown row) ≡ published_by row.id (Some staged) row.targets
    → publish_at_target (state_shown row) published (option_map (published_so row.id staged) o) ≡ publish_by_row row staged published o
publish-found row staged published (Some there) is all = refl
publish-found row staged published None is all =
    ap (publish_staged (state_shown row) published) is
    ∙ ap (λ (others : List PublishedVolume). cond (not (same_capability staged published.capability)) (refused FailedPrecondition (codes "staged otherwise")) (publish_new published others)) all

-- where a target is absolute, the second of two outcomes is taken
absolute : (b : Bool) (x y : Outcome) → b ≡ true → cond (not b) x y ≡ y
absolute b x y h = rw h refl

-- NodePublishVolume at an absolute target, by the row
pub publish-row : (row : NodeRowShown) (staged : Capability) (target : List ℕ) (capability : Capability) (readonly : Bool) → row.staged ≡ Some staged → begins_with_slash target ≡ true
    → let published : PublishedVolume = record { volume = row.id; target = target; capability = capability; readonly = readonly } in
    publish (state_shown row) published ≡ publish_by_row row staged published (target_of_row row target)
publish-row row staged target capability readonly is slash =
    let published : PublishedVolume = record { volume = row.id; target = target; capability = capability; readonly = readonly } in
    let at : published_at row.id target (state_shown row) ≡ option_map (published_so row.id staged) (target_of_row row target) =
    ap (λ (o : Option Capability). find (is_published_at row.id target) (published_by row.id o row.targets)) is ∙ published_at-staged row.id staged row.targets target in
    absolute (begins_with_slash target) _ _ slash
    ∙ ap (publish_at_target (state_shown row) published) at
    ∙ publish-found row staged published (target_of_row row target) (staged_of-alone row ∙ is) (published_of-alone row ∙ ap (λ (o : Option Capability). published_by row.id o row.targets) is)
