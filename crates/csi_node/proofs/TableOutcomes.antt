-- Each outcome of the node's table is of one of a few kinds. What is so of every outcome is shown by cases of these, and
-- the table isn't unfolded again.
use Rattle.std.proofs.Common.{◌≡◌, ℕ, List, [], ◌∷◌, Bool, true, false, cond, not, refl, sym, ◌∙◌, ap}
use Rattle.std.specs.Prelude.{Option, Some, None, ◌==◌, ◌&&◌, nat_le, length, codes}
use Rattle.std.proofs.lemmas.Bool.{and_parts, and_from, both_ways, eqb-true, eq-eqb, not-false, true≢false}
use Rattle.csi_types.proofs.Equality.{same_text-tells, same_capability-tells}
use Rattle.csi_types.proofs.Searches.{find-passes}
use Rattle.csi_types.specs.declared.capability.Capability.{Capability}
use Rattle.csi_types.specs.declared.call.Call.{Call}
use Rattle.csi_types.specs.declared.call.Call.TheVariants as calls
use Rattle.csi_types.specs.declared.status.Status.{Status}
use Rattle.csi_types.specs.declared.status.Status.TheVariants.{Ok, InvalidArgument, AlreadyExists, ResourceExhausted, FailedPrecondition, Unimplemented}
use Rattle.csi_types.specs.Model.Same.{same_text, same_flag, same_capability}
use Rattle.csi_types.specs.Model.Sharing.{allows_one_target}
use Rattle.csi_types.specs.Model.Reply.{is_ok_status}
use Rattle.csi_node.specs.Model.State.{NodeState, StagedVolume, PublishedVolume, staged_of, published_of, published_at, is_published_at}
use Rattle.csi_node.specs.Model.Table.{Outcome, Stages, Unstages, Publishes, Unpublishes, refused, met, done, begins_with_slash, stage, unstage, publish_new, publish_staged, publish_at_target, publish, unpublish, lifecycle_row}

-- the calls that stage and publish this
abbrev pub stage_call : StagedVolume → Call
stage_call staged = calls.NodeStageVolume staged.volume staged.capability

-- the call that publishes this
abbrev pub publish_call : PublishedVolume → Call
publish_call published = calls.NodePublishVolume published.volume published.target published.capability published.readonly

-- this may be published: it is staged so, isn't at the target, and there is room for it
pub record Fits (state : NodeState) (published : PublishedVolume) : Type 0 where
  pub slash : begins_with_slash published.target ≡ true
  pub free : published_at published.volume published.target state ≡ None
  pub staged : staged_of published.volume state ≡ Some published.capability
  pub alone : allows_one_target published.capability.mode ≡ true → published_of published.volume state ≡ []
  pub room : nat_le 16 (length (published_of published.volume state)) ≡ false

-- what becomes of a call: it is refused, was done before, or is done
pub data IsOutcome (state : NodeState) : Call → Outcome → Type 0 where
  refuses : (call : Call) (status : Status) (detail : List ℕ) → (status ≡ Ok → ⊥) → IsOutcome state call (refused status detail)
  was_staged : (staged : StagedVolume) → staged_of staged.volume state ≡ Some staged.capability → IsOutcome state (stage_call staged) met
  stages : (staged : StagedVolume) → staged_of staged.volume state ≡ None → IsOutcome state (stage_call staged) (done (Stages staged))
  unstages : (id : ℕ) → published_of id state ≡ [] → IsOutcome state (calls.NodeUnstageVolume id) (done (Unstages id))
  was_published : (published : PublishedVolume) → begins_with_slash published.target ≡ true → published_at published.volume published.target state ≡ Some published → IsOutcome state (publish_call published) met
  publishes : (published : PublishedVolume) → Fits state published → IsOutcome state (publish_call published) (done (Publishes published))
  was_unpublished : (id : ℕ) (target : List ℕ) → published_at id target state ≡ None → IsOutcome state (calls.NodeUnpublishVolume id target) met
  unpublishes : (id : ℕ) (target : List ℕ) (there : PublishedVolume) → published_at id target state ≡ Some there → IsOutcome state (calls.NodeUnpublishVolume id target) (done (Unpublishes id target))

-- no reply of the table has an id
pub reply-no_id : (state : NodeState) (call : Call) (outcome : Outcome) → IsOutcome state call outcome → outcome.reply.id ≡ None
reply-no_id state _ _ (refuses call status detail not_ok) = refl
reply-no_id state _ _ (was_staged staged is) = refl
reply-no_id state _ _ (stages staged is) = refl
reply-no_id state _ _ (unstages id is) = refl
reply-no_id state _ _ (was_published published slash is) = refl
reply-no_id state _ _ (publishes published fits) = refl
reply-no_id state _ _ (was_unpublished id target is) = refl
reply-no_id state _ _ (unpublishes id target there is) = refl

-- no status of a refusal is OK
pub refusal : (status : Status) → is_ok_status status ≡ false → status ≡ Ok → ⊥
refusal status refused ok = true≢false (sym (ap is_ok_status ok) ∙ refused)

-- where both of two outcomes are of these kinds, so is the one that a test chooses
by_if : (state : NodeState) (call : Call) (b : Bool) (x y : Outcome) → (b ≡ true → IsOutcome state call x) → (b ≡ false → IsOutcome state call y) → IsOutcome state call (cond b x y)
by_if state call true x y f g = f refl
by_if state call false x y f g = g refl

-- what NodeStageVolume is answered, by how the volume is staged, is one of these
stage_outcomes : (state : NodeState) (staged : StagedVolume) (o : Option Capability) → staged_of staged.volume state ≡ o → IsOutcome state (stage_call staged) (stage staged o)
stage_outcomes state staged None is = stages staged is
stage_outcomes state staged (Some here) is =
    by_if state (stage_call staged) (same_capability here staged.capability) met (refused AlreadyExists (codes "staged otherwise"))
    (λ same. was_staged staged (is ∙ ap Some ((same_capability-tells here staged.capability).0 same)))
    (λ _. refuses (stage_call staged) AlreadyExists (codes "staged otherwise") (refusal AlreadyExists refl))

-- what NodeUnstageVolume is answered, by where the volume is published, is one of these
unstage_outcomes : (state : NodeState) (id : ℕ) (targets : List PublishedVolume) → published_of id state ≡ targets → IsOutcome state (calls.NodeUnstageVolume id) (unstage id targets)
unstage_outcomes state id (first ∷ others) is = refuses (calls.NodeUnstageVolume id) FailedPrecondition first.target (refusal FailedPrecondition refl)
unstage_outcomes state id [] is = unstages id is

-- flags that the test finds the same are equal
same_flag-then : (a b : Bool) → same_flag a b ≡ true → a ≡ b
same_flag-then true b h = sym h
same_flag-then false true h = cc
same_flag-then false false h = refl

-- what is published is at its own target
pub at_itself : (p : PublishedVolume) → is_published_at p.volume p.target p ≡ true
at_itself p = and_from (p.volume == p.volume) (same_text p.target p.target) (eq-eqb p.volume p.volume refl) ((same_text-tells p.target p.target).1 refl)

-- what is published at the target with these arguments is this
same_published : (p there : PublishedVolume) → is_published_at p.volume p.target there ≡ true → (same_capability there.capability p.capability && same_flag there.readonly p.readonly) ≡ true → there ≡ p
same_published p there here same =
    let place = and_parts (there.volume == p.volume) (same_text there.target p.target) here in
    let way = and_parts (same_capability there.capability p.capability) (same_flag there.readonly p.readonly) same in
    let volume = eqb-true there.volume p.volume place.0 in
    let target = (same_text-tells there.target p.target).0 place.1 in
    let capability = (same_capability-tells there.capability p.capability).0 way.0 in
    let readonly = same_flag-then there.readonly p.readonly way.1 in
    λ i. record { volume = volume i; target = target i; capability = capability i; readonly = readonly i }

module _ (state : NodeState) (p : PublishedVolume) (slash : begins_with_slash p.target ≡ true) where
  -- what a publication at a new target is answered is one of these
  new_outcomes : published_at p.volume p.target state ≡ None → staged_of p.volume state ≡ Some p.capability → (targets : List PublishedVolume) → published_of p.volume state ≡ targets
      → IsOutcome state (publish_call p) (publish_new p targets)
  new_outcomes free staged [] is =
      publishes p (record { slash = slash; free = free; staged = staged; alone = λ _. is; room = ap (λ (targets : List PublishedVolume). nat_le 16 (length targets)) is })
  new_outcomes free staged (first ∷ others) is =
      by_if state (publish_call p) (allows_one_target p.capability.mode) (refused FailedPrecondition first.target) _
      (λ _. refuses (publish_call p) FailedPrecondition first.target (refusal FailedPrecondition refl))
      (λ shared. by_if state (publish_call p) (nat_le 16 (length (first ∷ others))) (refused ResourceExhausted (codes "targets")) (done (Publishes p))
      (λ _. refuses (publish_call p) ResourceExhausted (codes "targets") (refusal ResourceExhausted refl))
      (λ room. publishes p (record {
        slash = slash;
        free = free;
        staged = staged;
        alone = λ one. absurd (both_ways (allows_one_target p.capability.mode) shared one);
        room = ap (λ (targets : List PublishedVolume). nat_le 16 (length targets)) is ∙ room;
      })))

  -- so is what it is answered by how the volume is staged
  staged_outcomes : published_at p.volume p.target state ≡ None → (o : Option Capability) → staged_of p.volume state ≡ o → IsOutcome state (publish_call p) (publish_staged state p o)
  staged_outcomes free None is = refuses (publish_call p) FailedPrecondition (codes "not staged") (refusal FailedPrecondition refl)
  staged_outcomes free (Some capability) is =
      by_if state (publish_call p) (not (same_capability capability p.capability)) (refused FailedPrecondition (codes "staged otherwise")) (publish_new p (published_of p.volume state))
      (λ _. refuses (publish_call p) FailedPrecondition (codes "staged otherwise") (refusal FailedPrecondition refl))
      (λ same. new_outcomes free (is ∙ ap Some ((same_capability-tells capability p.capability).0 (not-false (same_capability capability p.capability) same))) (published_of p.volume state) refl)

  -- so is what it is answered by what is at the target
  target_outcomes : (o : Option PublishedVolume) → published_at p.volume p.target state ≡ o → IsOutcome state (publish_call p) (publish_at_target state p o)
  target_outcomes None is = staged_outcomes is (staged_of p.volume state) refl
  target_outcomes (Some there) is =
      by_if state (publish_call p) (same_capability there.capability p.capability && same_flag there.readonly p.readonly) met (refused AlreadyExists (codes "published otherwise"))
      (λ same. was_published p slash (is ∙ ap Some (same_published p there (find-passes (is_published_at p.volume p.target) state.published there is) same)))
      (λ _. refuses (publish_call p) AlreadyExists (codes "published otherwise") (refusal AlreadyExists refl))

-- what NodePublishVolume is answered is one of these
publish_outcomes : (state : NodeState) (p : PublishedVolume) → IsOutcome state (publish_call p) (publish state p)
publish_outcomes state p =
    by_if state (publish_call p) (not (begins_with_slash p.target)) (refused InvalidArgument (codes "target")) (publish_at_target state p (published_at p.volume p.target state))
    (λ _. refuses (publish_call p) InvalidArgument (codes "target") (refusal InvalidArgument refl))
    (λ slash. target_outcomes state p (not-false (begins_with_slash p.target) slash) (published_at p.volume p.target state) refl)

-- what NodeUnpublishVolume is answered is one of these
unpublish_outcomes : (state : NodeState) (id : ℕ) (target : List ℕ) (o : Option PublishedVolume) → published_at id target state ≡ o → IsOutcome state (calls.NodeUnpublishVolume id target) (unpublish id target o)
unpublish_outcomes state id target None is = was_unpublished id target is
unpublish_outcomes state id target (Some there) is = unpublishes id target there is

-- where the call's volume has a row, or can have one
pub lifecycle_outcomes : (state : NodeState) (call : Call) → IsOutcome state call (lifecycle_row state call)
lifecycle_outcomes state (calls.NodeStageVolume id capability) = stage_outcomes state (record { volume = id; capability = capability }) (staged_of id state) refl
lifecycle_outcomes state (calls.NodeUnstageVolume id) = unstage_outcomes state id (published_of id state) refl
lifecycle_outcomes state (calls.NodePublishVolume id target capability readonly) = publish_outcomes state (record { volume = id; target = target; capability = capability; readonly = readonly })
lifecycle_outcomes state (calls.NodeUnpublishVolume id target) = unpublish_outcomes state id target (published_at id target state) refl
lifecycle_outcomes state (calls.CreateVolume name required limit capabilities) = refuses (calls.CreateVolume name required limit capabilities) Unimplemented [] (refusal Unimplemented refl)
lifecycle_outcomes state (calls.DeleteVolume id) = refuses (calls.DeleteVolume id) Unimplemented [] (refusal Unimplemented refl)
lifecycle_outcomes state (calls.ControllerPublishVolume id node capability readonly) = refuses (calls.ControllerPublishVolume id node capability readonly) Unimplemented [] (refusal Unimplemented refl)
lifecycle_outcomes state (calls.ControllerUnpublishVolume id node) = refuses (calls.ControllerUnpublishVolume id node) Unimplemented [] (refusal Unimplemented refl)
