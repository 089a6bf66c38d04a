-- What is so of each outcome of the node's table.
use Rattle.std.proofs.Common.{◌≡◌, ◌≢◌, ℕ, List, [], Bool, true, false, cond, not, refl, sym, ap, subst}
use Rattle.std.specs.Prelude.{Option, Some, None, option_map, find, filter, ◌==◌, ◌&&◌, codes}
use Rattle.csi_types.proofs.Equality.{same_capability-tells}
use Rattle.csi_types.specs.declared.capability.Capability.{Capability}
use Rattle.csi_types.specs.declared.call.Call.{Call}
use Rattle.csi_types.specs.declared.call.Call.TheVariants as calls
use Rattle.csi_types.specs.declared.status.Status.{Status}
use Rattle.csi_types.specs.declared.status.Status.TheVariants.{Ok, InvalidArgument, AlreadyExists}
use Rattle.csi_types.specs.Model.Replies.{ok_reply}
use Rattle.csi_types.specs.Model.Same.{same_text, same_flag, same_capability}
use Rattle.csi_node.specs.Model.State.{NodeState, AnsweredVolume, StagedVolume, PublishedVolume, staged_of, published_of, published_at, is_published_at, volume_of}
use Rattle.csi_node.specs.Model.Table.{Outcome, Change, Stays, Stages, Unstages, Publishes, Unpublishes, refused, met, done, begins_with_slash, stage, unstage, publish_at_target, publish, unpublish, lifecycle_row, changed}
use Rattle.csi_node.specs.Public.Laws.{is_another, IsDone}
use Rattle.csi_node.proofs.OneRow.{itself}
use Rattle.csi_node.proofs.TableOutcomes.{IsOutcome, at_itself, refuses, was_staged, stages, unstages, was_published, publishes, was_unpublished, unpublishes, lifecycle_outcomes, stage_call, publish_call}
use Rattle.csi_types.proofs.Searches.{find-append_one, find-filter_not}
use Rattle.csi_types.proofs.Filters.{filter-append_one, filter-filter, filter-not_none}
use Rattle.csi_types.proofs.Options.{none-from_map}

-- the table would answer this call OK, and change nothing
pub IsReady : NodeState → Call → Type 0
IsReady state (calls.NodeStageVolume id capability) = staged_of id state ≡ Some capability
IsReady state (calls.NodeUnstageVolume id) = (staged_of id state ≡ None) × (published_of id state ≡ [])
IsReady state (calls.NodePublishVolume id target capability readonly) =
    let published : PublishedVolume = record { volume = id; target = target; capability = capability; readonly = readonly } in
    (published_at id target state ≡ Some published) × (begins_with_slash target ≡ true)
IsReady state (calls.NodeUnpublishVolume id target) = published_at id target state ≡ None
IsReady state call = ⊥

-- the other volumes' stagings and targets are as they were
pub record LeavesRest (old new : NodeState) (call : Call) : Type 0 where
  pub staged : filter (λ staged. is_another (volume_of call) staged.volume) new.staged ≡ filter (λ staged. is_another (volume_of call) staged.volume) old.staged
  pub published : filter (λ published. is_another (volume_of call) published.volume) new.published ≡ filter (λ published. is_another (volume_of call) published.volume) old.published

-- a refusal changes nothing; after an OK the reply is the plain one, and the call would be met; and other volumes are as they were
pub record Facts (state : NodeState) (call : Call) (outcome : Outcome) : Type 0 where
  pub stays : outcome.reply.status ≢ Ok → outcome.change ≡ Stays
  pub plain : outcome.reply.status ≡ Ok → outcome.reply ≡ ok_reply
  pub ready : outcome.reply.status ≡ Ok → IsReady (changed state outcome.change) call
  pub others : LeavesRest state (changed state outcome.change) call

-- all that `Facts` says is so of a refusal
refused_facts : (state : NodeState) (call : Call) (status : Status) (detail : List ℕ) → (status ≡ Ok → ⊥) → Facts state call (refused status detail)
refused_facts state call status detail not_ok =
    record { stays = λ h. refl; plain = λ h. absurd (not_ok h); ready = λ h. absurd (not_ok h); others = record { staged = refl; published = refl } }

-- all that `Facts` says is so where the call was met before
met_facts : (state : NodeState) (call : Call) → IsReady state call → Facts state call met
met_facts state call ready =
    record { stays = λ h. refl; plain = λ h. refl; ready = λ h. ready; others = record { staged = refl; published = refl } }

-- all that `Facts` says is so where the call is carried out
done_facts : (state : NodeState) (call : Call) (change : Change) → IsReady (changed state change) call → LeavesRest state (changed state change) call → Facts state call (done change)
done_facts state call change ready others =
    record { stays = λ h. absurd (h refl); plain = λ h. refl; ready = λ h. ready; others = others }

-- a volume isn't another one than itself
not_another : (id : ℕ) → not (id == id) ≡ false
not_another id = rw (itself id) refl

-- what isn't of a volume isn't at a target of it
not_at : (a b : Bool) → not a ≡ true → not (a && b) ≡ true
not_at true b h = cc
not_at false b h = refl

-- all that `Facts` says is so of each outcome
outcome_facts : (state : NodeState) (call : Call) (outcome : Outcome) → IsOutcome state call outcome → Facts state call outcome
unfolding IsReady
outcome_facts state _ _ (refuses call status detail not_ok) = refused_facts state call status detail not_ok
outcome_facts state _ _ (was_staged staged is) = met_facts state (stage_call staged) is
outcome_facts state _ _ (stages staged none) =
    let free = none-from_map (λ (s : StagedVolume). s.capability) (find (λ (s : StagedVolume). s.volume == staged.volume) state.staged) none in
    let found = find-append_one (λ (s : StagedVolume). s.volume == staged.volume) state.staged staged (itself staged.volume) free in
    done_facts state (stage_call staged) (Stages staged) (ap (option_map (λ (s : StagedVolume). s.capability)) found)
    (record { staged = filter-append_one (λ (s : StagedVolume). not (s.volume == staged.volume)) state.staged staged (not_another staged.volume); published = refl })
outcome_facts state _ _ (unstages id none) =
    done_facts state (calls.NodeUnstageVolume id) (Unstages id)
    (ap (option_map (λ (s : StagedVolume). s.capability)) (find-filter_not (λ (s : StagedVolume). s.volume == id) state.staged), none)
    (record { staged = filter-filter (λ (s : StagedVolume). not (s.volume == id)) (λ (s : StagedVolume). not (s.volume == id)) state.staged (λ s h. h); published = refl })
outcome_facts state _ _ (was_published p slash is) = met_facts state (publish_call p) (is, slash)
outcome_facts state _ _ (publishes p fits) =
    done_facts state (publish_call p) (Publishes p)
    (find-append_one (is_published_at p.volume p.target) state.published p (at_itself p) fits.free, fits.slash)
    (record { staged = refl; published = filter-append_one (λ (q : PublishedVolume). not (q.volume == p.volume)) state.published p (not_another p.volume) })
outcome_facts state _ _ (was_unpublished id target none) = met_facts state (calls.NodeUnpublishVolume id target) none
outcome_facts state _ _ (unpublishes id target there is) =
    done_facts state (calls.NodeUnpublishVolume id target) (Unpublishes id target) (find-filter_not (is_published_at id target) state.published)
    (record {
      staged = refl;
      published = filter-filter (λ (p : PublishedVolume). not (p.volume == id)) (λ (p : PublishedVolume). not (is_published_at id target p)) state.published (λ p h. not_at (p.volume == id) (same_text p.target target) h);
    })

-- all that `Facts` says is so of what the table answers where there is room
pub lifecycle_facts : (state : NodeState) (call : Call) → Facts state call (lifecycle_row state call)
lifecycle_facts state call = outcome_facts state call (lifecycle_row state call) (lifecycle_outcomes state call)

-- what is ready is answered OK, with a change that changes nothing
pub record IsMet (state : NodeState) (outcome : Outcome) : Type 0 where
  pub is_ok : outcome.reply ≡ ok_reply
  pub staged : (changed state outcome.change).staged ≡ state.staged
  pub published : (changed state outcome.change).published ≡ state.published

-- a call that was met before is answered OK, and changes nothing
stays_met : (state : NodeState) → IsMet state met
stays_met state = record { is_ok = refl; staged = refl; published = refl }

-- NodeStageVolume of what is staged so is answered OK, and changes nothing
ready_stage : (state : NodeState) (id : ℕ) (capability : Capability) (o : Option Capability) → o ≡ Some capability → IsMet state (stage (record { volume = id; capability = capability }) o)
ready_stage state id capability o is =
    let staged : StagedVolume = record { volume = id; capability = capability } in
    let self : same_capability capability capability ≡ true = (same_capability-tells capability capability).1 refl in
    subst (λ (o : Option Capability). IsMet state (stage staged o)) (sym is)
    (subst (λ (b : Bool). IsMet state (cond b met (refused AlreadyExists (codes "staged otherwise")))) (sym self) (stays_met state))

-- NodeUnstageVolume of what is neither staged nor published is answered OK, and changes nothing
ready_unstage : (state : NodeState) (id : ℕ) (targets : List PublishedVolume) → targets ≡ [] → staged_of id state ≡ None → IsMet state (unstage id targets)
ready_unstage state id targets is none =
    let found = none-from_map (λ (staged : StagedVolume). staged.capability) (find (λ (staged : StagedVolume). staged.volume == id) state.staged) none in
    subst (λ (targets : List PublishedVolume). IsMet state (unstage id targets)) (sym is)
    (record { is_ok = refl; staged = filter-not_none (λ (staged : StagedVolume). staged.volume == id) state.staged found; published = refl })

-- a flag passes the test against itself
same_flag-self : (a : Bool) → same_flag a a ≡ true
same_flag-self true = refl
same_flag-self false = refl

-- NodePublishVolume of what is published so at an absolute target is answered OK, and changes nothing
ready_publish : (state : NodeState) (p : PublishedVolume) → published_at p.volume p.target state ≡ Some p → begins_with_slash p.target ≡ true → IsMet state (publish state p)
ready_publish state p is slash =
    let self : same_capability p.capability p.capability ≡ true = (same_capability-tells p.capability p.capability).1 refl in
    let flag : same_flag p.readonly p.readonly ≡ true = same_flag-self p.readonly in
    let both : (same_capability p.capability p.capability && same_flag p.readonly p.readonly) ≡ true = rw self flag in
    subst (λ (b : Bool). IsMet state (cond (not b) (refused InvalidArgument (codes "target")) (publish_at_target state p (published_at p.volume p.target state)))) (sym slash)
    (subst (λ (o : Option PublishedVolume). IsMet state (publish_at_target state p o)) (sym is)
    (subst (λ (b : Bool). IsMet state (cond b met (refused AlreadyExists (codes "published otherwise")))) (sym both) (stays_met state)))

-- a call that is ready is answered OK, and changes nothing
pub ready_met : (state : NodeState) (call : Call) → IsReady state call → IsMet state (lifecycle_row state call)
unfolding IsReady
ready_met state (calls.NodeStageVolume id capability) h = ready_stage state id capability (staged_of id state) h
ready_met state (calls.NodeUnstageVolume id) h = ready_unstage state id (published_of id state) h.1 h.0
ready_met state (calls.NodePublishVolume id target capability readonly) h = ready_publish state (record { volume = id; target = target; capability = capability; readonly = readonly }) h.0 h.1
ready_met state (calls.NodeUnpublishVolume id target) h = subst (λ (o : Option PublishedVolume). IsMet state (unpublish id target o)) (sym h) (stays_met state)
ready_met state (calls.CreateVolume name required limit capabilities) h = absurd h
ready_met state (calls.DeleteVolume id) h = absurd h
ready_met state (calls.ControllerPublishVolume id node capability readonly) h = absurd h
ready_met state (calls.ControllerUnpublishVolume id node) h = absurd h

-- the rows count for nothing there, and a call that is ready is about a volume
pub ready_kept : (state : NodeState) (rows : List AnsweredVolume) (call : Call) → IsReady state call → IsReady (record state { rows = rows }) call
unfolding IsReady
ready_kept state rows (calls.NodeStageVolume id capability) h = h
ready_kept state rows (calls.NodeUnstageVolume id) h = h
ready_kept state rows (calls.NodePublishVolume id target capability readonly) h = h
ready_kept state rows (calls.NodeUnpublishVolume id target) h = h
ready_kept state rows (calls.CreateVolume name required limit capabilities) h = absurd h
ready_kept state rows (calls.DeleteVolume id) h = absurd h
ready_kept state rows (calls.ControllerPublishVolume id node capability readonly) h = absurd h
ready_kept state rows (calls.ControllerUnpublishVolume id node) h = absurd h

-- a call that is ready is about a volume, and what it does is so already
pub ready_says : (state : NodeState) (call : Call) → IsReady state call → ((id : ℕ) × (volume_of call ≡ Some id)) × IsDone state call
unfolding IsReady
ready_says state (calls.NodeStageVolume id capability) h = ((id, refl), h)
ready_says state (calls.NodeUnstageVolume id) h = ((id, refl), h.0)
ready_says state (calls.NodePublishVolume id target capability readonly) h = ((id, refl), h.0)
ready_says state (calls.NodeUnpublishVolume id target) h = ((id, refl), h)
ready_says state (calls.CreateVolume name required limit capabilities) h = absurd h
ready_says state (calls.DeleteVolume id) h = absurd h
ready_says state (calls.ControllerPublishVolume id node capability readonly) h = absurd h
ready_says state (calls.ControllerUnpublishVolume id node) h = absurd h
