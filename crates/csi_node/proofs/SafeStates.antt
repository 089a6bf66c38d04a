-- In a node's state what is published is staged, at as many targets as its mode allows, whatever frames came.
use Rattle.std.proofs.Common.{◌≡◌, ◌⊎◌, ℕ, List, [], false, not, sym, ◌∙◌, ap, subst, inl, inr}
use Rattle.std.specs.Prelude.{Some, ◌==◌}
use Rattle.std.proofs.lemmas.Bool.{eq-eqb, true≢false, false_from_ne_true}
use Rattle.csi_types.specs.declared.capability.Capability.{Capability}
use Rattle.csi_types.specs.declared.call.Call.{Call}
use Rattle.csi_types.specs.Model.Frame.{Frame}
use Rattle.csi_types.specs.Model.Sharing.{allows_one_target}
use Rattle.csi_fence.proofs.FramesKeep.{IsKept, frames_keep}
use Rattle.csi_node.specs.Model.State.{NodeState, StagedVolume, PublishedVolume, joined_node, staged_of, published_of, is_published_at}
use Rattle.csi_node.specs.Model.Table.{Outcome, Change, Stages, Unstages, Publishes, Unpublishes, lifecycle_row, changed}
use Rattle.csi_node.specs.Model.Fenced.{node_at}
use Rattle.csi_node.specs.Public.Fenced.{after_frames}
use Rattle.csi_types.specs.Model.Members.{IsAmong}
use Rattle.csi_node.specs.Public.Safe.{AllowTwo, IsPublishedRight}
use Rattle.csi_node.proofs.TableOutcomes.{Fits, IsOutcome, refuses, was_staged, stages, unstages, was_published, publishes, was_unpublished, unpublishes, lifecycle_outcomes}
use Rattle.csi_node.proofs.CarriedOut.{keeps-apart}
use Rattle.csi_node.proofs.StagedOnce.{left-staged, still-staged}
use Rattle.csi_types.proofs.Members.{among-either, among-filter, none_kept}
use Rattle.csi_types.proofs.Pairs.{two-append, two-filter}
use Rattle.std.proofs.lemmas.Option.{same_Some}

-- a change keeps that
abbrev Keeps : NodeState → Change → Type 0
Keeps state change = IsPublishedRight state → IsPublishedRight (changed state change)

-- a staging keeps what is published right
stages_keeps : (state : NodeState) (staged : StagedVolume) → Keeps state (Stages staged)
stages_keeps state staged right = record {
  staged = λ p among. still-staged state staged p.volume p.capability (right.staged p among);
  targets = right.targets;
}

-- a volume that isn't published is no other's
unstages_keeps : (state : NodeState) (id : ℕ) → published_of id state ≡ [] → Keeps state (Unstages id)
unstages_keeps state id none right = record {
  staged = λ p among. left-staged state id p.volume (none_kept (λ (q : PublishedVolume). q.volume == id) state.published p none among) ∙ right.staged p among;
  targets = right.targets;
}

-- what is published of the volume has the mode in which it is staged
one_mode : (state : NodeState) (p q : PublishedVolume) → IsPublishedRight state → staged_of p.volume state ≡ Some p.capability → IsAmong q state.published → q.volume ≡ p.volume → q.capability ≡ p.capability
one_mode state p q right is among same =
    same_Some q.capability p.capability (sym (right.staged q among) ∙ ap (λ n. staged_of n state) same ∙ is)

-- where the volume is published already, its mode allows more targets than one
shared : (state : NodeState) (p q : PublishedVolume) → Fits state p → IsAmong q state.published → q.volume ≡ p.volume → allows_one_target p.capability.mode ≡ false
shared state p q fits among same =
    false_from_ne_true (allows_one_target p.capability.mode)
    (λ one. true≢false (sym (eq-eqb q.volume p.volume same) ∙ none_kept (λ (r : PublishedVolume). r.volume == p.volume) state.published q (fits.alone one) among))

-- publishing what may be published keeps what is published right
publishes_keeps : (state : NodeState) (p : PublishedVolume) → Fits state p → Keeps state (Publishes p)
publishes_keeps state p fits right = record {
  staged = λ q among. by q (among-either state.published p q among);
  targets = two-append AllowTwo state.published p right.targets (λ q among. record {
    first = λ same. subst (λ (c : Capability). allows_one_target c.mode ≡ false) (sym (one_mode state p q right fits.staged among same)) (shared state p q fits among same);
    second = λ same. shared state p q fits among same;
  });
}
  where
    by : (q : PublishedVolume) → IsAmong q state.published ⊎ (q ≡ p) → staged_of q.volume state ≡ Some q.capability
    by q (inl there) = right.staged q there
    by q (inr e) = subst (λ (x : PublishedVolume). staged_of x.volume state ≡ Some x.capability) (sym e) fits.staged

-- taking a target out keeps what is published right
unpublishes_keeps : (state : NodeState) (id : ℕ) (target : List ℕ) → Keeps state (Unpublishes id target)
unpublishes_keeps state id target right = record {
  staged = λ p among. right.staged p (among-filter (λ (q : PublishedVolume). not (is_published_at id target q)) state.published p among);
  targets = two-filter AllowTwo (λ (q : PublishedVolume). not (is_published_at id target q)) state.published right.targets;
}

-- each outcome of the table keeps what is published right
outcome_keeps : (state : NodeState) (call : Call) (outcome : Outcome) → IsOutcome state call outcome → Keeps state outcome.change
outcome_keeps state _ _ (refuses call status detail not_ok) right = right
outcome_keeps state _ _ (was_staged staged is) right = right
outcome_keeps state _ _ (stages staged none) right = stages_keeps state staged right
outcome_keeps state _ _ (unstages id none) right = unstages_keeps state id none right
outcome_keeps state _ _ (was_published p slash is) right = right
outcome_keeps state _ _ (publishes p fits) right = publishes_keeps state p fits right
outcome_keeps state _ _ (was_unpublished id target none) right = right
outcome_keeps state _ _ (unpublishes id target there is) right = unpublishes_keeps state id target right

-- so each frame does
is_kept : (node : List ℕ) → IsKept (node_at node) IsPublishedRight
is_kept node =
    keeps-apart node IsPublishedRight (λ state rows session right. record { staged = right.staged; targets = right.targets })
    (λ state call right. outcome_keeps state call (lifecycle_row state call) (lifecycle_outcomes state call) right)

-- in a node that has answered nothing, what is published is right
joined_right : (session : ℕ) → IsPublishedRight (joined_node session)
joined_right session = record { staged = λ p among. absurd among; targets = tt }

-- after any frames to a new node, what is published is right
pub all_right : (node : List ℕ) (session : ℕ) (frames : List Frame) → IsPublishedRight (after_frames node (joined_node session) frames)
all_right node session frames = frames_keep (node_at node) IsPublishedRight (is_kept node) (joined_node session) frames (joined_right session)
