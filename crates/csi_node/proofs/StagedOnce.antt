-- In a node's state each volume is staged at most once: what the list has is what is found, whatever frames came.
use Rattle.std.proofs.Common.{◌≡◌, ◌⊎◌, ℕ, List, cond, false, not, refl, sym, ◌∙◌, ap, subst, inl, inr}
use Rattle.std.specs.Prelude.{Some, None, option_map, find, ◌==◌}
use Rattle.std.proofs.lemmas.Bool.{not-true, eqb-true, eq-eqb}
use Rattle.csi_types.proofs.Members.{among-kept, among-either}
use Rattle.csi_types.proofs.Searches.{find-append_one, find-filter, find-append}
use Rattle.csi_types.specs.declared.capability.Capability.{Capability}
use Rattle.csi_types.specs.declared.call.Call.{Call}
use Rattle.csi_types.specs.Model.Frame.{Frame}
use Rattle.csi_fence.proofs.FramesKeep.{IsKept, frames_keep}
use Rattle.csi_types.specs.Model.Members.{IsAmong}
use Rattle.csi_types.proofs.Options.{option_or-read, none-from_map}
use Rattle.csi_node.specs.Model.State.{NodeState, StagedVolume, joined_node, staged_of}
use Rattle.csi_node.specs.Model.Table.{Outcome, Stages, Unstages, lifecycle_row, changed}
use Rattle.csi_node.specs.Model.Fenced.{node_at}
use Rattle.csi_node.specs.Public.Fenced.{after_frames}
use Rattle.csi_node.proofs.TableOutcomes.{IsOutcome, refuses, was_staged, stages, unstages, was_published, publishes, was_unpublished, unpublishes, lifecycle_outcomes}
use Rattle.csi_node.proofs.CarriedOut.{keeps-apart}

-- each staged volume is found as it is staged
abbrev pub AreFound : NodeState → Type 0
AreFound state = (staged : StagedVolume) → IsAmong staged state.staged → staged_of staged.volume state ≡ Some staged.capability

-- a volume that is staged is still staged so where one is staged
pub still-staged : (state : NodeState) (new : StagedVolume) (id : ℕ) (capability : Capability) → staged_of id state ≡ Some capability → staged_of id (changed state (Stages new)) ≡ Some capability
still-staged state new id capability is =
    ap (option_map (λ (s : StagedVolume). s.capability)) (find-append (λ (s : StagedVolume). s.volume == id) state.staged new)
    ∙ option_or-read (λ (s : StagedVolume). s.capability) (find (λ (s : StagedVolume). s.volume == id) state.staged) (cond (new.volume == id) (Some new) None) capability is

-- where a volume that isn't staged is staged, each staged volume is still found as it is staged
stages-found : (state : NodeState) (new : StagedVolume) → staged_of new.volume state ≡ None → AreFound state → AreFound (changed state (Stages new))
stages-found state new none found staged among = by (among-either state.staged new staged among)
  where
    now : staged_of new.volume (changed state (Stages new)) ≡ Some new.capability
    now =
        ap (option_map (λ (s : StagedVolume). s.capability))
        (find-append_one (λ (s : StagedVolume). s.volume == new.volume) state.staged new (eq-eqb new.volume new.volume refl) (none-from_map (λ (s : StagedVolume). s.capability) (find (λ (s : StagedVolume). s.volume == new.volume) state.staged) none))

    by : IsAmong staged state.staged ⊎ (staged ≡ new) → staged_of staged.volume (changed state (Stages new)) ≡ Some staged.capability
    by (inl there) = still-staged state new staged.volume staged.capability (found staged there)
    by (inr e) = subst (λ (s : StagedVolume). staged_of s.volume (changed state (Stages new)) ≡ Some s.capability) (sym e) now

-- another volume is still staged as it was where one is unstaged
pub left-staged : (state : NodeState) (id other : ℕ) → (other == id) ≡ false → staged_of other (changed state (Unstages id)) ≡ staged_of other state
left-staged state id other differ =
    ap (option_map (λ (s : StagedVolume). s.capability))
    (find-filter (λ (s : StagedVolume). s.volume == other) (λ (s : StagedVolume). not (s.volume == id)) state.staged (λ s same. ap (λ n. not (n == id)) (eqb-true s.volume other same) ∙ ap not differ))

-- so each staged volume is still found as it is staged
unstages-found : (state : NodeState) (id : ℕ) → AreFound state → AreFound (changed state (Unstages id))
unstages-found state id found staged among =
    let was = among-kept (λ (s : StagedVolume). not (s.volume == id)) state.staged staged among in
    left-staged state id staged.volume (not-true (staged.volume == id) was.1) ∙ found staged was.0

-- each outcome of the table leaves each staged volume found as it is staged
outcome-found : (state : NodeState) (call : Call) (outcome : Outcome) → IsOutcome state call outcome → AreFound state → AreFound (changed state outcome.change)
outcome-found state _ _ (refuses call status detail not_ok) found = found
outcome-found state _ _ (was_staged staged is) found = found
outcome-found state _ _ (stages staged none) found = stages-found state staged none found
outcome-found state _ _ (unstages id none) found = unstages-found state id found
outcome-found state _ _ (was_published p slash is) found = found
outcome-found state _ _ (publishes p fits) found = found
outcome-found state _ _ (was_unpublished id target none) found = found
outcome-found state _ _ (unpublishes id target there is) found = found

-- so does each frame; a session that begins touches the rows alone
is_kept : (node : List ℕ) → IsKept (node_at node) AreFound
is_kept node = keeps-apart node AreFound (λ state rows session found. found) (λ state call found. outcome-found state call (lifecycle_row state call) (lifecycle_outcomes state call) found)

-- after any frames to a new node, each staged volume is found as it is staged
pub all_found : (node : List ℕ) (session : ℕ) (frames : List Frame) → AreFound (after_frames node (joined_node session) frames)
all_found node session frames = frames_keep (node_at node) AreFound (is_kept node) (joined_node session) frames (λ staged among. absurd among)
