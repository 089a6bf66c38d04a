-- What a node remembers, whatever frames came: each row's last call is of no later session than the greatest that came; and of that
-- one, where the volume isn't staged.
use Rattle.std.proofs.Common.{◌≡◌, ◌⊎◌, ◌≤◌, ℕ, List, true, sym, ◌∙◌, ap, subst, inl, inr, arith}
use Rattle.std.specs.Prelude.{option_map, find, is_some, IsSome, ◌==◌}
use Rattle.std.proofs.lemmas.Bool.{eq-eqb, ltb-true}
use Rattle.csi_types.specs.Model.Members.{IsAmong}
use Rattle.csi_types.proofs.Counts.{count-either}
use Rattle.csi_types.proofs.Members.{among-kept}
use Rattle.csi_types.specs.declared.number.Number.{Number}
use Rattle.csi_types.specs.declared.call.Call.{Call}
use Rattle.csi_types.specs.Model.Frame.{Frame}
use Rattle.csi_fence.specs.Model.Fence.{Kept}
use Rattle.csi_fence.proofs.FramesKeep.{IsKept, frames_keep}
use Rattle.csi_node.specs.Model.State.{NodeState, AnsweredVolume, StagedVolume, joined_node, staged_of, volume_of}
use Rattle.csi_node.specs.Model.Table.{lifecycle_row, changed}
use Rattle.csi_node.specs.Model.Fenced.{keep, begun, node_at}
use Rattle.csi_node.specs.Public.Fenced.{after_frames}
use Rattle.csi_node.specs.Public.Laws.{is_another}
use Rattle.csi_node.specs.Public.Safe.{Remembers}
use Rattle.csi_node.proofs.CarriedOut.{kept_of, keeps-by, session_then}
use Rattle.csi_node.proofs.LastCalls.{find-others, keep-each, keep-staged, changed-rows}
use Rattle.csi_node.proofs.OutcomeFacts.{lifecycle_facts}

-- the rows are of no later session, and those of volumes that aren't staged of this one
pub record AreCurrent (state : NodeState) : Type 0 where
  pub each : (row : AnsweredVolume) → IsAmong row state.rows → IsSome (staged_of row.id state) ⊎ (row.kept.number.session ≡ state.session)
  pub before : (row : AnsweredVolume) → IsAmong row state.rows → row.kept.number.session ≤ state.session

-- so there are at most as many as are of staged volumes and as are of this session
pub remembers : (state : NodeState) → AreCurrent state → Remembers state
remembers state current = record {
  each = current.each;
  before = current.before;
  few = count-either (λ (row : AnsweredVolume). is_some (staged_of row.id state)) (λ (row : AnsweredVolume). row.kept.number.session == state.session) state.rows
      (λ row among. by row (current.each row among));
}
  where
    by : (row : AnsweredVolume) → IsSome (staged_of row.id state) ⊎ (row.kept.number.session ≡ state.session)
        → (is_some (staged_of row.id state) ≡ true) ⊎ ((row.kept.number.session == state.session) ≡ true)
    by row (inl staged) = inl staged
    by row (inr same) = inr (eq-eqb row.kept.number.session state.session same)

-- where a later session begins they are so
begun_current : (session : ℕ) (state : NodeState) → state.session ≤ session → AreCurrent state → AreCurrent (begun session state)
begun_current session state later current = record {
  each = λ row among. inl ((among-kept (λ (row : AnsweredVolume). is_some (staged_of row.id state)) state.rows row among).1);
  before = λ row among.
      let earlier = current.before row ((among-kept (λ (row : AnsweredVolume). is_some (staged_of row.id state)) state.rows row among).0) in
      omega (arith, earlier, later);
}

module _ (state : NodeState) (number : Number) (call : Call) (now : number.session ≡ state.session) (current : AreCurrent state) where
  -- the call, as it is kept, and the state with its change
  abbrev kept : Kept
  kept = kept_of state number call

  -- the state with the call's change
  abbrev next : NodeState
  next = changed state (lifecycle_row state call).change

  -- and then with the call kept
  abbrev after : NodeState
  after = keep (volume_of call) kept next

  -- the session stays
  same_session : after.session ≡ state.session
  same_session = session_then state number call

  -- and how another volume is staged
  same_staged : (id : ℕ) → is_another (volume_of call) id ≡ true → staged_of id after ≡ staged_of id state
  same_staged id other =
      ap (λ (list : List StagedVolume). option_map (λ (s : StagedVolume). s.capability) (find (λ (s : StagedVolume). s.volume == id) list)) (keep-staged (volume_of call) kept next)
      ∙ ap (option_map (λ (s : StagedVolume). s.capability)) (find-others (λ (s : StagedVolume). s.volume) (is_another (volume_of call)) id other state.staged next.staged (lifecycle_facts state call).others.staged)

  -- a row from before was there
  was_there : (row : AnsweredVolume) → IsAmong row next.rows → IsAmong row state.rows
  was_there row among = subst (IsAmong row) (changed-rows state (lifecycle_row state call).change) among

  -- the row of the call is of this session
  own_session : (row : AnsweredVolume) → row.kept ≡ kept → row.kept.number.session ≡ after.session
  own_session row is = ap (λ (k : Kept). k.number.session) is ∙ now ∙ sym same_session

  -- once the call was carried out they are so
  done_current : AreCurrent after
  done_current = record {
    each = λ row among. each row (keep-each (volume_of call) kept next row among);
    before = λ row among. before row (keep-each (volume_of call) kept next row among);
  }
    where
      was : (row : AnsweredVolume) → is_another (volume_of call) row.id ≡ true → IsSome (staged_of row.id state) ⊎ (row.kept.number.session ≡ state.session)
          → IsSome (staged_of row.id after) ⊎ (row.kept.number.session ≡ after.session)
      was row other (inl staged) = inl (ap is_some (same_staged row.id other) ∙ staged)
      was row other (inr same) = inr (same ∙ sym same_session)

      each : (row : AnsweredVolume) → (IsAmong row next.rows × (is_another (volume_of call) row.id ≡ true)) ⊎ (row.kept ≡ kept) → IsSome (staged_of row.id after) ⊎ (row.kept.number.session ≡ after.session)
      each row (inl there) = was row there.1 (current.each row (was_there row there.0))
      each row (inr is) = inr (own_session row is)

      before : (row : AnsweredVolume) → (IsAmong row next.rows × (is_another (volume_of call) row.id ≡ true)) ⊎ (row.kept ≡ kept) → row.kept.number.session ≤ after.session
      before row (inl there) = let earlier = current.before row (was_there row there.0) in omega (arith, earlier, same_session)
      before row (inr is) = omega (arith, own_session row is)

-- and so does each frame
is_kept : (node : List ℕ) → IsKept (node_at node) AreCurrent
is_kept node = keeps-by node AreCurrent (λ session state later current. begun_current session state (let less = ltb-true state.session session later in omega (arith, less)) current) done_current

-- after any frames to a new node
pub all_current : (node : List ℕ) (session : ℕ) (frames : List Frame) → AreCurrent (after_frames node (joined_node session) frames)
all_current node session frames = frames_keep (node_at node) AreCurrent (is_kept node) (joined_node session) frames (record { each = λ row among. absurd among; before = λ row among. absurd among })
