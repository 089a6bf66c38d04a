-- What a controller remembers, whatever frames came: each volume that was deleted had its last call in the greatest session, and none had
-- one in a later session.
use Rattle.std.proofs.Common.{◌≡◌, ◌⊎◌, ◌≤◌, ℕ, List, ◌∷◌, Bool, true, false, cond, refl, sym, ◌∙◌, subst, inl, inr, arith}
use Rattle.std.specs.Prelude.{nat_lt, ◌==◌}
use Rattle.std.proofs.lemmas.Bool.{eq-eqb, ltb-true, true≢false}
use Rattle.csi_types.proofs.Counts.{count-either}
use Rattle.csi_types.proofs.Members.{among-either, among-kept, among-map}
use Rattle.csi_types.specs.Model.Members.{IsAmong}
use Rattle.csi_types.specs.declared.number.Number.{Number}
use Rattle.csi_types.specs.declared.call.Call.{Call}
use Rattle.csi_types.specs.declared.call.Call.TheVariants as calls
use Rattle.csi_types.specs.Model.Call.{kind_of}
use Rattle.csi_types.specs.Model.Capacity.{capacity_wanted}
use Rattle.csi_types.specs.Model.Config.{Config}
use Rattle.csi_fence.proofs.FramesKeep.{IsKept}
use Rattle.csi_fence.specs.Model.Fence.{Kept}
use Rattle.csi_controller.specs.Model.State.{Volume, ControllerState, empty_controller, is_row_for}
use Rattle.csi_controller.specs.Model.Table.{Outcome, Change, Stays, changed, ended_volume, controller_row}
use Rattle.csi_controller.specs.Model.Fenced.{kept_in, carried_out, begun, controller_with}
use Rattle.csi_controller.specs.Public.Fenced.{ConfiguredFrame, after_configured}
use Rattle.csi_controller.specs.Public.Safe.{Remembers}
use Rattle.csi_controller.proofs.OrderlyStates.{configured_keep}
use Rattle.csi_controller.proofs.TableOutcomes.{IsOutcome, was_refused, was_found, was_made, was_ended, was_ended_before, was_attached, was_attached_before, was_detached, was_detached_before, is_outcome}

-- the volume is live, or its last call is of this session; and that is of no later one
pub record IsRecent (session : ℕ) (volume : Volume) : Type 0 where
  pub each : (volume.is_live ≡ true) ⊎ (volume.kept.number.session ≡ session)
  pub before : volume.kept.number.session ≤ session

-- so is each
abbrev pub AreRecent : ControllerState → Type 0
AreRecent state = (volume : Volume) → IsAmong volume state.volumes → IsRecent state.session volume

-- the volume is recent, or is the row of the call that will be kept
abbrev IsDue : Call → ℕ → Volume → Type 0
IsDue call session volume = IsRecent session volume ⊎ (is_row_for call volume ≡ true)

-- no change of the table changes the session
pub changed_session : (state : ControllerState) (kept : Kept) (change : Change) → (changed state kept change).session ≡ state.session
changed_session state kept Stays = refl
changed_session state kept change = refl

-- the volume that DeleteVolume ends is the call's row, and the others are as they were
ended_due : (id session : ℕ) (volume : Volume) → IsRecent session volume → IsDue (calls.DeleteVolume id) session (ended_volume id volume)
ended_due id session volume recent = by (volume.id == id) refl
  where
    by : (b : Bool) → (volume.id == id) ≡ b → IsDue (calls.DeleteVolume id) session (cond b (record volume { is_live = false }) volume)
    by true same = inr same
    by false other = inl recent

-- a volume that is made keeps the call that made it
made_due : (call : Call) (state : ControllerState) (made v : Volume) → made.is_live ≡ true → made.kept.number.session ≡ state.session → AreRecent state → IsAmong v state.volumes ⊎ (v ≡ made)
    → IsDue call state.session v
made_due call state made v live same recent (inl there) = inl (recent v there)
made_due call state made v live same recent (inr is) =
    subst (IsDue call state.session) (sym is) (inl (record { each = inl live; before = omega (arith, same) }))

-- so is each volume after each change that the table makes
changed_due : (config : Config) (state : ControllerState) (call : Call) (outcome : Outcome) (kept : Kept) → IsOutcome config state call outcome → kept.number.session ≡ state.session → AreRecent state
    → (volume : Volume) → IsAmong volume (changed state kept outcome.change).volumes → IsDue call state.session volume
changed_due config state call outcome kept (was_refused _ status detail not_ok) same recent v among = inl (recent v among)
changed_due config state call outcome kept (was_found name required limit first others volume range named live serving) same recent v among = inl (recent v among)
changed_due config state call outcome kept (was_made name required limit first others range unnamed) same recent v among =
    let made : Volume = record { id = state.next_id; name = name; capacity = capacity_wanted required limit; capabilities = first ∷ others; is_live = true; kept = kept } in
    made_due call state made v refl same recent (among-either state.volumes made v among)
changed_due config state call outcome kept (was_ended id volume live free) same recent v among =
    let image = among-map (ended_volume id) state.volumes v among in
    subst (IsDue call state.session) (sym image.2) (ended_due id state.session image.0 (recent image.0 image.1))
changed_due config state call outcome kept (was_ended_before id none) same recent v among = inl (recent v among)
changed_due config state call outcome kept (was_attached holding volume can free fits) same recent v among = inl (recent v among)
changed_due config state call outcome kept (was_attached_before holding volume can held) same recent v among = inl (recent v among)
changed_due config state call outcome kept (was_detached id node held there) same recent v among = inl (recent v among)
changed_due config state call outcome kept (was_detached_before id node none) same recent v among = inl (recent v among)

-- once the call is kept in its row, each is recent
kept_recent : (call : Call) (kept : Kept) (session : ℕ) (volume : Volume) → kept.number.session ≡ session → IsDue call session volume → IsRecent session (kept_in call kept volume)
kept_recent call kept session volume same due = by (is_row_for call volume) refl due
  where
    by : (b : Bool) → is_row_for call volume ≡ b → IsDue call session volume → IsRecent session (cond b (record volume { kept = kept }) volume)
    by true row d = record { each = inr same; before = omega (arith, same) }
    by false other (inl recent) = recent
    by false other (inr row) = absurd (true≢false (sym row ∙ other))

-- a call of this session that is carried out leaves each so
carried_recent : (config : Config) (state : ControllerState) (number : Number) (call : Call) → number.session ≡ state.session → AreRecent state
    → AreRecent (carried_out state number call (controller_row config state call)).state
carried_recent config state number call same recent w among =
    let outcome : Outcome = controller_row config state call in
    let kept : Kept = record { number = number; kind = kind_of call; reply = outcome.reply } in
    let next : ControllerState = changed state kept outcome.change in
    let image = among-map (kept_in call kept) next.volumes w among in
    subst (λ session. IsRecent session w) (sym (changed_session state kept outcome.change))
    (subst (IsRecent state.session) (sym image.2) (kept_recent call kept state.session image.0 same (changed_due config state call outcome kept (is_outcome config state call) same recent image.0 image.1)))

-- and so does a session that begins
pub begun_recent : (session : ℕ) (state : ControllerState) → nat_lt state.session session ≡ true → AreRecent state → AreRecent (begun session state)
begun_recent session state later recent w among =
    let kept = among-kept (λ (v : Volume). v.is_live) state.volumes w among in
    record { each = inl kept.1; before = omega (arith, (recent w kept.0).before, ltb-true state.session session later) }

-- so each frame does
recent_kept : (config : Config) → IsKept (controller_with config) AreRecent
recent_kept config =
    record {
      sets_session = λ session state. refl;
      begins = begun_recent;
      carries = λ state number call goes. carried_recent config state number call goes.session;
    }

-- every state that frames lead to is so
pub came_recent : (came : List ConfiguredFrame) → AreRecent (after_configured empty_controller came)
came_recent came = configured_keep AreRecent recent_kept empty_controller came (λ v among. absurd among)

-- so it remembers no more than what is live and what had its last call in the greatest session
pub remembers : (state : ControllerState) → AreRecent state → Remembers state
remembers state recent =
    record {
      each = λ volume among. (recent volume among).each;
      before = λ volume among. (recent volume among).before;
      few = count-either (λ (v : Volume). v.is_live) (λ (v : Volume). v.kept.number.session == state.session) state.volumes (λ v among. tested v (recent v among).each);
    }
  where
    tested : (v : Volume) → (v.is_live ≡ true) ⊎ (v.kept.number.session ≡ state.session) → (v.is_live ≡ true) ⊎ ((v.kept.number.session == state.session) ≡ true)
    tested v (inl live) = inl live
    tested v (inr same) = inr (eq-eqb v.kept.number.session state.session same)
