-- A controller whose volumes are live, or had their last call in its session, has such volumes after each frame.
use Rattle.csi_world.proofs.Words.{◌≡◌, ◌⊎◌, ℕ, ◌≤◌, ◌∷◌, true, refl, sym, subst, inl, inr, arith, Number, Call}
use Rattle.csi_world.proofs.Words.{Config, IsAmong, kind_of, capacity_wanted, Kept, Volume, ControllerState}
use Rattle.csi_world.proofs.Words.{is_row_for, ended_volume}
use Rattle.csi_world.proofs.Lemmas.{true≢false, among-either, among-map}
use Rattle.csi_types.specs.declared.call.Call.TheVariants as calls
use Rattle.csi_fence.proofs.FramesKeep.{IsKept}
use Rattle.csi_controller.specs.Model.Table.{Outcome, changed, controller_row}
use Rattle.csi_controller.specs.Model.Fenced.{kept_in, carried_out, controller_with}
use Rattle.csi_controller.proofs.RememberedStates.{IsRecent, AreRecent, changed_session, begun_recent}
use Rattle.csi_controller.proofs.TableOutcomes.{IsOutcome, was_refused, was_found, was_made, was_ended, was_ended_before, was_attached, was_attached_before, was_detached, was_detached_before, is_outcome}

-- it is so of the volume, or will be once the call is kept in its row
abbrev IsDue : Call → ℕ → Volume → Type 0
IsDue call session volume = IsRecent session volume ⊎ (is_row_for call volume ≡ true)

-- a volume that is ended is the call's row
ended-due : (id session : ℕ) (volume : Volume) → IsRecent session volume → IsDue (calls.DeleteVolume id) session (ended_volume id volume)
ended-due id session volume recent = grind arith

-- so it is after each answer of the table
changed-due : (config : Config) (state : ControllerState) (call : Call) (outcome : Outcome) (kept : Kept) → IsOutcome config state call outcome → kept.number.session ≡ state.session → AreRecent state
    → (volume : Volume) → IsAmong volume (changed state kept outcome.change).volumes → IsDue call state.session volume
changed-due config state call outcome kept (was_refused _ status detail not_ok) same recent v among = inl (recent v among)
changed-due config state call outcome kept (was_found name required limit first others volume range named live serving) same recent v among = inl (recent v among)
changed-due config state call outcome kept (was_made name required limit first others range unnamed) same recent v among =
    let made : Volume = record { id = state.next_id; name = name; capacity = capacity_wanted required limit; capabilities = first ∷ others; is_live = true; kept = kept } in
    by made (among-either state.volumes made v among) refl refl
  where
    by : (made : Volume) → IsAmong v state.volumes ⊎ (v ≡ made) → made.is_live ≡ true → made.kept ≡ kept → IsDue call state.session v
    by made (inl there) live its = inl (recent v there)
    by made (inr is) live its = subst (IsDue call state.session) (sym is) (inl (record { each = inl live; before = subst (λ (k : Kept). k.number.session ≤ state.session) (sym its) (omega (arith, same)) }))
changed-due config state call outcome kept (was_ended id volume live free) same recent v among =
    let image = among-map (ended_volume id) state.volumes v among in subst (IsDue call state.session) (sym image.2) (ended-due id state.session image.0 (recent image.0 image.1))
changed-due config state call outcome kept (was_ended_before id none) same recent v among = inl (recent v among)
changed-due config state call outcome kept (was_attached holding volume can free fits) same recent v among = inl (recent v among)
changed-due config state call outcome kept (was_attached_before holding volume can held) same recent v among = inl (recent v among)
changed-due config state call outcome kept (was_detached id node held there) same recent v among = inl (recent v among)
changed-due config state call outcome kept (was_detached_before id node none) same recent v among = inl (recent v among)

-- and once the call is kept in its row
kept-recent : (call : Call) (kept : Kept) (session : ℕ) (volume : Volume) → kept.number.session ≡ session → IsDue call session volume → IsRecent session (kept_in call kept volume)
kept-recent call kept session volume same due = grind (arith, IsRecent, true≢false)

-- so each frame leaves it
pub recent-kept : (config : Config) → IsKept (controller_with config) AreRecent
recent-kept config =
    record {
      sets_session = λ session state. refl;
      begins = begun_recent;
      carries = λ state number call goes. carried state number call goes.session;
    }
  where
    carried : (state : ControllerState) (number : Number) (call : Call) → number.session ≡ state.session → AreRecent state → AreRecent (carried_out state number call (controller_row config state call)).state
    carried state number call same recent w among =
        let outcome : Outcome = controller_row config state call in
        let kept : Kept = record { number = number; kind = kind_of call; reply = outcome.reply } in
        let image = among-map (kept_in call kept) (changed state kept outcome.change).volumes w among in
        subst (λ session. IsRecent session w) (sym (changed_session state kept outcome.change))
        (subst (IsRecent state.session) (sym image.2)
        (kept-recent call kept state.session image.0 same (changed-due config state call outcome kept (is_outcome config state call) same recent image.0 image.1)))
