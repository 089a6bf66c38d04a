-- In a controller's state two holdings of one volume are apart, and what is held is live, whatever frames came.
use Rattle.std.proofs.Common.{◌≡◌, ◌⊎◌, ℕ, List, [], ◌∷◌, Bool, true, false, cond, not, refl, sym, ◌∙◌, ap, subst, inl, inr}
use Rattle.std.specs.Prelude.{Some, None, is_some, find, ◌==◌, ◌&&◌, IsSome}
use Rattle.std.proofs.lemmas.Bool.{eq-eqb, not-false}
use Rattle.csi_types.proofs.Members.{among-either, among-filter, in_filter, none_kept, none_passes}
use Rattle.csi_types.proofs.Options.{is_some-map, option_or-is_some}
use Rattle.csi_types.proofs.Pairs.{two-append, two-filter}
use Rattle.csi_types.proofs.Searches.{find-append, find-map}
use Rattle.csi_types.specs.Model.Members.{IsAmong}
use Rattle.csi_types.specs.declared.capability.Capability.{Capability}
use Rattle.csi_types.specs.declared.holding.Holding.{Holding}
use Rattle.csi_types.specs.declared.number.Number.{Number}
use Rattle.csi_types.specs.declared.call.Call.{Call}
use Rattle.csi_types.specs.Model.Capacity.{capacity_wanted}
use Rattle.csi_types.specs.Model.Config.{Config}
use Rattle.csi_fence.proofs.FramesKeep.{IsKept}
use Rattle.csi_fence.specs.Model.Fence.{Kept}
use Rattle.csi_types.specs.Model.Holding.{is_compatible}
use Rattle.csi_types.specs.Model.Same.{same_text}
use Rattle.csi_controller.specs.Model.State.{Volume, ControllerState, empty_controller, live_volume, holdings_of, is_held_at, holding_at}
use Rattle.csi_controller.specs.Model.Table.{Outcome, Change, Stays, Makes, Ends, Attaches, Detaches, controller_row, ended_volume, changed}
use Rattle.csi_controller.specs.Model.Fenced.{kept_in, keep, carried_out, begun, controller_with}
use Rattle.csi_controller.specs.Public.Fenced.{ConfiguredFrame, after_configured}
use Rattle.csi_controller.proofs.OrderlyStates.{configured_keep, kept_same}
use Rattle.csi_controller.specs.Model.Safe.{AreExclusive}
use Rattle.csi_controller.specs.Public.Safe.{IsExclusiveState}
use Rattle.csi_controller.proofs.Forgotten.{live_volume-begun}
use Rattle.csi_controller.proofs.HoldingsApart.{apart}
use Rattle.csi_controller.proofs.TableOutcomes.{IsOutcome, was_refused, was_found, was_made, was_ended, was_ended_before, was_attached, was_attached_before, was_detached, was_detached_before, is_outcome}
use Rattle.csi_controller.proofs.Holdings.{other_id}

-- a change keeps that
abbrev Keeps : ControllerState → Change → Type 0
Keeps state change = (kept : Kept) → IsExclusiveState state → IsExclusiveState (changed state kept change)

-- it is kept where nothing changes, and where a volume is made
stays : (state : ControllerState) → Keeps state Stays
stays state kept safe = safe

-- it is kept where a volume is made
makes_keeps : (state : ControllerState) (name : List ℕ) (capacity : ℕ) (capabilities : List Capability) → Keeps state (Makes name capacity capabilities)
makes_keeps state name capacity capabilities kept safe =
    let volume : Volume = record { id = state.next_id; name = name; capacity = capacity; capabilities = capabilities; is_live = true; kept = kept } in
    record {
      exclusive = safe.exclusive;
      attached_while_live = λ h among. ap is_some (find-append (λ (v : Volume). (v.id == h.volume) && v.is_live) state.volumes volume)
          ∙ option_or-is_some (live_volume h.volume state) _ (safe.attached_while_live h among);
    }

-- the deletion of a volume leaves which volumes of other ids are live
ended_test : (id n : ℕ) (volume : Volume) → (n == id) ≡ false → (((ended_volume id volume).id == n) && (ended_volume id volume).is_live) ≡ ((volume.id == n) && volume.is_live)
ended_test id n volume other = by (volume.id == id) refl
  where
    by : (b : Bool) → (volume.id == id) ≡ b → (((cond b (record volume { is_live = false }) volume).id == n) && (cond b (record volume { is_live = false }) volume).is_live) ≡ ((volume.id == n) && volume.is_live)
    by false same = refl
    by true same = let differs : (volume.id == n) ≡ false = other_id volume.id id n same other in rw differs refl

-- the deletion of a volume that is held nowhere keeps it
ends_keeps : (state : ControllerState) (id : ℕ) → holdings_of id state ≡ [] → Keeps state (Ends id)
ends_keeps state id is = λ kept safe. record {
  exclusive = safe.exclusive;
  attached_while_live = λ h among.
      let other : (h.volume == id) ≡ false = none_kept (λ (k : Holding). k.volume == id) state.holdings h is among in
      ap is_some (find-map (λ (v : Volume). (v.id == h.volume) && v.is_live) (ended_volume id) state.volumes (λ v. ended_test id h.volume v other))
      ∙ is_some-map (ended_volume id) (live_volume h.volume state) ∙ safe.attached_while_live h among;
}

-- ControllerPublishVolume
pub both_false : (a b : Bool) → a ≡ true → (a && b) ≡ false → b ≡ false
both_false true b h e = e
both_false false b h e = cc

-- one more holding keeps it, of a live volume, at a new node, where it can be held with each of the volume's
attaches_keeps : (state : ControllerState) (holding : Holding) (volume : Volume) → live_volume holding.volume state ≡ Some volume → holding_at holding.volume holding.node state ≡ None
    → find (λ other. not (is_compatible holding other)) (holdings_of holding.volume state) ≡ None → Keeps state (Attaches holding)
attaches_keeps state holding volume live none can kept safe = record {
  exclusive = two-append AreExclusive state.holdings holding safe.exclusive
      (λ old among same.
      let of_volume : (old.volume == holding.volume) ≡ true = eq-eqb old.volume holding.volume same in
      let not_held : ((old.volume == holding.volume) && same_text old.node holding.node) ≡ false = none_passes (is_held_at holding.volume holding.node) state.holdings old none among in
      let nodes : same_text old.node holding.node ≡ false = both_false (old.volume == holding.volume) (same_text old.node holding.node) of_volume not_held in
      let listed = in_filter (λ (h : Holding). h.volume == holding.volume) state.holdings old among of_volume in
      let fits = none_passes (λ (other : Holding). not (is_compatible holding other)) (holdings_of holding.volume state) old can listed in
      apart holding old nodes (not-false (is_compatible holding old) fits));
  attached_while_live = λ h among. is_live h safe (among-either state.holdings holding h among);
}
  where
    is_live : (h : Holding) → IsExclusiveState state → IsAmong h state.holdings ⊎ (h ≡ holding) → IsSome (live_volume h.volume state)
    is_live h safe (inl there) = safe.attached_while_live h there
    is_live h safe (inr e) = subst (λ (k : Holding). IsSome (live_volume k.volume state)) (sym e) (ap is_some live)

-- ControllerUnpublishVolume
detaches_keeps : (state : ControllerState) (id : ℕ) (node : List ℕ) → Keeps state (Detaches id node)
detaches_keeps state id node = λ kept safe. record {
  exclusive = two-filter AreExclusive (λ (h : Holding). not (is_held_at id node h)) state.holdings safe.exclusive;
  attached_while_live = λ h among. safe.attached_while_live h (among-filter (λ (k : Holding). not (is_held_at id node k)) state.holdings h among);
}

-- each answer of the table keeps it
outcome_keeps : (config : Config) (state : ControllerState) (call : Call) (outcome : Outcome) → IsOutcome config state call outcome → Keeps state outcome.change
outcome_keeps config state call outcome (was_refused _ status detail not_ok) = stays state
outcome_keeps config state call outcome (was_found name required limit first others volume range named live serving) = stays state
outcome_keeps config state call outcome (was_made name required limit first others range unnamed) = makes_keeps state name (capacity_wanted required limit) (first ∷ others)
outcome_keeps config state call outcome (was_ended id volume live free) = ends_keeps state id free
outcome_keeps config state call outcome (was_ended_before id none) = stays state
outcome_keeps config state call outcome (was_attached holding volume can free fits) = attaches_keeps state holding volume can.live free fits
outcome_keeps config state call outcome (was_attached_before holding volume can held) = stays state
outcome_keeps config state call outcome (was_detached id node held is) = detaches_keeps state id node
outcome_keeps config state call outcome (was_detached_before id node none) = stays state

-- what is kept touches neither holdings nor what is live
kept_test : (call : Call) (kept : Kept) (n : ℕ) (volume : Volume) → (((kept_in call kept volume).id == n) && (kept_in call kept volume).is_live) ≡ ((volume.id == n) && volume.is_live)
kept_test call kept n volume = ap (λ (v : Volume). (v.id == n) && v.is_live) (kept_same call kept kept volume)

-- to keep a call's reply leaves it so
keep_keeps : (call : Call) (kept : Kept) (state : ControllerState) → IsExclusiveState state → IsExclusiveState (keep call kept state)
keep_keeps call kept state safe = record {
  exclusive = safe.exclusive;
  attached_while_live = λ h among. ap is_some (find-map (λ (v : Volume). (v.id == h.volume) && v.is_live) (kept_in call kept) state.volumes (kept_test call kept h.volume))
      ∙ is_some-map (kept_in call kept) (live_volume h.volume state) ∙ safe.attached_while_live h among;
}

-- a call that is carried out keeps it
carried_keeps : (config : Config) (state : ControllerState) (number : Number) (call : Call) → IsExclusiveState state → IsExclusiveState (carried_out state number call (controller_row config state call)).state
carried_keeps config state number call safe =
    keep_keeps call _ (changed state _ (controller_row config state call).change) (outcome_keeps config state call (controller_row config state call) (is_outcome config state call) _ safe)

-- and so does a session that begins, since what is held is live
pub begun_keeps : (session : ℕ) (state : ControllerState) → IsExclusiveState state → IsExclusiveState (begun session state)
begun_keeps session state safe = record {
  exclusive = safe.exclusive;
  attached_while_live = λ h among. ap is_some (live_volume-begun session state h.volume) ∙ safe.attached_while_live h among;
}

-- so each frame does
pub exclusive_kept : (config : Config) → IsKept (controller_with config) IsExclusiveState
exclusive_kept config =
    record {
      sets_session = λ session state. refl;
      begins = λ session state later. begun_keeps session state;
      carries = λ state number call goes. carried_keeps config state number call;
    }

-- it is so of a controller that has answered nothing
pub empty_exclusive : IsExclusiveState empty_controller
empty_exclusive = record { exclusive = tt; attached_while_live = λ h among. absurd among }

-- so it is in each state to which frames lead, under whatever configuration each comes
pub came_exclusive : (came : List ConfiguredFrame) → IsExclusiveState (after_configured empty_controller came)
came_exclusive came = configured_keep IsExclusiveState exclusive_kept empty_controller came empty_exclusive
