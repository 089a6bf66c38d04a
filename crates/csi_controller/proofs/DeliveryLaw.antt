-- A call that is delivered acts, rests or misses.
use Rattle.std.proofs.Common.{◌≡◌, ℕ, List, Bool, true, false, cond, refl, sym, ◌∙◌, ap, subst, inl, inr, arith}
use Rattle.std.specs.Prelude.{Option, Some, None, option_map, is_some, find, nat_lt, ◌==◌, ◌&&◌, IsTrue}
use Rattle.std.proofs.lemmas.Bool.{and_parts, eqb-true, true≢false, and_left}
use Rattle.std.proofs.lemmas.Bool.Decides.{nat_tests}
use Rattle.std.proofs.lemmas.Option.{none-some}
use Rattle.csi_types.proofs.Maps.{map-none}
use Rattle.csi_types.proofs.Members.{among-find, none_passes}
use Rattle.csi_types.proofs.Options.{none-from_map, option_map-map}
use Rattle.csi_types.proofs.Searches.{find-map, find-none, find-passes}
use Rattle.csi_types.specs.declared.number.Number.{Number}
use Rattle.csi_types.specs.declared.call.Call.{Call}
use Rattle.csi_types.specs.declared.call.Kind.{Kind}
use Rattle.csi_types.specs.declared.call.Call.TheVariants as calls
use Rattle.csi_types.specs.declared.call.Party.TheVariants.{Controller}
use Rattle.csi_types.specs.declared.holding.Holding.{Holding}
use Rattle.csi_types.specs.declared.status.Status.TheVariants.{Ok}
use Rattle.csi_types.specs.declared.reply.Reply.{Reply}
use Rattle.csi_types.specs.Model.Call.{kind_of}
use Rattle.csi_types.specs.Public.Call.{is_party_of}
use Rattle.csi_types.specs.Model.Config.{Config}
use Rattle.csi_fence.proofs.Delivered.{IsKeptFor, answered-delivered}
use Rattle.csi_fence.proofs.Judged.{Judgement, was_over, was_fresh, was_repeated, was_stale, was_judged}
use Rattle.csi_fence.proofs.Views.{Carries, carried-acts, closed-view, empty-view}
use Rattle.csi_fence.proofs.Spent.{not_over-own}
use Rattle.csi_fence.proofs.FramesKeep.{own_session as session_of}
use Rattle.csi_fence.specs.Public.Delivery.{Delivery, view_by, Acts, Misses, CallBecomes, IsDelivered, IsEmpty, IsClosed, last_of}
use Rattle.csi_fence.specs.Model.Fence.{Kept, is_spent, is_over, begins}
use Rattle.csi_fence.specs.Model.Fenced.{Fenced, answered_in}
use Rattle.csi_types.specs.Public.PluginThing.{PluginThing, Exists, Attached, HasId, asked}
use Rattle.csi_types.specs.Public.Reply.{has_id_by_rule}
use Rattle.csi_types.specs.Model.Same.{same_text}
use Rattle.csi_controller.specs.Model.State.{Volume, ControllerState, empty_controller, live_volume, is_held_at, is_row_for, row_for}
use Rattle.csi_controller.specs.Public.State.{volume_with_id}
use Rattle.csi_controller.specs.Model.Table.{Outcome, Change, Stays, changed, controller_row}
use Rattle.csi_controller.specs.Model.Fenced.{kept_in, keep, carried_out, kept_for, begun, controller_with}
use Rattle.csi_controller.specs.Public.Fenced.{in_session}
use Rattle.csi_controller.specs.Public.Safe.{IsExclusiveState}
use Rattle.csi_controller.specs.Public.View.{held_in, kept_in_row, live_named, view_of, thing_of, IsThingOf, IsDeliveredTo}
use Rattle.csi_controller.proofs.BegunThings.{among_row, has_begun, known_before}
use Rattle.csi_controller.proofs.LastCalls.{row_of, kept_of_row, IsFreshFor, kept_later, kept_after, row_known}
use Rattle.csi_controller.proofs.TableOutcomes.{IsOutcome, was_refused, was_found, was_made, was_ended, was_ended_before, was_attached, was_attached_before, was_detached, was_detached_before, is_outcome}
use Rattle.csi_controller.proofs.OrderlyStates.{IsOrderly, begun_orderly, kept_same, keep_leaves, live_with_id, is_row, kept_in-other}
use Rattle.csi_controller.proofs.RememberedStates.{AreRecent, changed_session}
use Rattle.csi_controller.proofs.SafeStates.{begun_keeps}
use Rattle.csi_controller.proofs.ThingOutcomes.{does}

-- a new controller has nothing
pub empty_view : IsEmpty (view_of empty_controller)
empty_view = empty-view (held_in empty_controller) (kept_in_row empty_controller) held kept
  where
    held : (thing : PluginThing) → held_in empty_controller thing ≡ None
    held (Exists name) = refl
    held thing = refl

    kept : (thing : PluginThing) → kept_in_row empty_controller thing ≡ None
    kept (Exists name) = refl
    kept thing = refl

-- what came before a spent number is spent
pub closed_view : (state : ControllerState) → IsClosed (view_of state)
closed_view state = closed-view state.session (held_in state) (kept_in_row state)

-- what is kept changes nothing else of a thing
held_keep : (call : Call) (kept : Kept) (state : ControllerState) (thing : PluginThing) → held_in (keep call kept state) thing ≡ held_in state thing
held_keep call kept state (Exists name) =
    ap (option_map (λ (v : Volume). HasId v.id))
    (find-map (λ (v : Volume). same_text v.name name && v.is_live) (kept_in call kept) state.volumes (λ v. ap (λ (w : Volume). same_text w.name name && w.is_live) (kept_same call kept kept v)))
    ∙ option_map-map (λ (v : Volume). HasId v.id) (kept_in call kept) (live_named name state) (λ v. ap HasId ((keep_leaves call kept).ids v))
held_keep call kept state thing = refl

-- the call and its reply, as they are told
abbrev told : Number → Call → Reply → Delivery
told number call reply = record { number = number; call = call; kind = kind_of call; reply = reply }

-- what is kept in the row of a call's thing is what is kept for the call
known_kept : (state : ControllerState) (call : Call) (thing : PluginThing) → IsOrderly state → thing_of state call ≡ Some thing → kept_in_row state thing ≡ kept_for call state
known_kept state call thing orderly is = kept_of_row state thing ∙ ap (option_map (λ (v : Volume). v.kept)) (row_known state call thing orderly is)

-- an OK has an id where it is to CreateVolume
with_id : (config : Config) (state : ControllerState) (call : Call) (outcome : Outcome) → IsOutcome config state call outcome → outcome.reply.status ≡ Ok → IsTrue (has_id_by_rule (kind_of call) outcome.reply)
with_id config state _ _ (was_refused call status detail not_ok) ok = absurd (not_ok ok)
with_id config state _ _ (was_found name required limit first others volume range named live serving) ok = refl
with_id config state _ _ (was_made name required limit first others range unnamed) ok = refl
with_id config state _ _ (was_ended id volume live free) ok = refl
with_id config state _ _ (was_ended_before id dead) ok = refl
with_id config state _ _ (was_attached holding volume can free fits) ok = refl
with_id config state _ _ (was_attached_before holding volume can held) ok = refl
with_id config state _ _ (was_detached id node held there) ok = refl
with_id config state _ _ (was_detached_before id node free) ok = refl

-- what a fresh call does to the things, and what is kept of it
carries : (config : Config) (state : ControllerState) (number : Number) (call : Call) (thing : PluginThing) (outcome : Outcome) → IsOrderly state → thing_of state call ≡ Some thing → IsOutcome config state call outcome
    → is_spent (last_of (kept_for call state)) number ≡ false
    → Carries thing (told number call outcome.reply) (held_in state) (held_in (carried_out state number call outcome).state) (kept_in_row state) (kept_in_row (carried_out state number call outcome).state)
carries config state number call thing outcome orderly is given fresh =
    let kept : Kept = record { number = number; kind = kind_of call; reply = outcome.reply } in
    let next : ControllerState = changed state kept outcome.change in
    let does_so = does config state thing call outcome kept orderly is given in
    let same = λ (other : PluginThing). held_keep call kept next other in
    record {
      of_its_kind = refl;
      with_id = λ ok. with_id config state call outcome given ok;
      was_fresh = ap (λ (o : Option Kept). is_spent (last_of o) number) (known_kept state call thing orderly is) ∙ fresh;
      done = λ ok. same thing ∙ does_so.done ok;
      refused = λ h. same thing ∙ does_so.refused h;
      others = λ other h. same other ∙ does_so.others other h;
      own = λ ok. kept_after config state thing call outcome kept orderly is given ok rows;
      later = λ other. kept_later call kept state outcome.change other (fresh_rows kept.kind kept.reply other);
    }
  where
    rows : (v : Volume) → row_of state thing ≡ Some v → is_row_for call v ≡ true
    rows v own = find-passes (is_row_for call) state.volumes v (sym (row_known state call thing orderly is) ∙ own)

    fresh_rows : (kind : Kind) (reply : Reply) (other : PluginThing) → IsFreshFor call (record { number = number; kind = kind; reply = reply }) (row_of state other)
    fresh_rows kind reply other v own same =
        sym (ap (λ (o : Option Volume). is_spent (last_of (option_map (λ volume. volume.kept) o)) number) (is_row state call v orderly (among_row state other v own) same)) ∙ fresh

-- a call whose thing isn't known is the call of no row
row_unknown : (state : ControllerState) (call : Call) → IsTrue (is_party_of (kind_of call) Controller) → thing_of state call ≡ None → row_for call state ≡ None
row_unknown state (calls.CreateVolume name required limit capabilities) party none = absurd (none-some (Exists name) (sym none))
row_unknown state (calls.DeleteVolume id) party none = none-from_map (λ (v : Volume). Exists v.name) (volume_with_id id state) none
row_unknown state (calls.ControllerPublishVolume id node capability readonly) party none = none-from_map (λ v. Attached id node) (volume_with_id id state) none
row_unknown state (calls.ControllerUnpublishVolume id node) party none = none-from_map (λ v. Attached id node) (volume_with_id id state) none
row_unknown state call party none = absurd (true≢false (sym party))

-- what is attached has a row
held_known : (state : ControllerState) (id : ℕ) (node : List ℕ) (held : Holding) → IsExclusiveState state → find (is_held_at id node) state.holdings ≡ Some held → volume_with_id id state ≡ None → ⊥
held_known state id node held safe is none =
    let at = and_parts (held.volume == id) (same_text held.node node) (find-passes (is_held_at id node) state.holdings held is) in
    let live = safe.attached_while_live held (among-find (is_held_at id node) state.holdings held is) in
    let dead : live_volume held.volume state ≡ None = subst (λ n. live_volume n state ≡ None) (sym (eqb-true held.volume id at.0))
    (find-none (λ (v : Volume). (v.id == id) && v.is_live) state.volumes (λ v among. and_left (v.id == id) v.is_live (none_passes (λ (u : Volume). u.id == id) state.volumes v none among))) in
    true≢false (sym live ∙ ap is_some dead)

-- the table changes nothing of a thing that isn't known, and a call that gets an OK asks for nothing
unknown_rests : (config : Config) (state : ControllerState) (call : Call) (outcome : Outcome) → IsOrderly state → IsExclusiveState state → row_for call state ≡ None → thing_of state call ≡ None
    → IsOutcome config state call outcome → (outcome.change ≡ Stays) × (outcome.reply.status ≡ Ok → asked call outcome.reply ≡ None)
unknown_rests config state call outcome orderly safe none thing (was_refused _ status detail not_ok) = (refl, λ ok. absurd (not_ok ok))
unknown_rests config state call outcome orderly safe none thing (was_found name required limit first others volume range named live serving) = absurd (none-some (Exists name) (sym thing))
unknown_rests config state call outcome orderly safe none thing (was_made name required limit first others range unnamed) = absurd (none-some (Exists name) (sym thing))
unknown_rests config state call outcome orderly safe none thing (was_ended id volume live free) = absurd (none-some volume (sym none ∙ live_with_id state id volume orderly live))
unknown_rests config state call outcome orderly safe none thing (was_ended_before id dead) = (refl, λ ok. refl)
unknown_rests config state call outcome orderly safe none thing (was_attached holding volume can free fits) = absurd (none-some volume (sym none ∙ live_with_id state holding.volume volume orderly can.live))
unknown_rests config state call outcome orderly safe none thing (was_attached_before holding volume can held) = absurd (none-some volume (sym none ∙ live_with_id state holding.volume volume orderly can.live))
unknown_rests config state call outcome orderly safe none thing (was_detached id node held there) = absurd (held_known state id node held safe there none)
unknown_rests config state call outcome orderly safe none thing (was_detached_before id node free) = (refl, λ ok. refl)

-- a call of no row, whose answer changes nothing, leaves the state
leaves : (state : ControllerState) (number : Number) (call : Call) (outcome : Outcome) → row_for call state ≡ None → outcome.change ≡ Stays → (carried_out state number call outcome).state ≡ state
leaves state number call outcome none stays =
    let kept : Kept = record { number = number; kind = kind_of call; reply = outcome.reply } in
    ap (λ (change : Change). keep call kept (changed state kept change)) stays
    ∙ ap (λ (volumes : List Volume). record state { volumes = volumes }) (map-none (is_row_for call) (kept_in call kept) state.volumes (kept_in-other call kept) none)

-- a call of a thing that isn't known leaves the state, so it misses
misses : (config : Config) (state : ControllerState) (number : Number) (call : Call) (outcome : Outcome) → IsOutcome config state call outcome → (outcome.reply.status ≡ Ok → asked call outcome.reply ≡ None)
    → Misses (told number call outcome.reply) (view_of state) (view_of state)
misses config state number call outcome given undoes =
    record {
      of_its_kind = refl;
      with_id = λ ok. with_id config state call outcome given ok;
      undoes = undoes;
      held = λ other. refl;
      stays_spent = λ other number spent. spent;
      keeps = λ other. inl refl;
    }

-- a call of a thing that isn't known leaves the state, where it is carried out
unknown_leaves : (config : Config) (state : ControllerState) (number : Number) (call : Call) → IsOrderly state → IsExclusiveState state → IsTrue (is_party_of (kind_of call) Controller)
    → thing_of state call ≡ None → (carried_out state number call (controller_row config state call)).state ≡ state
unknown_leaves config state number call orderly safe party is =
    let none = row_unknown state call party is in
    leaves state number call (controller_row config state call) none (unknown_rests config state call (controller_row config state call) orderly safe none is (is_outcome config state call)).0

-- a call that is carried out, by its thing
carried_becomes : (config : Config) (state : ControllerState) (number : Number) (call : Call) (o : Option PluginThing) → IsOrderly state → IsExclusiveState state
    → IsTrue (is_party_of (kind_of call) Controller) → thing_of state call ≡ o → is_over state.session number ≡ false → is_spent (last_of (kept_for call state)) number ≡ false
    → CallBecomes o (told number call (controller_row config state call).reply) (view_of state) (view_of (carried_out state number call (controller_row config state call)).state)
carried_becomes config state number call (Some thing) orderly safe party is not_over fresh =
    let outcome : Outcome = controller_row config state call in
    let kept : Kept = record { number = number; kind = kind_of call; reply = outcome.reply } in
    let after : ControllerState = (carried_out state number call outcome).state in
    inl (subst (λ session. Acts thing (told number call outcome.reply) (view_of state) (view_by session (held_in after) (kept_in_row after))) (sym (changed_session state kept outcome.change))
    (carried-acts state.session thing (told number call outcome.reply) (held_in state) (held_in after) (kept_in_row state) (kept_in_row after) not_over
    (carries config state number call thing outcome orderly is (is_outcome config state call) fresh)))
carried_becomes config state number call None orderly safe party is not_over fresh =
    subst (λ (after : ControllerState). Misses (told number call (controller_row config state call).reply) (view_of state) (view_of after))
    (sym (unknown_leaves config state number call orderly safe party is))
    (misses config state number call (controller_row config state call) (is_outcome config state call)
    (unknown_rests config state call (controller_row config state call) orderly safe (row_unknown state call party is) is (is_outcome config state call)).1)

-- what is kept for a call is what is kept for its thing, if it has one
is_kept_for : (state : ControllerState) (call : Call) (o : Option PluginThing) → IsOrderly state → IsTrue (is_party_of (kind_of call) Controller) → thing_of state call ≡ o → IsKeptFor o (kept_in_row state) (kept_for call state)
is_kept_for state call None orderly party is = ap (option_map (λ (v : Volume). v.kept)) (row_unknown state call party is)
is_kept_for state call (Some thing) orderly party is = known_kept state call thing orderly is

-- what is so of a state, and once a later session has begun in it, is so of the state in which a call is judged
in_its_session : (P : ControllerState → Type 0) (config : Config) (state : ControllerState) (number : Number) → P state → (begins state.session number ≡ true → P (begun number.session state)) → P (in_session config number state)
in_its_session P config state number same later = by (begins state.session number) refl
  where
    by : (b : Bool) → begins state.session number ≡ b → P (cond b (begun number.session state) state)
    by true e = later e
    by false e = same

-- a call that isn't over is of the session in which it is judged
own_session : (config : Config) (state : ControllerState) (number : Number) → is_over state.session number ≡ false → is_over (in_session config number state).session number ≡ false
own_session config state number not_over =
    not_over-own (in_session config number state).session number (session_of (controller_with config) (λ session s. refl) state number not_over)

-- a call that is over begins no session
over_stays : (config : Config) (state : ControllerState) (number : Number) → is_over state.session number ≡ true → in_session config number state ≡ state
over_stays config state number over = in_its_session (λ now. now ≡ state) config state number refl (λ later. absurd (not_both state.session number.session over later))
  where
    not_both : (a b : ℕ) → nat_lt b a ≡ true → nat_lt a b ≡ true → ⊥
    not_both a b h k = grind (arith, nat_tests)

-- a call of which nothing is known once its session has begun has no thing afterwards
unknown_after : (config : Config) (state : ControllerState) (number : Number) (call : Call) (after : Fenced ControllerState) → IsOrderly (in_session config number state) → IsExclusiveState (in_session config number state)
    → IsTrue (is_party_of (kind_of call) Controller) → thing_of (in_session config number state) call ≡ None → Judgement (controller_with config) state number call after → thing_of after.state call ≡ None
unknown_after config state number call _ orderly safe party none (was_over over) = subst (λ now. thing_of now call ≡ None) (over_stays config state number over) none
unknown_after config state number call _ orderly safe party none (was_fresh not_over fresh) =
    subst (λ now. thing_of now call ≡ None) (sym (unknown_leaves config (in_session config number state) number call orderly safe party none)) none
unknown_after config state number call _ orderly safe party none (was_repeated kept not_over is spent same) = none
unknown_after config state number call _ orderly safe party none (was_stale kept not_over is spent) = none

module _ (config : Config) (state : ControllerState) (number : Number) (call : Call) (orderly : IsOrderly state) (safe : IsExclusiveState state) (recent : AreRecent state) (party : IsTrue (is_party_of (kind_of call) Controller)) where
  -- the state in which the call is judged, unless it is over
  abbrev now : ControllerState
  now = in_session config number state

  -- it is orderly and exclusive too
  orderly_now : IsOrderly now
  orderly_now = in_its_session IsOrderly config state number orderly (λ later. begun_orderly number.session state orderly)

  -- the state in which the call is judged is safe
  safe_now : IsExclusiveState now
  safe_now = in_its_session IsExclusiveState config state number safe (λ later. begun_keeps number.session state safe)

  -- the call's thing is the one that it has then
  by_thing : (o : Option PluginThing) → thing_of now call ≡ o → IsThingOf state (answered_in (controller_with config) state number call).state call o
  by_thing (Some thing) is =
      inl (sym (in_its_session (λ s. thing_of s call ≡ Some thing → thing_of state call ≡ Some thing) config state number (λ e. e) (λ later e. known_before number.session state call thing orderly e) is))
  by_thing None is = inr (refl, unknown_after config state number call (answered_in (controller_with config) state number call) orderly_now safe_now party is (was_judged (controller_with config) state number call))

  -- where the fence lets it through, it is delivered
  carried_delivered : is_over state.session number ≡ false → is_spent (last_of (kept_for call now)) number ≡ false
      → IsDelivered Controller number call (thing_of now call) (view_of now) (view_of (carried_out now number call (controller_row config now call)).state) (carried_out now number call (controller_row config now call)).reply
  carried_delivered not_over fresh = record {
    kind = kind_of call;
    reply = (controller_row config now call).reply;
    is_answer = refl;
    becomes = carried_becomes config now number call (thing_of now call) orderly_now safe_now party refl (own_session config state number not_over) fresh;
  }

  -- whichever call comes to a controller whose state is orderly and exclusive, and remembers no later session, it is delivered as the laws say
  pub delivered : IsDeliveredTo config state number call
  delivered =
      record {
        thing = thing_of now call;
        is_thing = by_thing (thing_of now call) refl;
        is_delivered = answered-delivered (controller_with config) held_in kept_in_row state number call (thing_of now call) (has_begun state number orderly recent)
            (is_kept_for now call (thing_of now call) orderly_now party refl) carried_delivered;
      }
