-- A call that is delivered to a node is carried out there, or rests.
use Rattle.std.proofs.Common.{◌≡◌, ◌⊎◌, ◌≤◌, ℕ, List, true, false, refl, sym, ◌∙◌, ap, subst, inl, inr}
use Rattle.std.specs.Prelude.{Option, Some, None, option_map, find, ◌==◌, IsTrue, codes}
use Rattle.std.proofs.lemmas.Option.{none-some}
use Rattle.csi_types.proofs.Members.{among-find}
use Rattle.csi_types.proofs.Options.{some-from_map}
use Rattle.csi_types.specs.declared.number.Number.{Number}
use Rattle.csi_types.specs.declared.call.Call.{Call}
use Rattle.csi_types.specs.declared.call.Kind.{Kind}
use Rattle.csi_types.specs.declared.call.Party.TheVariants.{Node}
use Rattle.csi_types.specs.declared.status.Status.TheVariants.{Ok, ResourceExhausted}
use Rattle.csi_types.specs.declared.reply.Reply.{Reply}
use Rattle.csi_types.specs.Model.Call.{kind_of}
use Rattle.csi_types.specs.Public.Call.{is_party_of}
use Rattle.csi_types.specs.Public.PluginThing.{PluginThing}
use Rattle.csi_types.specs.Model.Replies.{plain_reply}
use Rattle.csi_fence.specs.Public.Delivery.{PluginView, view_by, Delivery, Acts, CallBecomes, IsDelivered, IsEmpty, IsClosed, last_of}
use Rattle.csi_fence.specs.Model.Fence.{Kept, is_spent, is_over, begins}
use Rattle.csi_fence.specs.Model.Fenced.{Fenced}
use Rattle.csi_fence.proofs.Begun.{HasBegun, IsUpTo, has-begun}
use Rattle.csi_fence.proofs.Delivered.{IsKeptFor, answered-delivered}
use Rattle.csi_fence.proofs.FramesKeep.{own_session}
use Rattle.csi_fence.proofs.LetThrough.{is_answered}
use Rattle.csi_fence.proofs.Spent.{not_over-own}
use Rattle.csi_fence.proofs.Views.{IsLater, carried-acts, closed-view, empty-view}
use Rattle.csi_node.specs.Model.State.{NodeState, AnsweredVolume, row_of_volume}
use Rattle.csi_node.specs.Model.Table.{lifecycle_row, node_row, changed}
use Rattle.csi_node.specs.Private.Fenced.{answered_in, in_session}
use Rattle.csi_node.specs.Private.PlanLaws.{no_id-fits}
use Rattle.csi_node.specs.Model.Fenced.{begun, carried_out, keep, kept_for, node_at}
use Rattle.csi_node.specs.Public.View.{held_on, kept_on, view_of, thing_of, IsDeliveredTo, empty_node}
use Rattle.csi_node.proofs.BegunSessions.{begun-held, begun-kept}
use Rattle.csi_node.proofs.CarriedOut.{Carried, no_room, has_room, was_carried, kept_of, state_then}
use Rattle.csi_node.proofs.LastCalls.{keep-own, keep-session, changed-rows, changed-session}
use Rattle.csi_node.proofs.TableOutcomes.{lifecycle_outcomes, refusal, reply-no_id}
use Rattle.csi_node.proofs.SessionsLaw.{AreCurrent}
use Rattle.csi_node.proofs.ThingOutcomes.{Effect, EffectAt, effect}
use Rattle.csi_node.proofs.ThingRows.{row_id, kept_at, kept_on-at, IsFor, is_for, keep-held, kept_either, kept_none, held_none}

-- the thing of a call
module _ (node : List ℕ) (state : NodeState) (number : Number) (call : Call) (thing : PluginThing) (for : IsFor node call thing) where
  -- what the row of the call's volume keeps is what is kept for its thing
  is_kept : kept_on node state thing ≡ kept_for call state
  is_kept =
      kept_on-at node state thing ∙ ap (λ (o : Option ℕ). kept_at o state) for.is_row
      ∙ sym (ap (λ (o : Option ℕ). option_map (λ row. row.kept) (row_of_volume o state)) for.is_volume)

  -- the call with the reply that it got
  abbrev replied : Kind → Reply → Delivery
  replied kind reply = record { number = number; call = call; kind = kind; reply = reply }

  -- by what is kept, whether a number is spent
  spent_by : {kept old : Option Kept} (earlier : Number) → kept ≡ old → is_spent (last_of kept) earlier ≡ is_spent (last_of old) earlier
  spent_by earlier same = ap (λ (o : Option Kept). is_spent (last_of o) earlier) same

  -- by the call's thing
  becomes : (kind : Kind) (reply : Reply) (new : PluginView) → Acts thing (replied kind reply) (view_of node state) new → CallBecomes (thing_of node call) (replied kind reply) (view_of node state) new
  becomes kind reply new acts = subst (λ (o : Option PluginThing). CallBecomes o (replied kind reply) (view_of node state) new) (sym for.is_thing) (inl acts)

  -- what is kept for the call is what is kept for its thing
  is_kept_for : IsKeptFor (thing_of node call) (kept_on node state) (kept_for call state)
  is_kept_for = subst (λ (o : Option PluginThing). IsKeptFor o (kept_on node state) (kept_for call state)) (sym for.is_thing) is_kept

  -- carried out in a state of its session
  module _ (now : number.session ≡ state.session) where
    -- no call of this session is over
    not_over : is_over state.session number ≡ false
    not_over = not_over-own state.session number now

    module _ (fresh : is_spent (last_of (kept_for call state)) number ≡ false) where
      -- where there is no room, it is refused, and all is as it was
      full_acts : (reply : Reply) → (reply.status ≡ Ok → ⊥) → Acts thing (replied (kind_of call) reply) (view_of node state) (view_of node state)
      full_acts reply not_ok =
          carried-acts state.session thing (replied (kind_of call) reply) (held_on node state) (held_on node state) (kept_on node state) (kept_on node state) not_over
          (record {
            of_its_kind = refl;
            with_id = λ ok. absurd (not_ok ok);
            was_fresh = spent_by number is_kept ∙ fresh;
            done = λ ok. absurd (not_ok ok);
            refused = λ _. refl;
            others = λ other _. refl;
            own = λ ok. absurd (not_ok ok);
            later = λ other. inl refl;
          })

      -- the table's change, and then what is kept
      abbrev kept : Kept
      kept = kept_of state number call

      abbrev changes : NodeState
      changes = changed state (lifecycle_row state call).change

      abbrev after : NodeState
      after = keep (Some for.volume) kept changes

      held_after : (other : PluginThing) → held_on node after other ≡ held_on node changes other
      held_after other = keep-held node (Some for.volume) kept changes other

      kept_before : (o : Option ℕ) → kept_at o changes ≡ kept_at o state
      kept_before None = refl
      kept_before (Some id) = ap (λ (rows : List AnsweredVolume). option_map (λ (row : AnsweredVolume). row.kept) (find (λ (row : AnsweredVolume). row.id == id) rows)) (changed-rows state (lifecycle_row state call).change)

      own_kept : kept_at (Some for.volume) after ≡ Some kept
      own_kept = keep-own for.volume kept changes

      own : kept_on node after thing ≡ Some kept
      own = kept_on-at node after thing ∙ ap (λ (o : Option ℕ). kept_at o after) for.is_row ∙ own_kept

      -- what is kept for a thing was kept before; or it is this call, and the thing is of the call's volume
      later : (other : PluginThing) → IsLater kept (kept_on node state other) (kept_on node after other)
      later other = by (kept_either for.volume kept changes (row_id node other))
        where
          by : (kept_at (row_id node other) after ≡ kept_at (row_id node other) changes) ⊎ (row_id node other ≡ Some for.volume) → IsLater kept (kept_on node state other) (kept_on node after other)
          by (inl same) = inl (kept_on-at node after other ∙ same ∙ kept_before (row_id node other) ∙ sym (kept_on-at node state other))
          by (inr e) = inr (
            kept_on-at node after other ∙ ap (λ (o : Option ℕ). kept_at o after) e ∙ own_kept,
            spent_by number (kept_on-at node state other ∙ ap (λ (o : Option ℕ). kept_at o state) (e ∙ sym for.is_row) ∙ sym (kept_on-at node state thing) ∙ is_kept) ∙ fresh,
          )

      -- the session stays
      same_session : after.session ≡ state.session
      same_session = keep-session (Some for.volume) kept changes ∙ changed-session state (lifecycle_row state call).change

      in_its_session : Acts thing (replied (kind_of call) (lifecycle_row state call).reply) (view_of node state) (view_by state.session (held_on node after) (kept_on node after))
      in_its_session =
          let does : Effect node state call (lifecycle_row state call) thing = subst (EffectAt node state call (lifecycle_row state call)) for.is_thing (effect node state call (lifecycle_row state call) (lifecycle_outcomes state call)) in
          carried-acts state.session thing (replied (kind_of call) (lifecycle_row state call).reply) (held_on node state) (held_on node after) (kept_on node state) (kept_on node after) not_over
          (record {
            of_its_kind = refl;
            with_id = λ ok. no_id-fits (kind_of call) (lifecycle_row state call).reply for.is_own (reply-no_id state call (lifecycle_row state call) (lifecycle_outcomes state call));
            was_fresh = spent_by number is_kept ∙ fresh;
            done = λ ok. held_after thing ∙ does.done ok;
            refused = λ not_ok. held_after thing ∙ does.refused not_ok;
            others = λ other differ. held_after other ∙ does.others other differ;
            own = λ _. own;
            later = later;
          })

      acts : Acts thing (replied (kind_of call) (lifecycle_row state call).reply) (view_of node state) (view_of node after)
      acts =
          subst (λ (session : ℕ). Acts thing (replied (kind_of call) (lifecycle_row state call).reply) (view_of node state) (view_by session (held_on node after) (kept_on node after)))
          (sym same_session) in_its_session

      carried_acts : Acts thing (replied (kind_of call) (lifecycle_row state call).reply) (view_of node state) (view_of node (state_then state number call))
      carried_acts =
          subst
          (λ (v : Option ℕ). Acts thing (replied (kind_of call) (lifecycle_row state call).reply) (view_of node state) (view_of node (keep v (kept_of state number call) (changed state (lifecycle_row state call).change))))
          (sym for.is_volume) acts

    -- a call whose number is fresh
    delivered_fresh : (after : Fenced NodeState) → Carried node state number call after → is_spent (last_of (kept_for call state)) number ≡ false
        → IsDelivered (Node node) number call (thing_of node call) (view_of node state) (view_of node after.state) after.reply
    delivered_fresh _ (no_room full) fresh = record {
      kind = kind_of call;
      reply = plain_reply ResourceExhausted (codes "rows");
      is_answer = refl;
      becomes = becomes (kind_of call) (plain_reply ResourceExhausted (codes "rows")) (view_of node state)
          (full_acts fresh (plain_reply ResourceExhausted (codes "rows")) (refusal ResourceExhausted refl));
    }
    delivered_fresh _ (has_room room) fresh = record {
      kind = kind_of call;
      reply = (lifecycle_row state call).reply;
      is_answer = refl;
      becomes = becomes (kind_of call) (lifecycle_row state call).reply (view_of node (state_then state number call)) (carried_acts fresh);
    }

module _ (node : List ℕ) (state : NodeState) (current : AreCurrent state) where
  -- what is kept for a thing is of no later session than the greatest that came
  up_to : (thing : PluginThing) → IsUpTo state.session (kept_on node state thing)
  up_to thing this is = by (row_id node thing) (sym (kept_on-at node state thing) ∙ is)
    where
      by : (o : Option ℕ) → kept_at o state ≡ Some this → this.number.session ≤ state.session
      by None none = absurd (none-some this none)
      by (Some id) found =
          let row = some-from_map (λ (row : AnsweredVolume). row.kept) (find (λ (row : AnsweredVolume). row.id == id) state.rows) this found in
          subst (λ (k : Kept). k.number.session ≤ state.session) row.2 (current.before row.0 (among-find (λ (row : AnsweredVolume). row.id == id) state.rows row.0 row.1))

  -- a call that begins a session begins it so
  pub has_begun : (number : Number) → begins state.session number ≡ true → HasBegun number (view_of node state) (view_of node (begun number.session state))
  has_begun number later =
      has-begun state.session number (held_on node state) (held_on node (begun number.session state)) (kept_on node state) (kept_on node (begun number.session state)) later
      (begun-held node number.session state) (begun-kept node number.session state) up_to

  module _ (number : Number) (call : Call) (thing : PluginThing) (for : IsFor node call thing) where
    -- the state in which the call is judged, unless it is over
    abbrev now : NodeState
    now = in_session node number state

    -- carried out there
    carried : is_over state.session number ≡ false → is_spent (last_of (kept_for call now)) number ≡ false
        → IsDelivered (Node node) number call (thing_of node call) (view_of node now) (view_of node (carried_out node now number call (node_row now call)).state) (carried_out node now number call (node_row now call)).reply
    carried not_over fresh =
        delivered_fresh node now number call thing for (own_session (node_at node) (λ session state. refl) state number not_over)
        (carried_out node now number call (node_row now call)) (was_carried node now number call) fresh

    -- whatever the fence makes of it
    delivered_by : IsDelivered (Node node) number call (thing_of node call) (view_of node state) (view_of node (answered_in node state number call).state) (answered_in node state number call).reply
    delivered_by = answered-delivered (node_at node) (held_on node) (kept_on node) state number call (thing_of node call) (has_begun number) (is_kept_for node now number call thing for) carried

-- in each state of which the rows are of no later session
pub delivered : (node : List ℕ) (state : NodeState) (number : Number) (call : Call) → AreCurrent state → IsTrue (is_party_of (kind_of call) (Node node)) → IsDeliveredTo node state number call
delivered node state number call current party =
    let for = is_for node call party in
    subst (λ (after : Fenced NodeState). IsDelivered (Node node) number call (thing_of node call) (view_of node state) (view_of node after.state) after.reply) (sym (is_answered (node_at node) state number call))
    (delivered_by node state current number call for.0 for.1)

-- a node that has answered nothing holds nothing, has no number spent, and keeps nothing
pub empty : (node : List ℕ) → IsEmpty (view_of node empty_node)
empty node = empty-view (held_on node empty_node) (kept_on node empty_node) (held_none node) (kept_none node)

-- what came before a number that is spent is spent
pub closed : (node : List ℕ) (state : NodeState) → IsClosed (view_of node state)
closed node state = closed-view state.session (held_on node state) (kept_on node state)
