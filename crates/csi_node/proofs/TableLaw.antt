-- The laws of the node's table, from what is so of each of its outcomes.
use Rattle.std.proofs.Common.{◌≡◌, ℕ, List, Bool, true, false, refl, sym, ◌∙◌, ap, subst, inl}
use Rattle.std.specs.Prelude.{Option, Some, None, option_map, is_none, filter, codes}
use Rattle.csi_types.proofs.Options.{some-from_map}
use Rattle.csi_types.specs.declared.number.Number.{Number}
use Rattle.csi_types.specs.declared.call.Call.{Call}
use Rattle.csi_types.specs.declared.call.Party.TheVariants.{Node}
use Rattle.csi_types.specs.declared.status.Status.TheVariants.{ResourceExhausted}
use Rattle.csi_types.specs.declared.reply.Reply.{Reply}
use Rattle.csi_types.specs.Model.Call.{kind_of}
use Rattle.csi_types.specs.Model.Number.{IsBefore}
use Rattle.csi_types.specs.Model.Replies.{ok_reply, call_frame, reply_frame}
use Rattle.csi_fence.specs.Model.Fence.{Kept}
use Rattle.csi_fence.specs.Model.Fenced.{Fenced}
use Rattle.csi_fence.specs.Public.Lawful.{IsIdempotent, IsLawful, IsLawfulIn}
use Rattle.csi_fence.proofs.FramesKeep.{own_session}
use Rattle.csi_fence.proofs.LetThrough.{is_carried_out, later-carried_out}
use Rattle.csi_node.specs.Model.State.{NodeState, AnsweredVolume, row_with_id, row_of_volume, row_for, volume_of}
use Rattle.csi_node.specs.Model.Table.{Outcome, Change, refused, lifecycle_row, node_row, has_no_room, changed}
use Rattle.csi_node.specs.Model.Fenced.{carried_out, fenced, kept_for, kept_rows, keep, node_at}
use Rattle.csi_node.specs.Private.Fenced.{in_session}
use Rattle.csi_node.specs.Public.Laws.{plugin_at, IsSameApart, LeavesOthers, HasAtMostOneMore, is_another, table_reply}
use Rattle.csi_node.specs.Private.Laws.{IsLetThrough}
use Rattle.csi_node.proofs.CarriedOut.{kept_of, session_then, state_then, done_then}
use Rattle.csi_node.proofs.LastCalls.{keep-staged, keep-published, keep-others, keep-own, keep-rows, changed-rows}
use Rattle.csi_node.proofs.OutcomeFacts.{IsReady, lifecycle_facts, ready_met, ready_kept, ready_says}
use Rattle.csi_node.proofs.TableOutcomes.{refusal}

-- with room, or without it
with_room : (node : List ℕ) (state : NodeState) (number : Number) (call : Call) → has_no_room state call ≡ false
    → carried_out node state number call (node_row state call) ≡ done_then node state number call
with_room node state number call h = simp h

-- a call that would be answered OK, with no change, still would be once another reply is kept
ready_state : (volume : Option ℕ) (kept : Kept) (state : NodeState) (call : Call) → IsReady state call → IsReady (keep volume kept state) call
ready_state None kept state call h = h
ready_state (Some id) kept state call h = ready_kept state (kept_rows id kept state.rows (row_with_id id state)) call h

-- what a call changes and what is kept of it leave the rows, but for a new one
rows_then : (state : NodeState) (number : Number) (call : Call) → HasAtMostOneMore state.rows (state_then state number call).rows
rows_then state number call =
    let change = (lifecycle_row state call).change in
    let kept = kept_of state number call in
    subst (λ (rows : List AnsweredVolume). HasAtMostOneMore rows (keep (volume_of call) kept (changed state change)).rows) (changed-rows state change)
    (keep-rows (volume_of call) kept (changed state change))

-- a call that is ready, once more in its session
once_more : (node : List ℕ) (after : NodeState) (later : Number) (call : Call) (kept : Kept) → later.session ≡ after.session → kept_for call after ≡ Some kept → IsBefore kept.number later → IsReady after call
    → ((fenced node after (call_frame later (Node node) call)).reply ≡ Some (reply_frame later (Node node) (kind_of call) ok_reply))
    × IsSameApart after (fenced node after (call_frame later (Node node) call)).state
once_more node after later call kept now is before ready =
    let found : is_none (row_for call after) ≡ false = ap is_none (some-from_map (λ (row : AnsweredVolume). row.kept) (row_for call after) kept is).1 in
    let room : has_no_room after call ≡ false = rw found refl in
    let e = later-carried_out (node_at node) after later call kept now is before ∙ with_room node after later call room in
    let again = ready_met after call ready in (
      ap (λ (f : Fenced NodeState). f.reply) e ∙ ap (λ (r : Reply). Some (reply_frame later (Node node) (kind_of call) r)) again.is_ok,
      subst (λ (f : Fenced NodeState). IsSameApart after f.state) (sym e)
          (record {
            rows = rows_then after later call;
            session = sym (session_then after later call);
            staged = sym (keep-staged (volume_of call) (kept_of after later call) (changed after (lifecycle_row after call).change) ∙ again.staged);
            published = sym (keep-published (volume_of call) (kept_of after later call) (changed after (lifecycle_row after call).change) ∙ again.published);
          }),
    )

-- in the state in which a call is judged, which is of its session
module _ (node : List ℕ) (state : NodeState) (number : Number) (call : Call) (now : number.session ≡ state.session) where
  -- a call that is carried out keeps the laws
  abbrev IsLawfulHere : NodeState → Type 0
  IsLawfulHere after = IsLawfulIn (plugin_at node) state after number call

  -- where there is no room
  without_room : has_no_room state call ≡ true → IsLawfulHere (carried_out node state number call (node_row state call)).state
  without_room full =
      let e : (carried_out node state number call (node_row state call)).state ≡ state = rw full refl in
      let row : node_row state call ≡ refused ResourceExhausted (codes "rows") = rw full refl in
      let status : (table_reply state call).status ≡ ResourceExhausted = ap (λ (o : Outcome). o.reply.status) row in
      record {
        refused = λ h. subst (IsSameApart state) (sym e) (record { rows = inl refl; session = refl; staged = refl; published = refl });
        done = λ h. absurd (refusal ResourceExhausted refl (sym status ∙ h));
        again = λ h. absurd (refusal ResourceExhausted refl (sym status ∙ h));
        others = subst (λ (after : NodeState). LeavesOthers state after call) (sym e) (record { rows = refl; staged = refl; published = refl });
      }

  -- where there is room
  having_room : has_no_room state call ≡ false → IsLawfulHere (carried_out node state number call (node_row state call)).state
  having_room room =
      let e : (carried_out node state number call (node_row state call)).state ≡ state_then state number call = ap (λ (f : Fenced NodeState). f.state) (with_room node state number call room) in
      let row : node_row state call ≡ lifecycle_row state call = rw room refl in
      let status : (table_reply state call).status ≡ (lifecycle_row state call).reply.status = ap (λ (o : Outcome). o.reply.status) row in
      let facts = lifecycle_facts state call in
      let next : NodeState = changed state (lifecycle_row state call).change in
      let kept : Kept = kept_of state number call in
      subst IsLawfulHere (sym e) (record {
        refused = λ h. let stays = facts.stays (λ k. h (status ∙ k)) in record {
          rows = rows_then state number call;
          session = sym (session_then state number call);
          staged = sym (keep-staged (volume_of call) kept next ∙ ap (λ (c : Change). (changed state c).staged) stays);
          published = sym (keep-published (volume_of call) kept next ∙ ap (λ (c : Change). (changed state c).published) stays);
        };
        done = λ h. (ready_says (state_then state number call) call (ready_state (volume_of call) kept next call (facts.ready (sym status ∙ h)))).1;
        again = λ h.
            let ready = facts.ready (sym status ∙ h) in
            let volume = (ready_says next call ready).0 in
            let is : kept_for call (state_then state number call) ≡ Some kept =
            subst (λ (v : Option ℕ). option_map (λ (row : AnsweredVolume). row.kept) (row_of_volume v (keep v kept next)) ≡ Some kept) (sym volume.1) (keep-own volume.0 kept next) in
            let plain : table_reply state call ≡ ok_reply = ap (λ (o : Outcome). o.reply) row ∙ facts.plain (sym status ∙ h) in
            subst (λ (reply : Reply). IsIdempotent (plugin_at node) (state_then state number call) reply number call) (sym plain)
            (λ later same before.
            once_more node (state_then state number call) later call kept (same ∙ now ∙ sym (session_then state number call)) is before (ready_state (volume_of call) kept next call ready));
        others = record {
          rows = keep-others (volume_of call) kept next ∙ ap (filter (λ (row : AnsweredVolume). is_another (volume_of call) row.id)) (changed-rows state (lifecycle_row state call).change);
          staged = ap (filter (λ s. is_another (volume_of call) s.volume)) (keep-staged (volume_of call) kept next) ∙ facts.others.staged;
          published = ap (filter (λ p. is_another (volume_of call) p.volume)) (keep-published (volume_of call) kept next) ∙ facts.others.published;
        };
      })

  -- with room or without it
  carried_lawful : IsLawfulHere (carried_out node state number call (node_row state call)).state
  carried_lawful = by (has_no_room state call) refl
    where
      by : (b : Bool) → has_no_room state call ≡ b → IsLawfulHere (carried_out node state number call (node_row state call)).state
      by true full = without_room full
      by false room = having_room room

-- in every state
pub is_lawful : (node : List ℕ) (state : NodeState) (number : Number) (call : Call) → IsLetThrough node state number call → IsLawful (plugin_at node) state number call
is_lawful node state number call through =
    let here : NodeState = in_session node number state in
    subst (λ (f : Fenced NodeState). IsLawfulIn (plugin_at node) here f.state number call) (sym (is_carried_out (node_at node) state number call through))
    (carried_lawful node here number call (own_session (node_at node) (λ session state. refl) state number through.not_over))
