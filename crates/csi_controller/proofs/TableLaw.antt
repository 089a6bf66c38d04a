-- The laws of the controller's table, from what is so of each of its outcomes.
use Rattle.std.proofs.Common.{◌≡◌, ◌⊎◌, ◌≤◌, ℕ, Bool, List, true, not, refl, sym, ◌∙◌, ap, subst}
use Rattle.std.specs.Prelude.{Option, Some, None, option_map, ◌==◌, ◌&&◌, IsTrue}
use Rattle.std.specs.List.{AllByRecursion}
use Rattle.std.proofs.lemmas.Bool.{not-true}
use Rattle.std.proofs.lemmas.List.{length-map}
use Rattle.csi_types.proofs.Filters.{filter-map}
use Rattle.csi_types.proofs.Maps.{map-map}
use Rattle.csi_types.proofs.Searches.{find-map, find-passes}
use Rattle.csi_types.specs.declared.capability.Capability.{Capability}
use Rattle.csi_types.specs.declared.holding.Holding.{Holding}
use Rattle.csi_types.specs.declared.number.Number.{Number}
use Rattle.csi_types.specs.declared.call.Call.{Call}
use Rattle.csi_types.specs.declared.call.Call.TheVariants as calls
use Rattle.csi_types.specs.declared.call.Party.TheVariants.{Controller}
use Rattle.csi_fence.specs.declared.fence.Verdict.TheVariants.{Fresh}
use Rattle.csi_types.specs.declared.reply.Reply.{Reply}
use Rattle.csi_types.specs.Model.Call.{kind_of}
use Rattle.csi_types.specs.Model.Config.{Config}
use Rattle.csi_fence.proofs.FramesKeep.{own_session, session_keeps}
use Rattle.csi_fence.proofs.LetThrough.{fresh-after, is_carried_out, stays-in_session}
use Rattle.csi_fence.proofs.Spent.{not_over-own}
use Rattle.csi_fence.specs.Public.Delivery.{last_of}
use Rattle.csi_fence.specs.Model.Fence.{Kept, verdict_of}
use Rattle.csi_fence.specs.Model.Fenced.{Fenced}
use Rattle.csi_fence.specs.Public.Lawful.{IsLawful, IsIdempotent, after_call}
use Rattle.csi_types.specs.Model.Number.{IsBefore}
use Rattle.csi_types.specs.Model.Replies.{call_frame, reply_frame}
use Rattle.csi_types.specs.Model.Same.{same_text, has_capability}
use Rattle.csi_controller.specs.Model.State.{Volume, ControllerState, volume_named, live_volume, holdings_of, is_row_for, row_for}
use Rattle.csi_controller.specs.Model.Table.{Outcome, Change, Stays, argument_fault, unless, create_new, create_named, delete, is_full, publish, controller_row, changed}
use Rattle.csi_controller.specs.Model.Fenced.{fenced, kept_for, kept_in, keep, carried_out, controller_with}
use Rattle.csi_controller.specs.Public.Fenced.{in_session}
use Rattle.csi_controller.specs.Public.Laws.{IsLetThrough, IsSameApart, IsDone, IsMadeAs, LeavesOthers, keeping, plugin_with}
use Rattle.csi_controller.proofs.OrderlyStates.{IsOrderly, orderly_kept, kept_same, kept_in-row, kept_in-other}
use Rattle.csi_controller.proofs.OutcomeFacts.{IsReady, row_facts}
use Rattle.csi_controller.proofs.RememberedStates.{changed_session}

-- ---- what is kept changes no answer of the table

-- what is found by name, or live by id, is what was found, but for what is kept
volume_named-keep : (call : Call) (kept : Kept) (state : ControllerState) (name : List ℕ) → volume_named name (keep call kept state) ≡ option_map (kept_in call kept) (volume_named name state)
volume_named-keep call kept state name =
    find-map (λ (v : Volume). same_text v.name name) (kept_in call kept) state.volumes (λ v. ap (λ (w : Volume). same_text w.name name) (kept_same call kept kept v))

-- what is live by id is what was live, but for what is kept
live_volume-keep : (call : Call) (kept : Kept) (state : ControllerState) (id : ℕ) → live_volume id (keep call kept state) ≡ option_map (kept_in call kept) (live_volume id state)
live_volume-keep call kept state id =
    find-map (λ (v : Volume). (v.id == id) && v.is_live) (kept_in call kept) state.volumes (λ v. ap (λ (w : Volume). (w.id == id) && w.is_live) (kept_same call kept kept v))

-- each part of the table answers the same, whatever is kept, and so does the whole
create_named-keep : (config : Config) (call : Call) (kept : Kept) (state : ControllerState) (name : List ℕ) (required limit : ℕ) (capabilities : List Capability) (o : Option Volume)
    → create_named config (keep call kept state) name required limit capabilities (option_map (kept_in call kept) o) ≡ create_named config state name required limit capabilities o
create_named-keep config call kept state name required limit capabilities (Some v) =
    ap (λ (w : Volume). create_named config state name required limit capabilities (Some w)) (kept_same call kept kept v)
create_named-keep config call kept state name required limit capabilities None =
    ap (λ (n : ℕ). create_new config.greatest n state.next_id name required limit capabilities) (length-map state.volumes (kept_in call kept))

-- DeleteVolume is answered the same, whatever is kept
delete-keep : (call : Call) (kept : Kept) (held : List Holding) (id : ℕ) (o : Option Volume) → delete id held (option_map (kept_in call kept) o) ≡ delete id held o
delete-keep call kept held id None = refl
delete-keep call kept held id (Some v) = refl

-- so is ControllerPublishVolume
publish-keep : (config : Config) (full : Bool) (call : Call) (kept : Kept) (state : ControllerState) (holding : Holding) (o : Option Volume)
    → publish config full (keep call kept state) holding (option_map (kept_in call kept) o) ≡ publish config full state holding o
publish-keep config full call kept state holding None = refl
publish-keep config full call kept state holding (Some v) = ap (λ (w : Volume). publish config full state holding (Some w)) (kept_same call kept kept v)

-- and so is every call, by the whole table
row-keep : (config : Config) (by : Call) (kept : Kept) (state : ControllerState) (call : Call) → controller_row config (keep by kept state) call ≡ controller_row config state call
row-keep config by kept state (calls.CreateVolume name required limit capabilities) =
    ap (unless (argument_fault required limit capabilities))
    (ap (create_named config (keep by kept state) name required limit capabilities) (volume_named-keep by kept state name)
    ∙ create_named-keep config by kept state name required limit capabilities (volume_named name state))
row-keep config by kept state (calls.DeleteVolume id) =
    ap (delete id (holdings_of id state)) (live_volume-keep by kept state id) ∙ delete-keep by kept (holdings_of id state) id (live_volume id state)
row-keep config by kept state (calls.ControllerPublishVolume id node capability readonly) =
    let holding : Holding = record { volume = id; node = node; capability = capability; readonly = readonly } in
    ap (publish config (is_full config state node) (keep by kept state) holding) (live_volume-keep by kept state id)
    ∙ publish-keep config (is_full config state node) by kept state holding (live_volume id state)
row-keep config by kept state (calls.ControllerUnpublishVolume id node) = refl
row-keep config by kept state call = refl

-- what is done stays done
made-keep : (by : Call) (kept : Kept) (state : ControllerState) (id : Option ℕ) (name : List ℕ) (required limit : ℕ) (capabilities : List Capability)
    → IsMadeAs state id name required limit capabilities → IsMadeAs (keep by kept state) id name required limit capabilities
made-keep by kept state id name required limit capabilities made =
    let v : Volume = made.volume in
    let w : Volume = kept_in by kept v in
    let same = kept_same by kept kept v in
    let same_id : w.id ≡ v.id = ap (λ (u : Volume). u.id) same in
    record {
      volume = w;
      is_live = subst (λ n. live_volume n (keep by kept state) ≡ Some w) (sym same_id) (live_volume-keep by kept state v.id ∙ ap (option_map (kept_in by kept)) made.is_live);
      has_id = made.has_id ∙ ap Some (sym same_id);
      has_name = ap (λ (u : Volume). u.name) same ∙ made.has_name;
      not_below = subst (λ (u : Volume). required ≤ u.capacity) (sym same) made.not_below;
      not_above = subst (λ (u : Volume). (limit ≡ 0) ⊎ (u.capacity ≤ limit)) (sym same) made.not_above;
      has_each = subst (λ (u : Volume). AllByRecursion (λ capability. IsTrue (has_capability u.capabilities capability)) capabilities) (sym same) made.has_each;
    }

-- what each call did stays done, whatever is kept
done-keep : (by : Call) (kept : Kept) (state : ControllerState) (reply : Reply) (call : Call) → IsDone state reply call → IsDone (keep by kept state) reply call
done-keep by kept state reply (calls.CreateVolume name required limit capabilities) h = made-keep by kept state reply.id name required limit capabilities h
done-keep by kept state reply (calls.DeleteVolume id) h = live_volume-keep by kept state id ∙ ap (option_map (kept_in by kept)) h
done-keep by kept state reply (calls.ControllerPublishVolume id node capability readonly) h = h
done-keep by kept state reply (calls.ControllerUnpublishVolume id node) h = h
done-keep by kept state reply call h = absurd h

-- nothing but what is kept differs
same_keep : (call : Call) (kept : Kept) (state : ControllerState) → IsSameApart state (keep call kept state)
same_keep call kept state k = ap (λ (volumes : List Volume). record state { volumes = volumes }) (sym (map-map (keeping k) (kept_in call kept) state.volumes (kept_same call kept k)))

-- the row of a call, where there is one, keeps the call
later_through : (call : Call) (kept : Kept) (later : Number) (o : Option Volume) (f : (v : Volume) → o ≡ Some v → (kept_in call kept v).kept ≡ kept) → IsBefore kept.number later
    → verdict_of (last_of (option_map (λ (v : Volume). v.kept) (option_map (kept_in call kept) o))) later ≡ Fresh
later_through call kept later None f before = refl
later_through call kept later (Some v) f before =
    ap (λ (k : Kept). verdict_of (Some k.number) later) (f v refl) ∙ fresh-after kept.number later before

-- after a call was kept, the fence lets it through under a later number of the session
is_later_through : (config : Config) (call : Call) (kept : Kept) (state : ControllerState) (later : Number) → later.session ≡ state.session → IsBefore kept.number later → IsLetThrough config (keep call kept state) later call
is_later_through config call kept state later session before =
    let found = find-map (is_row_for call) (kept_in call kept) state.volumes (kept_in-row call kept) in
    record {
      not_over = not_over-own state.session later session;
      fresh = ap (λ (now : ControllerState). verdict_of (last_of (kept_for call now)) later) (stays-in_session (controller_with config) (keep call kept state) later session)
          ∙ ap (λ (o : Option Volume). verdict_of (last_of (option_map (λ (v : Volume). v.kept) o)) later) found
          ∙ later_through call kept later (row_for call state) (λ v is. let own : is_row_for call v ≡ true = find-passes (is_row_for call) state.volumes v is in rw own refl) before;
    }

-- a call that is ready, once more
once_more : (config : Config) (next : ControllerState) (kept : Kept) (later : Number) (call : Call) (reply : Reply) → later.session ≡ next.session → IsBefore kept.number later → IsReady config next call reply
    → ((fenced config (keep call kept next) (call_frame later Controller call)).reply ≡ Some (reply_frame later Controller (kind_of call) reply))
    × IsSameApart (keep call kept next) (fenced config (keep call kept next) (call_frame later Controller call)).state
once_more config next kept later call reply session before ready =
    let after : ControllerState = keep call kept next in
    let row : controller_row config after call ≡ record { reply = reply; change = Stays } = row-keep config call kept next call ∙ ready.again in
    let e : fenced config after (call_frame later Controller call) ≡ carried_out after later call (record { reply = reply; change = Stays }) =
    is_carried_out (controller_with config) after later call (is_later_through config call kept next later session before)
    ∙ ap (λ (now : ControllerState). carried_out now later call (controller_row config now call)) (stays-in_session (controller_with config) after later session)
    ∙ ap (carried_out after later call) row in
    (ap (λ (f : Fenced ControllerState). f.reply) e, subst (λ (f : Fenced ControllerState). IsSameApart after f.state) (sym e) (same_keep call (record { number = later; kind = kind_of call; reply = reply }) after))

-- in an orderly state each call that the fence lets through is lawful
pub is_lawful : (config : Config) (state : ControllerState) (number : Number) (call : Call) → IsOrderly state → IsLetThrough config state number call → IsLawful (plugin_with config) state number call
is_lawful config state number call orderly through =
    let now : ControllerState = in_session config number state in
    let outcome : Outcome = controller_row config now call in
    let kept : Kept = record { number = number; kind = kind_of call; reply = outcome.reply } in
    let next : ControllerState = changed now kept outcome.change in
    let e : after_call (plugin_with config) state number call ≡ keep call kept next = ap (λ (f : Fenced ControllerState). f.state) (is_carried_out (controller_with config) state number call through) in
    let session : number.session ≡ next.session =
    own_session (controller_with config) (λ session s. refl) state number through.not_over ∙ sym (changed_session now kept outcome.change) in
    let facts = row_facts config now call (session_keeps (controller_with config) IsOrderly (orderly_kept config) state number orderly) in
    record {
      refused = λ h. subst (IsSameApart now) (sym e) (subst (λ (c : Change). IsSameApart now (keep call kept (changed now kept c))) (sym (facts.stays h)) (same_keep call kept now));
      done = λ h. subst (λ (after : ControllerState). IsDone after outcome.reply call) (sym e) (done-keep call kept next outcome.reply call ((facts.ready h kept).is_done));
      again = λ h. subst (λ (after : ControllerState). IsIdempotent (plugin_with config) after outcome.reply number call) (sym e)
          (λ later same before. once_more config next kept later call outcome.reply (same ∙ session) before (facts.ready h kept));
      others = subst (λ (after : ControllerState). LeavesOthers now after call) (sym e)
          (record {
            volumes = filter-map (λ (v : Volume). not (is_row_for call v)) (kept_in call kept) next.volumes (λ v. ap not (kept_in-row call kept v)) (λ v h. kept_in-other call kept v (not-true (is_row_for call v) h)) ∙ (facts.others kept).volumes;
            holdings = (facts.others kept).holdings;
          });
    }
