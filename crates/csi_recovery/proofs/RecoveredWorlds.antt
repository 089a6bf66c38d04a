-- All is so of the world after a recovery that is kept of every world: every call that was ever sent is of a session below the one that the plugins
-- have reached, and each thing is as its call asks.
use Rattle.std.proofs.Common.{◌≡◌, ℕ, ◌≤◌, List, [], ◌∷◌, map, find, Bool, true, Option, Some, None, option_map, refl, sym, ◌∙◌, ap, subst, inl, inr, ⊎_elim, arith}
use Rattle.std.proofs.lemmas.Bool.{false≢true}
use Rattle.std.proofs.lemmas.Option.{none-some, same_Some}
use Rattle.csi_types.specs.Model.Members.{IsAmong}
use Rattle.csi_types.proofs.Members.{all_of, each_of, among-append, among-right, among-joined, among-kept, among-map, in-map}
use Rattle.csi_types.specs.declared.call.Call.{Call}
use Rattle.csi_types.specs.declared.call.Call.TheVariants as calls
use Rattle.csi_types.specs.declared.call.Kind.{Kind}
use Rattle.csi_types.specs.declared.call.Party.{Party}
use Rattle.csi_types.specs.declared.call.Party.TheVariants.{Controller, Node}
use Rattle.csi_types.specs.declared.capability.Capability.{Capability}
use Rattle.csi_types.specs.declared.frame.Body.TheVariants as bodies
use Rattle.csi_types.specs.declared.holding.Holding.{Holding}
use Rattle.csi_types.specs.declared.number.Number.{Number}
use Rattle.csi_types.specs.declared.reply.Reply.{Reply}
use Rattle.csi_types.specs.declared.status.Status.{Status}
use Rattle.csi_types.specs.Model.Call.{kind_of}
use Rattle.csi_types.specs.Model.Frame.{Frame}
use Rattle.csi_types.specs.Model.Replies.{reply_frame}
use Rattle.csi_types.specs.Public.PluginThing.{PluginThing, Exists, Attached, Staged, Published, HasId, StagedAs, asked}
use Rattle.csi_types.specs.Public.Reply.{has_id_by_rule}
use Rattle.csi_fence.specs.Model.Fence.{Kept, is_over}
use Rattle.csi_fence.specs.Public.Delivery.{PluginView}
use Rattle.csi_controller.specs.Model.State.{Volume, holding_at}
use Rattle.csi_controller.specs.Public.View.{live_named}
use Rattle.csi_controller.proofs.BegunThings.{kept_begun}
use Rattle.csi_controller.proofs.Forgotten.{live_named-begun}
use Rattle.csi_node.specs.Model.State.{NodeState}
use Rattle.csi_node.specs.Model.Fenced as node_fence
use Rattle.csi_node.proofs.BegunSessions.{begun-kept}
use Rattle.csi_orchestrator.specs.declared.thing.Thing.{Thing}
use Rattle.csi_orchestrator.specs.declared.thing.Thing.TheVariants as things
use Rattle.csi_orchestrator.specs.Model.Thing.{Issued, touches}
use Rattle.csi_orchestrator.specs.Model.History.{Started, Accepted, History}
use Rattle.csi_orchestrator.specs.Model.Readings as readings
use Rattle.csi_orchestrator.specs.Model.Readings.{last_number, open_call}
use Rattle.csi_orchestrator.specs.Model.WellFormed.{IsWellFormed}
use Rattle.csi_orchestrator.specs.Model.Shown.{Shows}
use Rattle.csi_orchestrator.specs.Public.Steps.{Opens}
use Rattle.csi_orchestrator.specs.Public.Steps as steps
use Rattle.csi_world.specs.Model.World.{NodeAt, World, node_state}
use Rattle.csi_recovery.specs.Public.Recovered.{given_state, recovered}
use Rattle.csi_world.specs.Public.Recovery.{is_given, raised_at, recovered_world}
use Rattle.csi_recovery.specs.Public.Laws.{given_of}
use Rattle.csi_world.proofs.WorldView.{party_of, node_view, over_at}
use Rattle.csi_world.proofs.GivenIds.{HasNow}
use Rattle.csi_world.proofs.CallThings.{of-thing-at, plugin_thing_at}
use Rattle.csi_world.proofs.Lifetimes.{latest, latest-is, not-over}
use Rattle.csi_world.proofs.NamedCalls.{Named}
use Rattle.csi_world.proofs.HeardReplies.{known-yes}
use Rattle.csi_world.proofs.RepliesTold.{Truth, kept-more, reply-parts}
use Rattle.csi_world.proofs.StagedAttached.{staging, IsStanding, IsAttachedSo, stages-own}
use Rattle.csi_world.proofs.CreatesFirst.{first-noted}
use Rattle.csi_world.proofs.Forgotten.{told_by, closed-told}
use Rattle.csi_world.proofs.KnownThings.{IsSoFar}
use Rattle.csi_world.proofs.PluginsReached.{IsNodeOfFrames, IsReached}
use Rattle.csi_world.proofs.Deliveries.{all-closed}
use Rattle.csi_world.proofs.RightWorlds.{IsRight}
use Rattle.csi_world.proofs.HeardNumbers.{sent-up}
use Rattle.csi_recovery.proofs.MoreFrames.{with_frames}
use Rattle.csi_recovery.proofs.CallsTold.{Tells, id_for}
use Rattle.csi_recovery.proofs.RaisedPlugins.{raised-controller, raised-node, node-begun}
use Rattle.csi_recovery.proofs.RecoveredRows.{found-live, found-holding}
use Rattle.csi_recovery.proofs.RecoveredNumbers.{greater, session-before}
use Rattle.csi_recovery.proofs.RecoveredPlugins.{Recovery, laws, old, right, nodes, given, session, may, controller, gs, kept_nodes, orderly, plugin, start, fitted, trail, issued, history, shows, form, frames, next, ids, are-given, came, of-controller, told, node-next, given-there, node-there, given-own, ids-volume, volume-ids, call-now, id-rule, old-reply, below, call-below, own-reply, at-node, spent-of, held-by, reply_to, answer_of, begun_at, as_given}
use Rattle.csi_recovery.proofs.RecoveredThings.{issued-since, issued-before, never-over, volume-of, attached-known, attached-staged, staged-here, attached-latest, untouched}

-- two functions that agree on what is among a list
map-alike : {X Y : Type 0} (f g : X → Y) (xs : List X) → ((x : X) → IsAmong x xs → f x ≡ g x) → map f xs ≡ map g xs
map-alike f g [] same = refl
map-alike f g (x ∷ xs) same = let here = same x (inl refl) in let rest = map-alike f g xs (λ y among. same y (inr among)) in λ i. here i ∷ rest i

-- a history of what is made of a world's plugins, and frames with which all is kept of the world that has it
pub record IsMade (nodes : List (List ℕ)) (session : ℕ) (given : List (List ℕ)) (old : World) : Type 0 where
  pub history : History
  pub reached : steps.IsReached history
  pub form : IsWellFormed history
  pub shows : Shows (recovered nodes session old.controller (given_of given old)) history
  pub begins : (last_number history).session ≡ session
  pub closed : (name : List ℕ) → open_call history name ≡ None
  pub frames : List Frame
  pub more : (frame : Frame) → IsAmong frame old.frames → IsAmong frame frames
  pub right : IsRight (with_frames frames (recovered_world session given history old))

module _ (r : Recovery) where
  -- ---- what is kept was kept

  -- at a node
  node-kept : (node : List ℕ) (k : PluginThing) (x : Kept) → (node_view node (over_at (next r)) (node_state node (next r))).kept k ≡ Some x → (node_view node (over_at (old r)) (node_state node (old r))).kept k ≡ Some x
  node-kept node k x h = by (given_state (gs r) node) refl
    where
      by : (o : Option NodeState) → given_state (gs r) node ≡ o → (node_view node (over_at (old r)) (node_state node (old r))).kept k ≡ Some x
      by None e = absurd (none-some x (sym (ap (λ o. (node_view node (over_at (next r)) o).kept k) (node-next r node ∙ ap (option_map (node_fence.begun (session r))) e)) ∙ h))
      by (Some state) e =
          let was = given-there r node state e in
          let now = sym (at-node r (λ (v : PluginView). v.kept k) node state e) ∙ h in
          ap (λ o. (node_view node (over_at (old r)) o).kept k) (ap (λ n. node_state n (old r)) (sym was.same_id) ∙ (right r).good.reached.alike was.at was.among ∙ ap Some was.same_state)
          ∙ ⊎_elim (λ same. sym same ∙ now) (λ none. absurd (none-some x (sym none ∙ now))) (begun-kept node (session r) state k)

  -- of each thing
  kept-old : (k : PluginThing) (x : Kept) → (told r).kept k ≡ Some x → (told_by (right r).good.given (old r)).kept k ≡ Some x
  kept-old (Exists name) x is = ⊎_elim (λ same. sym same ∙ is) (λ none. absurd (none-some x (sym none ∙ is))) (kept_begun (session r) (controller r) (Exists name) (orderly r))
  kept-old (Attached id node) x is = ⊎_elim (λ same. sym same ∙ is) (λ none. absurd (none-some x (sym none ∙ is))) (kept_begun (session r) (controller r) (Attached id node) (orderly r))
  kept-old (Staged id node) x is = node-kept node (Staged id node) x is
  kept-old (Published id node target) x is = node-kept node (Published id node target) x is

  -- ---- all of it

  -- what the frames tell of the things
  truth : Truth (session r) (issued r) (latest (history r).items) (frames r) (told r)
  truth =
      record {
        calls = λ frame call among is.
            inr (⊎_elim (λ there. (below r) frame.number (sent-up (old r) (right r) frame there call is))
            (λ there. let from = among-map (answer_of r) (issued r) frame there in absurd (no_call (kind_of (from.0).call) (reply_to r (from.0).call) call (sym (ap (λ (f : Frame). f.body) from.2) ∙ is)))
            (among-joined (old r).frames (map (answer_of r) (issued r)) frame among));
        replies = λ number party kind reply among.
            ⊎_elim (λ there. inr (below r number (old-reply r number party kind reply there)))
            (λ there. let from = among-map (answer_of r) (issued r) (reply_frame number party kind reply) there in inl (record { call = from.0; among = from.1; has_number = sym (ap (λ (f : Frame). f.number) from.2) }))
            (among-joined (old r).frames (map (answer_of r) (issued r)) (reply_frame number party kind reply) among);
        ids = λ number party kind reply among ok.
            ⊎_elim (λ there. (right r).good.well.so_far.truth.ids number party kind reply there ok)
            (λ there.
            let from = among-map (answer_of r) (issued r) (reply_frame number party kind reply) there in
            let c : Issued = from.0 in
            let parts = reply-parts number c.number party c.party kind (kind_of c.call) reply (reply_to r c.call) from.2 in
            ap (λ k. has_id_by_rule k reply) parts.0 ∙ ap (has_id_by_rule (kind_of c.call)) parts.1 ∙ id-rule r c.name c.party c.call ((trail r).told c from.1))
            (among-joined (old r).frames (map (answer_of r) (issued r)) (reply_frame number party kind reply) among);
        kept = λ k x is. kept-more (old r).frames (map (answer_of r) (issued r)) (party_of k) x ((right r).good.well.so_far.truth.kept k x (kept-old k x is));
        numbers = (trail r).numbers;
        found = λ k call is. latest-is k (history r).items call is;
        order = λ call k among of. inr (spent-of r call k among of);
        spent = λ call k reply among of ok. (spent-of r) call k among of;
        told = λ call k reply is ok.
            let found = latest-is k (history r).items call is in
            (held-by r) call.name call.party call.call ((trail r).told call found.0) k (of-thing-at k call found.1) ∙ ap (asked call.call) (sym (own-reply r call found.0 reply ok.0));
        untouched = (untouched r);
      }
    where
      no_call : (kind : Kind) (reply : Reply) (c : Call) → bodies.Reply kind reply ≡ bodies.Call c → ⊥
      no_call kind reply c h = cc

  -- a call of an attachment attaches so
  record Attaches (id : ℕ) (node : List ℕ) (call : Call) : Type 0 where
    pub capability : Capability
    pub readonly : Bool
    pub is : call ≡ calls.ControllerPublishVolume id node capability readonly
    pub held : holding_at id node (controller r) ≡ Some (record { volume = id; node = node; capability = capability; readonly = readonly })

  -- a call of an attachment in the history
  attaching : (name : List ℕ) (party : Party) (call : Call) (id : ℕ) (node : List ℕ) → Tells (controller r) (gs r) name party call → plugin_thing_at name party call ≡ Some (Attached id node) → Attaches id node call
  attaching name Controller (calls.CreateVolume create required limit capabilities) id node t e = absurd (clash e)
    where
      clash : Some (Exists name) ≡ Some (Attached id node) → ⊥
      clash e = cc
  attaching name Controller (calls.ControllerPublishVolume i n capability readonly) id node t e =
      let volume : i ≡ id = first e in
      let there : n ≡ node = second e in
      record {
        capability = capability;
        readonly = readonly;
        is = λ j. calls.ControllerPublishVolume (volume j) (there j) capability readonly;
        held = subst (λ (x : ℕ × List ℕ). holding_at x.0 x.1 (controller r) ≡ Some (record { volume = x.0; node = x.1; capability = capability; readonly = readonly })) (λ j. (volume j, there j)) t.1;
      }
    where
      first : Some (Attached i n) ≡ Some (Attached id node) → i ≡ id
      first e = cc

      second : Some (Attached i n) ≡ Some (Attached id node) → n ≡ node
      second e = cc
  attaching name (Node here) (calls.NodeStageVolume i capability) id node t e = absurd (clash e)
    where
      clash : Some (Staged i here) ≡ Some (Attached id node) → ⊥
      clash e = cc
  attaching name (Node here) (calls.NodePublishVolume i target capability readonly) id node t e = absurd (clash e)
    where
      clash : Some (Published i here target) ≡ Some (Attached id node) → ⊥
      clash e = cc
  attaching name party call id node t e = absurd t

  -- what is staged is known to be attached so
  stands-held : (id : ℕ) (node : List ℕ) (capability : Capability) → (told r).held (Staged id node) ≡ Some (StagedAs capability) → IsAttachedSo (history r).items id node capability
  stands-held id node capability h =
      let there = staged-here r id node (StagedAs capability) h in
      let held = attached-staged r node there.0 id there.2.0 there.1 there.2.1 in
      let g : Holding = held.holding in
      let has = volume-of r g held.among in
      let thing : Thing = things.Attached (has.volume).name g.node in
      let last = attached-latest r g held.among has in
      let found : latest (history r).items (Attached id node) ≡ Some last.call = subst (λ (x : ℕ × List ℕ). latest (history r).items (Attached x.0 x.1) ≡ Some last.call) (λ i. (held.of_volume i, held.at_node i)) last.by_id in
      let mine = latest-is (Attached id node) (history r).items last.call found in
      let attaches = attaching (last.call).name (last.call).party (last.call).call id node ((trail r).told last.call mine.0) (of-thing-at (Attached id node) last.call mine.1) in
      let done = known-yes (history r) thing (attached-known r g held.among has) in
      let same_call : done.0 ≡ last.call = same_Some done.0 last.call (sym done.1.found ∙ last.by_name) in
      let at : holding_at id node (controller r) ≡ Some g = subst (λ (x : ℕ × List ℕ). holding_at x.0 x.1 (controller r) ≡ Some g) (λ i. (held.of_volume i, held.at_node i)) (found-holding (controller r) (gs r) (orderly r) (plugin r).exclusive g held.among) in
      let one : (let x : Holding = record { volume = id; node = node; capability = attaches.capability; readonly = attaches.readonly } in x) ≡ g = same_Some _ g (sym attaches.held ∙ at) in
      let capable : attaches.capability ≡ capability = ap (λ (x : Holding). x.capability) one ∙ held.same_capability ∙ as_capable there.2.0 there.2.2 in
      record {
        call = last.call;
        readonly = attaches.readonly;
        found = found;
        publishes = attaches.is ∙ ap (λ c. calls.ControllerPublishVolume id node c attaches.readonly) capable;
        success = subst (λ (x : Issued). readings.has_success (history r).items x.number ≡ true) same_call done.1.success;
      }
    where
      as_capable : (other : Capability) → StagedAs other ≡ StagedAs capability → other ≡ capability
      as_capable other e = cc

  -- whatever is staged, or may be, is attached so
  stands : (id : ℕ) (node : List ℕ) (capability : Capability) → IsStanding (issued r) (told r) id node capability → IsAttachedSo (history r).items id node capability
  stands id node capability standing =
      ⊎_elim (stands-held id node capability)
      (λ staged. absurd (false≢true (sym staged.unspent ∙ spent-of r (staging staged.name staged.number id node capability) (Staged id node) staged.among (stages-own staged.name staged.number id node capability)))) standing

  -- an id that was heard is the name's
  made : (call : Issued) (reply : Reply) (id : ℕ) (create : List ℕ) (required limit : ℕ) (capabilities : List Capability) → IsAmong call (issued r) → call.call ≡ calls.CreateVolume create required limit capabilities
      → IsAmong (reply_frame call.number call.party (kind_of call.call) reply) (frames r) → reply.id ≡ Some id → HasNow (ids r) call.name id
  made call reply id create required limit capabilities among is there has_id =
      by call.party (subst (λ c. Tells (controller r) (gs r) call.name call.party c) is ((trail r).told call among))
      (ap (id_for (controller r) (gs r)) (sym is) ∙ sym (ap (λ (r : Reply). r.id) (own-reply r call among reply there)) ∙ has_id)
    where
      by : (party : Party) → Tells (controller r) (gs r) call.name party (calls.CreateVolume create required limit capabilities) → id_for (controller r) (gs r) (calls.CreateVolume create required limit capabilities) ≡ Some id → HasNow (ids r) call.name id
      by Controller t named =
          let v = t.1.1 in
          let found : live_named create (controller r) ≡ Some v.volume = ap (λ n. live_named n (controller r)) (t.0 ∙ sym v.same_name) ∙ found-live (controller r) (gs r) (orderly r) (plugin r).exclusive v.volume v.there in
          let same : (v.volume).id ≡ id = same_Some (v.volume).id id (sym (ap (option_map (λ (u : Volume). u.id)) found) ∙ named) in
          (volume-ids r) call.name id (record { volume = v.volume; there = v.there; same_name = v.same_name; same_id = same })
      by (Node node) t named = absurd t

  -- the names have the ids that are told
  named : Named (history r).items (frames r) (ids r)
  named =
      record {
        own_now = λ call among. (call-now r) call (subst (IsAmong call) (issued-since r (Exists call.name)) among);
        own_old = λ call among. absurd (subst (IsAmong call) (issued-before r (Exists call.name)) among);
        made = λ call reply id create required limit capabilities among is ok has_id.
            made call reply id create required limit capabilities (subst (IsAmong call) (issued-since r (Exists call.name)) among) is ok.0 has_id;
      }

  -- so it is with all that is told
  so_far : IsSoFar (history r) (frames r) (told r) (ids r)
  so_far =
      record {
        floor = (session r);
        truth = truth;
        closed = closed-told (ids r) (next r) (all-closed (laws r) (next r));
        named = named;
        are_given = (are-given r);
        heard = λ number status id among.
            ⊎_elim (λ e. absurd (no_start number status id e)) (λ there.
            let h = (trail r).heard number status id there in
            record {
              call = h.call;
              among = h.among;
              has_number = h.has_number;
              reply = reply_to r (h.call).call;
              sent = among-right (old r).frames (map (answer_of r) (issued r)) _ (in-map (answer_of r) (issued r) h.call h.among);
              has_status = sym h.has_status;
              has_id = sym h.has_id;
            }) among;
        stands = stands;
        timed = record {
          before = λ k call among. absurd (subst (IsAmong call) (issued-before r k) among);
          since = λ k call among. ap (λ s. is_over s call.number) (never-over r k) ∙ not-over 0 call.number (omega arith);
          counted = λ call among. let after = (trail r).after call among in let more = greater (start r) call.number after.0 after.1 in omega (arith, more);
          begun = λ k. subst (λ n. n ≤ (session r)) (sym (never-over r k)) (omega arith);
        };
        undone = λ name call found. absurd (none-some call (sym (ap (find (touches (things.Exists name))) (issued-before r (Exists name))) ∙ found));
      }
    where
      no_start : (number : Number) (status : Status) (id : Option ℕ) → Accepted number status id ≡ Started (session r) (nodes r) → ⊥
      no_start number status id e = cc

  -- the plugins are in such states as they have to be
  reached : IsReached (next r)
  reached =
      record {
        controller = (came r);
        nodes =
            all_of IsNodeOfFrames (map (begun_at r) (kept_nodes r)) (λ at among.
            let from = among-map (begun_at r) (kept_nodes r) at among in
            let was = (among-kept (is_given (given r)) (old r).nodes from.0 from.1).0 in
            subst IsNodeOfFrames (sym from.2)
            (node-begun (from.0).id (session r) (from.0).state ((may r).after_nodes (as_given r from.0) (in-map (as_given r) (kept_nodes r) from.0 from.1)) (each_of IsNodeOfFrames (old r).nodes from.0 (right r).good.reached.nodes was)));
        alike = λ at among.
            let from = among-map (begun_at r) (kept_nodes r) at among in
            ap (λ (n : NodeAt). node_state n.id (next r)) from.2 ∙ node-there r (from.0).id (from.0).state (given-own r from.0 from.1) ∙ ap (λ (n : NodeAt). Some n.state) (sym from.2);
      }

  -- all is kept of the world
  next-right : IsRight (next r)
  unfolding so_far
  next-right =
      record {
        good = record {
          reached = reached;
          given = (ids r);
          well = record {
            so_far = so_far;
            of_controller = (of-controller r);
            creates = first-noted ((fitted r).history).items (Started (session r) (nodes r)) refl (λ name. inr refl) (trail r).creates;
            ended = λ name id has none.
                let v = ids-volume r name id has in
                absurd (none-some (HasId (v.volume).id)
                (sym none ∙ ap (option_map (λ (u : Volume). HasId u.id)) (live_named-begun (session r) (controller r) name ∙ ap (λ n. live_named n (controller r)) (sym v.same_name) ∙ found-live (controller r) (gs r) (orderly r) (plugin r).exclusive v.volume v.there)));
            old_spent = λ call among is. absurd (subst (IsAmong call) (issued-before r (Exists call.name)) among);
          };
          floor = record {
            controller = omega arith;
            nodes = λ at among. let from = among-map (begun_at r) (kept_nodes r) at among in subst (λ (n : NodeAt). (session r) ≤ n.state.session) (sym from.2) (omega arith);
            last = omega arith;
          };
        };
        last = λ call among. inr (session-before call.number (last_number (history r)) (call-below r call among));
      }

  -- what is made of the plugins has this history, and all is kept of the world with it
  pub is-made : IsMade (nodes r) (session r) (given r) (old r)
  is-made =
      record {
        history = (history r);
        reached = Opens (recovered (nodes r) (session r) (controller r) (gs r)) (history r) (may r).rows (form r) (shows r);
        form = (form r);
        shows = (shows r);
        begins = refl;
        closed = λ name. refl;
        frames = (frames r);
        more = λ frame among. among-append (old r).frames (map (answer_of r) (issued r)) frame among;
        right = subst IsRight same next-right;
      }
    where
      same : (next r) ≡ with_frames (frames r) (recovered_world (session r) (given r) (history r) (old r))
      same =
          let raised = sym (raised-controller (session r) (controller r) (may r).after_controller) in
          let all = map-alike (begun_at r) (raised_at (session r)) (kept_nodes r) (λ at among.
          let after = (may r).after_nodes (as_given r at) (in-map (as_given r) (kept_nodes r) at among) in
          ap (λ (s : NodeState). let n : NodeAt = record at { state = s } in n) (sym (raised-node (session r) at.state after))) in
          λ i. record (next r) { controller = raised i; nodes = all i }
