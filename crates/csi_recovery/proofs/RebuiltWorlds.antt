-- All is so of a world that is kept of every world once a controller that is made of what its orchestrator keeps took the place of a lost one.
use Rattle.std.proofs.Common.{◌≡◌, ◌⊎◌, ℕ, ◌<◌, ◌≤◌, List, Bool, true, false, Some, None, IsTrue, ◌==◌, ◌&&◌, refl, sym, ◌∙◌, ap, subst, inl, inr, ⊎_elim, arith}
use Rattle.std.proofs.lemmas.Bool.{and_parts, eqb-true, false_from_ne_true, false≢true, or_cases, or_left}
use Rattle.csi_types.specs.Model.Members.{IsAmong}
use Rattle.csi_types.proofs.Members.{among-find}
use Rattle.csi_types.proofs.Options.{none-where, some-from_map}
use Rattle.csi_types.proofs.Searches.{find-passes}
use Rattle.csi_types.specs.declared.call.Call.{Call}
use Rattle.csi_types.specs.declared.call.Call.TheVariants as calls
use Rattle.csi_types.specs.declared.call.Party.{Party}
use Rattle.csi_types.specs.declared.call.Party.TheVariants.{Controller, Node}
use Rattle.csi_types.specs.declared.capability.Capability.{Capability}
use Rattle.csi_types.specs.declared.number.Number.{Number}
use Rattle.csi_types.specs.declared.reply.Reply.{Reply}
use Rattle.csi_types.specs.Model.Replies.{reply_frame}
use Rattle.csi_types.specs.Model.Same.{same_text}
use Rattle.csi_types.specs.Public.PluginThing.{PluginThing, Exists, Attached, Staged, Published, asked}
use Rattle.csi_fence.specs.Model.Fence.{Kept, is_over}
use Rattle.csi_controller.specs.Model.State.{Volume, live_volume, volume_named}
use Rattle.csi_controller.specs.Public.State.{volume_with_id}
use Rattle.csi_orchestrator.specs.Model.Thing.{Issued}
use Rattle.csi_orchestrator.specs.Model.Readings.{issued_in, last_number}
use Rattle.csi_world.proofs.WorldView.{party_of, over_at, view_of}
use Rattle.csi_world.proofs.GivenIds.{HasNow, HasOld, AreGiven, AreOf, is_forgotten, not-forgotten}
use Rattle.csi_world.proofs.CallThings.{IsOwnNow, IsAnsweredOk, is_of, is_making}
use Rattle.csi_world.proofs.Lifetimes.{latest, before-sent, is-over}
use Rattle.csi_world.proofs.NamedCalls.{Named, for-weaker}
use Rattle.csi_world.proofs.RepliesTold.{IsKeptOf, IsNoLater, Truth}
use Rattle.csi_world.proofs.CreatesFirst.{IsKnown, heard-known}
use Rattle.csi_world.proofs.StagedAttached.{IsStanding, IsAttachedSo}
use Rattle.csi_world.proofs.Forgotten.{is_past_name, is_told, told_by, closed-told}
use Rattle.csi_world.proofs.KnownThings.{IsSoFar}
use Rattle.csi_world.proofs.PluginsReached.{regular-named}
use Rattle.csi_world.proofs.Deliveries.{all-closed}
use Rattle.csi_world.proofs.RightWorlds.{IsRight}
use Rattle.csi_recovery.proofs.RebuiltRows.{Rebuilding, old, controller, history, given, so_far, regular, volume-row}
use Rattle.csi_recovery.proofs.RebuiltThings.{items, last-earlier, issued-low, was-there, node-stays, heard-stays, ids, now-heard, old-had, had-old, name-had, known-now, volume-heard, made-now, told-so, sent-so}
use Rattle.csi_recovery.proofs.RebuiltThings.{frames, next}

module _ (r : Rebuilding) where
  -- ---- ids

  -- the ids are given as they have to be
  are-given : AreGiven (ids r)
  are-given =
      let are = (so_far r).are_given in
      record {
        one_id = λ name i j has had. are.one_id name i j (now-heard r name i has).0 (now-heard r name j had).0;
        one_name = λ a b id has had. are.one_name a b id (name-had r a id has) (name-had r b id had);
        apart = λ name id has had. are.apart name id (now-heard r name id has).0 (old-had r name id had);
      }

  -- no volume of a forgotten name is there
  ended : (name : List ℕ) (id : ℕ) → HasOld (ids r) name id → live_volume id (controller r) ≡ None
  ended name id had =
      none-where (live_volume id (controller r)) (λ volume found.
      let test : Volume → Bool = λ v. (v.id == id) && v.is_live in
      let same : volume.id ≡ id = eqb-true volume.id id (and_parts (volume.id == id) volume.is_live (find-passes test (controller r).volumes volume found)).0 in
      let has : HasNow (ids r) volume.name id = subst (HasNow (ids r) volume.name) same (volume-heard r volume (among-find test (controller r).volumes volume found)) in
      are-given.apart volume.name id has (subst (λ n. HasOld (ids r) n id) (are-given.one_name name volume.name id (inr had) (inl has)) had))

  -- they are the controller's
  of-controller : AreOf (controller r) (ids r)
  of-controller =
      record {
        names = regular-named (controller r) (regular r);
        below = λ name id has. up id (r.right.good.well.of_controller.below name id (name-had r name id has));
        listed = λ id volume found. inl (volume-heard r volume (among-find (λ (v : Volume). v.id == id) (controller r).volumes volume found));
        ended = ended;
      }
    where
      up : (id : ℕ) → id < (r.old).controller.next_id → id < r.controller.next_id
      up id less = let word = r.may.word in omega (arith, less, word)

  -- a call that was sent since its name was forgotten is for an id that was heard
  own-now : (name : List ℕ) (party : Party) (c : Call) → (is_making c ≡ false → IsKnown (items r) name) → IsOwnNow (given r) name party c → IsOwnNow (ids r) name party c
  own-now name Controller (calls.CreateVolume create required limit capabilities) known own = own
  own-now name Controller (calls.DeleteVolume id) known own = known-now r name id own (known refl)
  own-now name Controller (calls.ControllerPublishVolume id node capability readonly) known own = known-now r name id own (known refl)
  own-now name Controller (calls.ControllerUnpublishVolume id node) known own = known-now r name id own (known refl)
  own-now name (Node node) (calls.NodeStageVolume id capability) known own = known-now r name id own (known refl)
  own-now name (Node node) (calls.NodeUnstageVolume id) known own = known-now r name id own (known refl)
  own-now name (Node node) (calls.NodePublishVolume id target capability readonly) known own = known-now r name id own (known refl)
  own-now name (Node node) (calls.NodeUnpublishVolume id target) known own = known-now r name id own (known refl)
  own-now name party c known own = absurd own

  -- ---- what is spent

  -- each number up to the last one is, of what is the controller's
  spent-now : (k : PluginThing) (number : Number) → party_of k ≡ Controller → number.session ≤ (last_number (history r)).session → IsTrue ((view_of (next r)).is_spent k number)
  spent-now k number its low = by k its
    where
      over : is_over (controller r).session number ≡ true
      over = let earlier = last-earlier r in is-over (controller r).session number (omega (arith, low, earlier))

      no-node : {node : List ℕ} → Node node ≡ Controller → ⊥
      no-node e = cc

      by : (k : PluginThing) → party_of k ≡ Controller → IsTrue ((view_of (next r)).is_spent k number)
      by (Exists name) its = or_left (is_over (controller r).session number) _ over
      by (Attached id node) its = or_left (is_over (controller r).session number) _ over
      by (Staged id node) its = absurd (no-node its)
      by (Published id node target) its = absurd (no-node its)

  -- so each call of it that was sent is
  spent-sent : (k : PluginThing) (call : Issued) → party_of k ≡ Controller → IsAmong call (issued_in (items r)) → IsTrue ((told_by (ids r) (next r)).is_spent k call.number)
  spent-sent k call its among = or_left ((view_of (next r)).is_spent k call.number) (is_told (ids r) (next r) k call.number) (spent-now k call.number its (issued-low r call among))

  -- what no controller forgets, and no name's end ends, is spent by itself alone
  plainly : (k : PluginThing) (number : Number) → is_forgotten (given r) (old r).controller k ≡ false → is_past_name (over_at (old r)) k number ≡ false → IsTrue ((told_by (given r) (old r)).is_spent k number)
      → IsTrue ((view_of (old r)).is_spent k number)
  plainly k number known present spent =
      ⊎_elim (λ plain. plain)
      (λ told. ⊎_elim (λ gone. absurd (false≢true (sym known ∙ gone))) (λ past. absurd (false≢true (sym present ∙ past))) (or_cases (is_forgotten (given r) (old r).controller k) (is_past_name (over_at (old r)) k number) told))
      (or_cases ((view_of (old r)).is_spent k number) (is_told (given r) (old r) k number) spent)

  -- so it is of what is staged
  staged-spent : (id : ℕ) (node : List ℕ) (number : Number) → IsTrue ((told_by (given r) (old r)).is_spent (Staged id node) number) → IsTrue ((told_by (ids r) (next r)).is_spent (Staged id node) number)
  staged-spent id node number spent =
      or_left ((view_of (next r)).is_spent (Staged id node) number) (is_told (ids r) (next r) (Staged id node) number)
      (plainly (Staged id node) number (not-forgotten (given r) (old r).controller (Staged id node) (λ one among is gone. false≢true is)) refl spent)

  -- and of what is published
  published-spent : (id : ℕ) (node target : List ℕ) (number : Number) → IsTrue ((told_by (given r) (old r)).is_spent (Published id node target) number)
      → IsTrue ((told_by (ids r) (next r)).is_spent (Published id node target) number)
  published-spent id node target number spent =
      or_left ((view_of (next r)).is_spent (Published id node target) number) (is_told (ids r) (next r) (Published id node target) number)
      (plainly (Published id node target) number (not-forgotten (given r) (old r).controller (Published id node target) (λ one among is gone. false≢true is)) refl spent)

  -- ---- what is kept

  -- of a volume nothing is kept that is a call's
  kept-none : (volume : Volume) (x : Kept) → IsAmong volume (controller r).volumes → volume.kept ≡ x → x.number.call ≡ 0
  kept-none volume x among is = ap (λ (k : Kept). k.number.call) (sym is) ∙ ap (λ (v : Volume). v.kept.number.call) (volume-row r volume among).2.is

  -- what a node keeps was sent
  kept-there : (node : List ℕ) (x : Kept) → IsKeptOf (old r).frames (Node node) x → IsKeptOf (frames r) (Node node) x
  kept-there node x (inl sent) = inl (node-stays r (reply_frame x.number (Node node) x.kind x.reply) node refl sent)
  kept-there node x (inr none) = inr none

  kept : (k : PluginThing) (x : Kept) → (told_by (ids r) (next r)).kept k ≡ Some x → IsKeptOf (frames r) (party_of k) x
  kept (Exists name) x is =
      let found = some-from_map (λ (v : Volume). v.kept) (volume_named name (controller r)) x is in
      inr (kept-none found.0 x (among-find (λ (v : Volume). same_text v.name name) (controller r).volumes found.0 found.1) found.2)
  kept (Attached id node) x is =
      let found = some-from_map (λ (v : Volume). v.kept) (volume_with_id id (controller r)) x is in
      inr (kept-none found.0 x (among-find (λ (v : Volume). v.id == id) (controller r).volumes found.0 found.1) found.2)
  kept (Staged id node) x is = kept-there node x ((so_far r).truth.kept (Staged id node) x is)
  kept (Published id node target) x is = kept-there node x ((so_far r).truth.kept (Published id node target) x is)

  -- ---- all of it

  -- what the frames tell of the things
  truth : Truth (so_far r).floor (issued_in (items r)) (latest (items r)) (frames r) (told_by (ids r) (next r))
  truth =
      record {
        calls = λ frame call among is. (so_far r).truth.calls frame call (was-there r frame among) is;
        replies = λ number party kind reply among. (so_far r).truth.replies number party kind reply (was-there r _ among);
        ids = λ number party kind reply among ok. (so_far r).truth.ids number party kind reply (was-there r _ among) ok;
        kept = kept;
        numbers = (so_far r).truth.numbers;
        found = (so_far r).truth.found;
        order = λ call k among of. order k call among of;
        spent = λ call k reply among of ok. spent k call reply among of (was-there r _ ok.0, ok.1);
        told = λ call k reply is ok. told k call reply is ok;
        untouched = untouched;
      }
    where
      order : (k : PluginThing) (call : Issued) → IsAmong call (issued_in (items r)) → is_of k call ≡ true → IsNoLater (latest (items r)) k call ⊎ IsTrue ((told_by (ids r) (next r)).is_spent k call.number)
      order (Exists name) call among of = inr (spent-sent (Exists name) call refl among)
      order (Attached id node) call among of = inr (spent-sent (Attached id node) call refl among)
      order (Staged id node) call among of = ⊎_elim inl (λ was. inr (staged-spent id node call.number was)) ((so_far r).truth.order call (Staged id node) among of)
      order (Published id node target) call among of = ⊎_elim inl (λ was. inr (published-spent id node target call.number was)) ((so_far r).truth.order call (Published id node target) among of)

      spent : (k : PluginThing) (call : Issued) (reply : Reply) → IsAmong call (issued_in (items r)) → is_of k call ≡ true → IsAnsweredOk (old r).frames call reply → IsTrue ((told_by (ids r) (next r)).is_spent k call.number)
      spent (Exists name) call reply among of ok = spent-sent (Exists name) call refl among
      spent (Attached id node) call reply among of ok = spent-sent (Attached id node) call refl among
      spent (Staged id node) call reply among of ok = staged-spent id node call.number ((so_far r).truth.spent call (Staged id node) reply among of ok)
      spent (Published id node target) call reply among of ok = published-spent id node target call.number ((so_far r).truth.spent call (Published id node target) reply among of ok)

      told : (k : PluginThing) (call : Issued) (reply : Reply) → latest (items r) k ≡ Some call → IsAnsweredOk (frames r) call reply → (told_by (ids r) (next r)).held k ≡ asked call.call reply
      told (Exists name) call reply is ok = told-so r ended (Exists name) call reply refl is ok
      told (Attached id node) call reply is ok = told-so r ended (Attached id node) call reply refl is ok
      told (Staged id node) call reply is ok = (so_far r).truth.told call (Staged id node) reply is (was-there r _ ok.0, ok.1)
      told (Published id node target) call reply is ok = (so_far r).truth.told call (Published id node target) reply is (was-there r _ ok.0, ok.1)

      untouched : (k : PluginThing) → latest (items r) k ≡ None → (told_by (ids r) (next r)).held k ≡ None
      untouched (Exists name) none = sent-so r (Exists name) refl none
      untouched (Attached id node) none = sent-so r (Attached id node) refl none
      untouched (Staged id node) none = (so_far r).truth.untouched (Staged id node) none
      untouched (Published id node target) none = (so_far r).truth.untouched (Published id node target) none

  -- the names have the ids that were heard
  named : Named (items r) (frames r) (ids r)
  named =
      record {
        own_now = λ call among. own-now call.name call.party call.call (λ plain. r.right.good.well.creates.known call among plain) ((so_far r).named.own_now call among);
        own_old = λ call among. for-weaker (HasOld (given r)) (HasOld (ids r)) call.name (λ id had. had-old r call.name id had) call.party call.call ((so_far r).named.own_old call among);
        made = made-now r;
      }

  -- whatever is staged, or may be, is attached so
  stands : (id : ℕ) (node : List ℕ) (capability : Capability) → IsStanding (issued_in (items r)) (told_by (ids r) (next r)) id node capability → IsAttachedSo (items r) id node capability
  stands id node capability standing =
      (so_far r).stands id node capability
      (⊎_elim (λ held. inl held)
      (λ may. inr (record {
        name = may.name;
        number = may.number;
        among = may.among;
        unspent = false_from_ne_true ((told_by (given r) (old r)).is_spent (Staged id node) may.number) (λ was. false≢true (sym may.unspent ∙ staged-spent id node may.number was));
      })) standing)

  -- so it is with all that is told
  told-then : IsSoFar (history r) (frames r) (told_by (ids r) (next r)) (ids r)
  told-then =
      record {
        floor = (so_far r).floor;
        truth = truth;
        closed = closed-told (ids r) (next r) (all-closed r.laws (next r));
        named = named;
        are_given = are-given;
        heard = λ number status id among.
            let was = (so_far r).heard number status id among in
            record {
              call = was.call;
              among = was.among;
              has_number = was.has_number;
              reply = was.reply;
              sent = heard-stays r number status id among was.call was.reply was.has_number was.has_status was.has_id was.sent;
              has_status = was.has_status;
              has_id = was.has_id;
            };
        stands = stands;
        timed = (so_far r).timed;
        undone = (so_far r).undone;
      }

  -- all is kept of the world
  pub next-right : IsRight (next r)
  unfolding told-then
  next-right =
      record {
        good = record {
          reached = record { controller = regular r; nodes = r.right.good.reached.nodes; alike = r.right.good.reached.alike };
          given = ids r;
          well = record {
            so_far = told-then;
            of_controller = of-controller;
            creates = r.right.good.well.creates;
            ended = λ name id has none.
                record {
                  known = heard-known (history r) name id (now-heard r name id has).1;
                  spent = λ call among of making. spent-now (Exists name) call.number refl (issued-low r call among);
                };
            old_spent = λ call among is. inl (spent-now (Exists call.name) call.number refl (issued-low r call (before-sent (Exists call.name) (items r) call among)));
          };
          floor = record {
            controller = let last = r.right.good.floor.last in let earlier = last-earlier r in omega (arith, last, earlier);
            nodes = r.right.good.floor.nodes;
            last = r.right.good.floor.last;
          };
        };
        last = r.right.last;
      }
