-- What becomes of the things when a sent call comes to its plugin, which carries it out, or doesn't, or doesn't have its volume; with what was
-- forgotten told too. And what is given then.
use Rattle.csi_world.proofs.Words.{◌≡◌, ◌⊎◌, ℕ, ◌<◌, List, true, false, Option, Some, None, option_map, IsTrue, refl}
use Rattle.csi_world.proofs.Words.{sym, ◌∙◌, ap, subst, inl, inr, ⊎_elim, arith, Number, Call, Kind, Party, Reply}
use Rattle.csi_world.proofs.Words.{Delivery, Acts, Rests, Misses, CallBecomes, kept_of, PluginThing, Exists, Attached}
use Rattle.csi_world.proofs.Words.{Staged, Published, ThingForm, HasId, asked, IsAmong, reply_frame, same_text, Volume}
use Rattle.csi_world.proofs.Words.{ControllerState, Issued, issued_in, NodeAt, World, IsAttachedWhileLive}
use Rattle.csi_world.proofs.Lemmas.{and_parts, false≢true, or_cases, or_from, or_left, or_right, none-some, same_Some}
use Rattle.csi_world.proofs.Lemmas.{among-last, same_text-tells, same_party-tells, same_plugin_thing-tells}
use Rattle.csi_types.specs.declared.call.Call.TheVariants as calls
use Rattle.csi_types.specs.declared.status.Status.TheVariants.{Ok}
use Rattle.csi_controller.specs.Public.View as controllers
use Rattle.csi_world.proofs.WorldView.{party_of, over_at, plugin_view, view_of, ChangesOnly, acts-all, rests-all, misses-all}
use Rattle.csi_world.proofs.GivenIds.{GivenId, HasNow, HasOld, HasName, AreGiven, now-given, gives-names, id-of_found, live-named, is_given, is_forgotten, gone-forgotten, not-forgotten, stays-gone, stays-forgotten, IsNewlyGiven, AreGivenNext}
use Rattle.csi_world.proofs.CallThings.{IsOwn, plugin_thing_at, is_plugin_thing, is_of, is_making}
use Rattle.csi_world.proofs.Lifetimes.{calls_since, calls_before, is_past, since-or-before}
use Rattle.csi_world.proofs.NamedCalls.{own, for-weaker}
use Rattle.csi_world.proofs.SeenCalls.{thing_seen, IsGone, IsAnsweredBy, IsNowIf, call-seen, seen-making, unseen-gone}
use Rattle.csi_world.proofs.RepliesTold.{answer_to, delivery_of, IsEffect, IsMet, IsKeptStill, effect-acts, effect-rests, effect-misses}
use Rattle.csi_world.proofs.NotLive.{not-ended, exists-named, IsLeftOrChanged}
use Rattle.csi_world.proofs.Forgotten.{is_past_name, is_told, told_by, gone-held}
use Rattle.csi_world.proofs.RecordedRight.{IsWell}

-- the world whose plugins know this
abbrev pub with_plugins : World → ControllerState → List NodeAt → World
with_plugins world controller nodes = record world { controller = controller; nodes = nodes }

-- what is kept at a plugin was kept, or is the answer; or nothing is kept any more
abbrev KeepsOr : World → World → Party → Delivery → Type 0
KeepsOr old new party delivery =
    (other : PluginThing) → ((plugin_view new party).kept other ≡ (plugin_view old party).kept other) ⊎ ((plugin_view new party).kept other ≡ Some (kept_of delivery)) ⊎ ((plugin_view new party).kept other ≡ None)

-- so it is in the world
kept-either : (old new : World) (call : Issued) (plugin_thing : PluginThing) (kind : Kind) (reply : Reply) → party_of plugin_thing ≡ call.party → ChangesOnly (party_of plugin_thing) old new
    → KeepsOr old new (party_of plugin_thing) (delivery_of call kind reply) → IsKeptStill (issued_in old.history.items) old.frames (view_of old) (view_of new) call plugin_thing kind reply
kept-either old new call plugin_thing kind reply of_party only keeps other k is = grind (arith, party_of, plugin_view, delivery_of, answer_to, same_Some, among-last, none-some, view_of, same_party-tells)

-- a sent call that came to its plugin, and what the plugins know then
module _ (world : World) (controller : ControllerState) (nodes : List NodeAt) (call : Issued) where
  -- the world after the call was delivered
  abbrev next : World
  next = with_plugins world controller nodes

  -- what became of the things, whether or not what was forgotten is told too
  pub record AreEffects (given more : List GivenId) (plugin_thing : PluginThing) (kind : Kind) (reply : Reply) : Type 0 where
    pub plain : IsEffect (issued_in world.history.items) world.frames (view_of world) (view_of next) call plugin_thing kind reply
    pub told : IsEffect (issued_in world.history.items) world.frames (told_by given world) (told_by more next) call plugin_thing kind reply
    pub met : IsMet (issued_in world.history.items) world.frames (told_by given world) (told_by more next) call plugin_thing kind reply (IsAmong call (calls_since plugin_thing world.history.items))
    pub changes : (name : List ℕ) → IsLeftOrChanged world.history.items world.frames (view_of world) (view_of next) call plugin_thing kind reply plain name

  -- each name has one id now, and each id one name, when a volume was made: its name had none, and its id is the next one
  pub given-once : (given more : List GivenId) (plugin_thing : PluginThing) (kind : Kind) (reply : Reply) → IsWell world given → AreGivenNext world.controller controller given more
      → IsEffect (issued_in world.history.items) world.frames (view_of world) (view_of next) call plugin_thing kind reply → AreGiven more
  given-once given more plugin_thing kind reply well following plain = record { one_id = one_id; one_name = one_name; apart = apart }
    where
      are : AreGiven given
      are = well.so_far.are_given

      -- the name of a volume that was made had no id
      unnamed : (name : List ℕ) (i j : ℕ) → HasNow given name i → IsNewlyGiven world.controller controller name j → ⊥
      unnamed name i j has newly =
          let volume : Volume = newly.volume in
          let none = ap (option_map (λ (v : Volume). HasId v.id)) (subst (λ n. controllers.live_named n world.controller ≡ None) newly.has_name newly.made.was_free) in
          let found = live-named controller volume (following.of.names.by_name j volume newly.is_found) newly.made.is_live in
          let now = ap (option_map (λ (v : Volume). HasId v.id)) (subst (λ n. controllers.live_named n controller ≡ Some volume) newly.has_name found) in
          not-ended world.history.items world.frames (view_of world) (view_of next) call plugin_thing kind reply plain name volume.id none now (well.ended name i has none)

      clash : (i j : ℕ) → i < j → i ≡ j → ⊥
      clash i j less e = omega arith

      -- its id was the next one
      is_next : (name : List ℕ) (id : ℕ) → IsNewlyGiven world.controller controller name id → id ≡ world.controller.next_id
      is_next name id newly = sym (id-of_found id controller newly.volume newly.is_found) ∙ newly.made.has_next

      -- a name's id was given, or is new and the name's now
      was : (name : List ℕ) (id : ℕ) → HasName more name id → HasName given name id ⊎ IsNewlyGiven world.controller controller name id
      was name id (inl has) = ⊎_elim (λ here. inl (inl here)) (λ newly. inr newly.1) (following.newer _ has)
      was name id (inr had) = ⊎_elim (λ here. inl (inr here)) (λ newly. absurd (false≢true newly.0)) (following.newer _ had)

      one_id : (name : List ℕ) (i j : ℕ) → HasNow more name i → HasNow more name j → i ≡ j
      one_id name i j hi hj = by (following.newer _ hi) (following.newer _ hj)
        where
          by : HasNow given name i ⊎ ((true ≡ true) × IsNewlyGiven world.controller controller name i) → HasNow given name j ⊎ ((true ≡ true) × IsNewlyGiven world.controller controller name j) → i ≡ j
          by (inl a) (inl b) = are.one_id name i j a b
          by (inl a) (inr b) = absurd (unnamed name i j a b.1)
          by (inr a) (inl b) = absurd (unnamed name j i b a.1)
          by (inr a) (inr b) = is_next name i a.1 ∙ sym (is_next name j b.1)

      one_name : (a b : List ℕ) (id : ℕ) → HasName more a id → HasName more b id → a ≡ b
      one_name a b id ha hb = by (was a id ha) (was b id hb)
        where
          by : HasName given a id ⊎ IsNewlyGiven world.controller controller a id → HasName given b id ⊎ IsNewlyGiven world.controller controller b id → a ≡ b
          by (inl x) (inl y) = are.one_name a b id x y
          by (inl x) (inr y) = absurd (clash id world.controller.next_id (well.of_controller.below a id x) (is_next b id y))
          by (inr x) (inl y) = absurd (clash id world.controller.next_id (well.of_controller.below b id y) (is_next a id x))
          by (inr x) (inr y) = sym x.has_name ∙ ap (λ (v : Volume). v.name) (same_Some x.volume y.volume (sym x.is_found ∙ y.is_found)) ∙ y.has_name

      apart : (name : List ℕ) (id : ℕ) → HasNow more name id → HasOld more name id → ⊥
      apart name id has had = by (following.newer _ has) (following.newer _ had)
        where
          by : HasNow given name id ⊎ ((true ≡ true) × IsNewlyGiven world.controller controller name id) → HasOld given name id ⊎ ((false ≡ true) × IsNewlyGiven world.controller controller name id) → ⊥
          by (inl a) (inl b) = are.apart name id a b
          by (inr a) (inl b) = clash id world.controller.next_id (well.of_controller.below name id (inr b)) (is_next name id a.1)
          by a (inr b) = false≢true b.0

  module _ (given more : List GivenId) (well : IsWell world given) (keeps : controllers.KeepsNames world.controller controller) (following : AreGivenNext world.controller controller given more)
      (live : IsAttachedWhileLive world) (live_next : IsAttachedWhileLive next)
      (among : IsAmong call (issued_in world.history.items)) (plugin_thing : PluginThing) (of_plugin_thing : plugin_thing_at call.name call.party call.call ≡ Some plugin_thing) (of_party : party_of plugin_thing ≡ call.party)
      (only : ChangesOnly (party_of plugin_thing) world next) (kind : Kind) (reply : Reply) where
    -- the call is of the thing
    of : is_of plugin_thing call ≡ true
    of = ap (is_plugin_thing plugin_thing) of_plugin_thing ∙ (same_plugin_thing-tells plugin_thing plugin_thing).1 refl

    -- the call is for the volume of its name
    mine : IsOwn given call.name call.party call.call
    mine = own world.history.items world.frames given well.so_far.named call among

    -- what was spent, or forgotten, is so still
    still-told : ((other : PluginThing) (number : Number) → IsTrue ((view_of world).is_spent other number) → IsTrue ((view_of next).is_spent other number))
        → (other : PluginThing) (number : Number) → IsTrue ((told_by given world).is_spent other number) → IsTrue ((told_by more next).is_spent other number)
    still-told spent other number is =
        ⊎_elim (λ plainly. or_left ((view_of next).is_spent other number) (is_told more next other number) (spent other number plainly))
        (λ told. or_right ((view_of next).is_spent other number) (is_told more next other number)
        (⊎_elim (λ gone. or_left (is_forgotten more controller other) (is_past_name (over_at world) other number) (stays-forgotten world.controller controller given more other keeps well.of_controller following.wider gone))
        (λ past. or_right (is_forgotten more controller other) (is_past_name (over_at world) other number) past)
        (or_cases (is_forgotten given world.controller other) (is_past_name (over_at world) other number) told)))
        (or_cases ((view_of world).is_spent other number) (is_told given world other number) is)

    -- what became of the things, where what was forgotten is told too: a call that was carried out is of none that was
    told-effect : ((view_of world).is_spent plugin_thing call.number ≡ false → is_told given world plugin_thing call.number ≡ false)
        → IsEffect (issued_in world.history.items) world.frames (view_of world) (view_of next) call plugin_thing kind reply
        → IsEffect (issued_in world.history.items) world.frames (told_by given world) (told_by more next) call plugin_thing kind reply
    told-effect known plain =
        record {
          among = plain.among;
          of = plain.of;
          rule = plain.rule;
          kept = plain.kept;
          spent = still-told plain.spent;
          held = λ k. ⊎_elim (λ same. inl same) (λ changed. inr (record {
            same = changed.same;
            its_kind = changed.its_kind;
            fresh = or_from ((view_of world).is_spent plugin_thing call.number) (is_told given world plugin_thing call.number) changed.fresh (known changed.fresh);
            ok = changed.ok;
            now = changed.now;
            spent = or_left ((view_of next).is_spent plugin_thing call.number) (is_told more next plugin_thing call.number) changed.spent;
          })) (plain.held k);
        }

    -- what was spent stays so where what was forgotten is told too
    spent-told : IsTrue ((view_of next).is_spent plugin_thing call.number) → IsTrue ((told_by more next).is_spent plugin_thing call.number)
    spent-told spent = or_left ((view_of next).is_spent plugin_thing call.number) (is_told more next plugin_thing call.number) spent

    -- a fresh call that the plugin sees was sent since its name was forgotten, where it is of whether a volume is there
    fresh-now : thing_seen world.controller call.party call.call ≡ Some plugin_thing → (view_of world).is_spent plugin_thing call.number ≡ false → plugin_thing ≡ Exists call.name
        → IsAmong call (calls_since (Exists call.name) world.history.items)
    fresh-now seen fresh exists =
        ⊎_elim (λ here. here) (λ earlier. absurd (⊎_elim (λ spent. false≢true (sym fresh ∙ ap (λ k. (view_of world).is_spent k call.number) exists ∙ spent))
        (λ none. none-some plugin_thing (sym none ∙ seen)) (well.old_spent call earlier (subst (λ k. is_of k call ≡ true) exists of))))
        (since-or-before (Exists call.name) world.history.items call among)

    -- the name of a volume's being there is the call's
    exists-own : (name : List ℕ) → plugin_thing ≡ Exists name → plugin_thing ≡ Exists call.name
    exists-own name is = is ∙ ap Exists (sym (exists-named name call.name call.party call.call (subst (λ k. is_of k call ≡ true) is of)))

    -- so a fresh call that the plugin sees is of no thing that was forgotten
    fresh-known : thing_seen world.controller call.party call.call ≡ Some plugin_thing → (view_of world).is_spent plugin_thing call.number ≡ false → is_told given world plugin_thing call.number ≡ false
    fresh-known seen fresh =
        or_from (is_forgotten given world.controller plugin_thing) (is_past_name (over_at world) plugin_thing call.number)
        (not-forgotten given world.controller plugin_thing (λ one there is_for gone.
        let making = seen-making given world.controller well.so_far.are_given well.of_controller call.name call.party call.call plugin_thing mine now of_plugin_thing seen one there is_for gone in
        let exists : plugin_thing ≡ Exists call.name = made-thing call.call making of_plugin_thing in
        let parts = and_parts (same_text one.name call.name) one.now (ap (λ k. is_given k one) (sym exists) ∙ is_for) in
        let named : HasNow given call.name one.id = subst (λ n. HasNow given n one.id) ((same_text-tells one.name call.name).0 parts.0) (now-given given one there parts.1) in
        let none = gone-held world given plugin_thing one well.so_far.are_given well.of_controller live there is_for gone in
        let ended = well.ended call.name one.id named (ap (view_of world).held (sym exists) ∙ none) in
        false≢true (sym fresh ∙ ap (λ k. (view_of world).is_spent k call.number) exists ∙ ended.spent call among refl making)))
        (not-past plugin_thing refl)
      where
        now : IsNowIf given call.name call.party call.call plugin_thing
        now is = well.so_far.named.own_now call (fresh-now seen fresh is)

        made-thing : (c : Call) → is_making c ≡ true → plugin_thing_at call.name call.party c ≡ Some plugin_thing → plugin_thing ≡ Exists call.name
        made-thing (calls.CreateVolume create required limit capabilities) making e = sym (same_Some (Exists call.name) plugin_thing e)
        made-thing c making e = absurd (false≢true making)

        not-past : (k : PluginThing) → plugin_thing ≡ k → is_past_name (over_at world) k call.number ≡ false
        not-past (Exists name) is =
            let exists = exists-own name is in
            ap (λ k. is_past world.history k call.number) (sym is ∙ exists) ∙ well.so_far.timed.since (Exists call.name) call (fresh-now seen fresh exists)
        not-past thing is = refl

    -- a plugin carried the call out
    acts-effects : thing_seen world.controller call.party call.call ≡ Some plugin_thing → Acts plugin_thing (delivery_of call kind reply) (plugin_view world (party_of plugin_thing)) (plugin_view next (party_of plugin_thing))
        → AreEffects given more plugin_thing kind reply
    acts-effects seen plugin =
        let acts = acts-all world next plugin_thing (delivery_of call kind reply) only plugin in
        let plain = effect-acts (issued_in world.history.items) world.frames (view_of world) (view_of next) call plugin_thing kind reply well.so_far.truth.kept among of
        (kept-either world next call plugin_thing kind reply of_party only plugin.keeps) acts in
        record {
          plain = plain;
          told = told-effect (fresh-known seen) plain;
          met = λ ok. inr ((λ here. acts.done ok), spent-told (acts.spent ok));
          changes = λ name. ⊎_elim (λ same. inl same) (λ changed. inr (changed, fresh-now seen changed.fresh (exists-own name (sym changed.same)))) (plain.held (Exists name));
        }

    -- it didn't, since the number was spent
    rests-effects : Rests plugin_thing (delivery_of call kind reply) (plugin_view world (party_of plugin_thing)) (plugin_view next (party_of plugin_thing)) → AreEffects given more plugin_thing kind reply
    rests-effects plugin =
        let rests = rests-all world next plugin_thing (delivery_of call kind reply) only plugin in
        let plain = effect-rests (issued_in world.history.items) world.frames (view_of world) (view_of next) call plugin_thing kind reply well.so_far.truth.kept
        (λ ok. well.so_far.truth.ids call.number call.party kind reply (sent rests ok) ok) among of rests in
        record {
          plain = plain;
          told = told-effect (λ fresh. absurd (false≢true (sym fresh ∙ rests.was_spent))) plain;
          met = λ ok. inl (sent rests ok);
          changes = λ name. inl (rests.same.held (Exists name));
        }
      where
        sent : Rests plugin_thing (delivery_of call kind reply) (view_of world) (view_of next) → reply.status ≡ Ok → IsAmong (answer_to call kind reply) world.frames
        sent rests ok =
            subst (λ p. IsAmong (reply_frame call.number p kind reply) world.frames) of_party
            (⊎_elim (λ there. there) (λ none. let counted = well.so_far.timed.counted call among in absurd (omega (arith, none, counted)))
            (well.so_far.truth.kept plugin_thing (kept_of (delivery_of call kind reply)) (rests.was_kept ok)))

    -- it doesn't have the call's volume, which was forgotten; or the call was sent before the orchestrator forgot the name
    abbrev IsMissing : Type 0
    IsMissing = (AreGiven more → IsGone more controller plugin_thing) ⊎ ((plugin_thing ≡ Exists call.name) × IsAmong call (calls_before (Exists call.name) world.history.items))

    misses-effects : IsMissing → Misses (delivery_of call kind reply) (plugin_view world (party_of plugin_thing)) (plugin_view next (party_of plugin_thing)) → AreEffects given more plugin_thing kind reply
    misses-effects missing plugin =
        let misses = misses-all (party_of plugin_thing) world next (delivery_of call kind reply) only plugin in
        let still = kept-either world next call plugin_thing kind reply of_party only (λ other. ⊎_elim (λ same. inl same) (λ none. inr (inr none)) (plugin.keeps other)) in
        let plain = effect-misses (issued_in world.history.items) world.frames (view_of world) (view_of next) call plugin_thing kind reply well.so_far.truth.kept among of still misses in
        record {
          plain = plain;
          told = record { among = among; of = of; rule = plain.rule; kept = plain.kept; spent = still-told plain.spent; held = λ k. inl (misses.held k) };
          met = λ ok. inr (met missing (given-once given more plugin_thing kind reply well following plain) (misses.undoes ok));
          changes = λ name. inl (misses.held (Exists name));
        }
      where
        met : IsMissing → AreGiven more → asked call.call reply ≡ None
            → (IsAmong call (calls_since plugin_thing world.history.items) → (view_of next).held plugin_thing ≡ asked call.call reply) × IsTrue ((told_by more next).is_spent plugin_thing call.number)
        met (inl missing) are undoes =
            let gone = missing are in
            let none = gone-held next more plugin_thing gone.one are following.of live_next gone.among gone.of gone.gone in
            let forgotten = gone-forgotten more controller plugin_thing gone.one gone.among gone.of gone.gone in (
              (λ here. none ∙ sym undoes),
              or_right ((view_of next).is_spent plugin_thing call.number) (is_told more next plugin_thing call.number)
                  (or_left (is_forgotten more controller plugin_thing) (is_past_name (over_at world) plugin_thing call.number) forgotten),
            )
        met (inr (exists, earlier)) are undoes =
            let past : is_past world.history (Exists call.name) call.number ≡ true = well.so_far.timed.before (Exists call.name) call earlier in (
              (λ here.
                  let since = subst (λ k. IsAmong call (calls_since k world.history.items)) exists here in
                  absurd (false≢true (sym (well.so_far.timed.since (Exists call.name) call since) ∙ past))),
              or_right ((view_of next).is_spent plugin_thing call.number) (is_told more next plugin_thing call.number)
                  (or_right (is_forgotten more controller plugin_thing) (is_past_name (over_at world) plugin_thing call.number) (ap (λ k. is_past_name (over_at world) k call.number) exists ∙ past)),
            )

    -- a volume that isn't there before isn't there afterwards
    gone-still : IsGone given world.controller plugin_thing → IsGone more controller plugin_thing
    gone-still was =
        record {
          one = was.one;
          among = following.wider was.one was.among;
          of = was.of;
          gone = stays-gone world.controller controller given was.one keeps well.of_controller was.among was.gone;
        }

    -- a call of before its name was forgotten, or one that was sent since, where it is of whether a volume is there
    old-or-now : ((plugin_thing ≡ Exists call.name) × IsAmong call (calls_before (Exists call.name) world.history.items)) ⊎ IsNowIf given call.name call.party call.call plugin_thing
    old-or-now = by plugin_thing refl
      where
        by : (k : PluginThing) → plugin_thing ≡ k → ((plugin_thing ≡ Exists call.name) × IsAmong call (calls_before (Exists call.name) world.history.items)) ⊎ IsNowIf given call.name call.party call.call plugin_thing
        by (Exists name) is =
            ⊎_elim (λ here. inr (λ same. well.so_far.named.own_now call here)) (λ earlier. inl (exists-own name is, earlier)) (since-or-before (Exists call.name) world.history.items call among)
        by (Attached id node) is = inr (λ same. absurd (clash (sym is ∙ same)))
          where
            clash : Attached id node ≡ Exists call.name → ⊥
            clash e = cc
        by (Staged id node) is = inr (λ same. absurd (clash (sym is ∙ same)))
          where
            clash : Staged id node ≡ Exists call.name → ⊥
            clash e = cc
        by (Published id node target) is = inr (λ same. absurd (clash (sym is ∙ same)))
          where
            clash : Published id node target ≡ Exists call.name → ⊥
            clash e = cc

    -- where the plugin saw none before, its volume is missing
    missing-before : thing_seen world.controller call.party call.call ≡ None → IsMissing
    missing-before none =
        ⊎_elim (λ old. inr old) (λ now. inl (λ are. gone-still (unseen-gone given world.controller well.so_far.are_given well.of_controller call.name call.party call.call plugin_thing mine now of_plugin_thing none))) old-or-now

    -- and so it is where it sees none afterwards
    missing-after : thing_seen controller call.party call.call ≡ None → IsMissing
    missing-after none =
        ⊎_elim (λ old. inr old) (λ now. inl (λ are.
        unseen-gone more controller are following.of call.name call.party call.call plugin_thing (for-weaker (HasName given) (HasName more) call.name (λ id has. gives-names given more call.name id following.wider has) call.party call.call mine)
        (λ is. for-weaker (HasNow given) (HasNow more) call.name (λ id has. following.wider _ has) call.party call.call (now is)) of_plugin_thing none)) old-or-now

    -- by the thing by which the plugin answers it
    pub effects : (thing : Option PluginThing) → IsAnsweredBy world.controller controller call.party call.call thing
        → CallBecomes thing (delivery_of call kind reply) (plugin_view world (party_of plugin_thing)) (plugin_view next (party_of plugin_thing)) → AreEffects given more plugin_thing kind reply
    effects thing by becomes = at by (call-seen given world.controller well.so_far.are_given well.of_controller call.name call.party call.call plugin_thing mine of_plugin_thing)
      where
        becomes_at : (o : Option PluginThing) → thing ≡ o → CallBecomes o (delivery_of call kind reply) (plugin_view world (party_of plugin_thing)) (plugin_view next (party_of plugin_thing))
        becomes_at o e = subst (λ (x : Option PluginThing). CallBecomes x (delivery_of call kind reply) (plugin_view world (party_of plugin_thing)) (plugin_view next (party_of plugin_thing))) e becomes

        at : IsAnsweredBy world.controller controller call.party call.call thing → (thing_seen world.controller call.party call.call ≡ Some plugin_thing) ⊎ (thing_seen world.controller call.party call.call ≡ None)
            → AreEffects given more plugin_thing kind reply
        at (inl is) (inl seen) = ⊎_elim (acts-effects seen) rests-effects (becomes_at (Some plugin_thing) (is ∙ seen))
        at (inl is) (inr none) = misses-effects (missing-before none) (becomes_at None (is ∙ none))
        at (inr none) seen = misses-effects (missing-after none.1) (becomes_at None none.0)

  -- a name that was given an id since has a live volume
  pub given-live : (given more : List GivenId) → AreGivenNext world.controller controller given more → (name : List ℕ) (id : ℕ) → HasNow more name id
      → HasNow given name id ⊎ ((form : ThingForm) × ((view_of next).held (Exists name) ≡ Some form))
  given-live given more following name id has =
      ⊎_elim (λ was. inl was) (λ both.
      let newly = both.1 in
      let found = live-named controller newly.volume (following.of.names.by_name id newly.volume newly.is_found) newly.made.is_live in
      inr (HasId newly.volume.id, ap (option_map (λ (v : Volume). HasId v.id)) (subst (λ n. controllers.live_named n controller ≡ Some newly.volume) newly.has_name found))) (following.newer _ has)
