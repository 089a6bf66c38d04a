-- What is so of a world after its orchestrator forgot a name.
use Rattle.csi_world.proofs.Words.{◌≡◌, ◌⊎◌, ℕ, ◌<◌, List, [], ◌∷◌, map, Bool, true, false, cond, if◌then◌else◌}
use Rattle.csi_world.proofs.Words.{Option, Some, None, find, IsTrue, ◌==◌, ◌&&◌, refl, sym, ◌∙◌, ap, subst, inl, inr}
use Rattle.csi_world.proofs.Words.{⊎_elim, arith, Number, Capability, Call, Party, Reply, Status, IsBefore, same_text}
use Rattle.csi_world.proofs.Words.{PluginThing, Exists, Attached, Staged, Published, HasId, is_over, IsAmong, Volume}
use Rattle.csi_world.proofs.Words.{ControllerState, volume_with_id, No, Issued, touches, is_doing, Item, Accepted}
use Rattle.csi_world.proofs.Words.{Forgotten, History, with_items, since, issued_in, last_number, known, has_success}
use Rattle.csi_world.proofs.Words.{MayForget, World, node_state, with_history}
use Rattle.csi_world.proofs.Lemmas.{and_parts, false≢true, or_cases, or_left, or_right, nat_tests, none-some}
use Rattle.csi_world.proofs.Lemmas.{same_Some, same_text-tells, among-map, in-map, none_passes, none-from_map}
use Rattle.csi_types.specs.declared.call.Call.TheVariants as calls
use Rattle.csi_controller.specs.Public.View as controllers
use Rattle.csi_orchestrator.specs.declared.thing.Thing.TheVariants as things
use Rattle.csi_world.proofs.WorldView.{over_at, view_of}
use Rattle.csi_world.proofs.GivenIds.{GivenId, HasNow, HasOld, HasName, AreGiven, AreOf, now-given, unlive-ended, is_given, is_forgotten, gone-forgotten, forgotten-gone}
use Rattle.csi_world.proofs.CallThings.{IsAnsweredOk, IsOwnNow, IsOwnOld, Existence, plugin_thing_at, is_plugin_thing, is_of, is_making}
use Rattle.csi_world.proofs.Lifetimes.{ends, from, is_named, calls_since, calls_before, latest, calls-exists, since-or-before, is-over, timed-ended}
use Rattle.csi_world.proofs.NamedCalls.{for-weaker}
use Rattle.csi_world.proofs.SeenCalls.{thing_seen}
use Rattle.csi_world.proofs.CreatesFirst.{first-noted}
use Rattle.csi_world.proofs.NotLive.{ended-noted, ended-seen}
use Rattle.csi_world.proofs.Forgotten.{is_past_name, is_told, told_by, closed-told}
use Rattle.csi_world.proofs.HeardReplies.{known-no}
use Rattle.csi_world.proofs.RepliesTold.{IsSameThing, IsOver, AreEnding, truth-ended}
use Rattle.csi_world.proofs.StagedAttached.{stands-ended, stands-noted}
use Rattle.csi_world.proofs.KnownThings.{IsSoFar, IsUndone, no-undone, not-there, latest-told}
use Rattle.csi_world.proofs.RecordedRight.{IsWell}
use Rattle.csi_world.proofs.PluginsReached.{still-reached}
use Rattle.csi_world.proofs.Deliveries.{PluginLaws, all-closed}
use Rattle.csi_world.proofs.NodesLost.{node-held, node-spent, node-kept}
use Rattle.csi_world.proofs.RightWorlds.{IsLast, IsRight}

-- a pair of the name isn't its now
abbrev pub let_go : List ℕ → GivenId → GivenId
let_go name one = if same_text one.name name then record one { now = false } else one

-- a number that is the last one, or before it, and isn't its session's first, is of a session before where nothing was sent in it
pub earlier-session : (history : History) → IsLast history → ((call : Issued) → IsAmong call (issued_in history.items) → 0 < call.number.call) → (last_number history).call ≡ 0
    → (call : Issued) → IsAmong call (issued_in history.items) → call.number.session < (last_number history).session
earlier-session history last counted unused call among = by call.number (last_number history) (counted call among) unused (last call among)
  where
    by : (a b : Number) → 0 < a.call → b.call ≡ 0 → (a ≡ b) ⊎ IsBefore a b → a.session < b.session
    by a b more none (inl same) = absurd (clash a.call b.call more none (ap (λ (n : Number). n.call) same))
      where
        clash : (i j : ℕ) → 0 < i → j ≡ 0 → i ≡ j → ⊥
        clash i j more none same = omega arith
    by a b more none (inr before) = grind (arith, nat_tests)

-- texts that differ
differ : (a b : List ℕ) → same_text a b ≡ false → same_text b a ≡ false
differ a b h = grind (arith, false≢true, same_text-tells)

module _ (name : List ℕ) (given : List GivenId) where
  -- the pairs once the name is forgotten
  abbrev after : List GivenId
  after = map (let_go name) given

  -- what is let go keeps its id
  let_go-id : (one : GivenId) → (let_go name one).id ≡ one.id
  let_go-id one = by (same_text one.name name)
    where
      by : (b : Bool) → (cond b (let g : GivenId = record one { now = false } in g) one).id ≡ one.id
      by true = refl
      by false = refl

  -- a pair of another name stays
  other-stays : (one : GivenId) → same_text one.name name ≡ false → let_go name one ≡ one
  other-stays one e = ap (λ b. cond b (let g : GivenId = record one { now = false } in g) one) e

  -- one of the name isn't now
  own-goes : (one : GivenId) → same_text one.name name ≡ true → let_go name one ≡ record one { now = false }
  own-goes one e = ap (λ b. cond b (let g : GivenId = record one { now = false } in g) one) e

  -- an id that a name has now it had, and it is another name
  pub now-before : (other : List ℕ) (id : ℕ) → HasNow after other id → HasNow given other id × (same_text other name ≡ false)
  now-before other id has = let from = among-map (let_go name) given _ has in by from.0 from.1 from.2 (same_text (from.0).name name) refl
    where
      pair : GivenId
      pair = record { name = other; id = id; now = true }

      by : (one : GivenId) → IsAmong one given → pair ≡ let_go name one → (b : Bool) → same_text one.name name ≡ b → HasNow given other id × (same_text other name ≡ false)
      by one among is true e = absurd (false≢true (sym (ap (λ (g : GivenId). g.now) (is ∙ own-goes one e))))
      by one among is false e =
          let same : pair ≡ one = is ∙ other-stays one e in
          (subst (λ (g : GivenId). IsAmong g given) (sym same) among, ap (λ (g : GivenId). same_text g.name name) same ∙ e)

  -- an id that a name had it had before, or it had it now and was forgotten
  pub old-before : (other : List ℕ) (id : ℕ) → HasOld after other id → HasOld given other id ⊎ (HasNow given other id × (other ≡ name))
  old-before other id had = let from = among-map (let_go name) given _ had in by from.0 from.1 from.2 (same_text (from.0).name name) refl
    where
      pair : GivenId
      pair = record { name = other; id = id; now = false }

      of-name : (one : GivenId) → IsAmong one given → pair ≡ record one { now = false } → same_text one.name name ≡ true → (b : Bool) → one.now ≡ b → HasOld given other id ⊎ (HasNow given other id × (other ≡ name))
      of-name one among is e b now =
          let named : other ≡ one.name = ap (λ (g : GivenId). g.name) is in
          let its : id ≡ one.id = ap (λ (g : GivenId). g.id) is in
          let there : IsAmong {X = GivenId} (record { name = other; id = id; now = b }) given = subst (λ (g : GivenId). IsAmong g given) (λ i. record { name = sym named i; id = sym its i; now = now i }) among in
          which b there (named ∙ (same_text-tells one.name name).0 e)
        where
          which : (b : Bool) → IsAmong {X = GivenId} (record { name = other; id = id; now = b }) given → other ≡ name → HasOld given other id ⊎ (HasNow given other id × (other ≡ name))
          which true there same = inr (there, same)
          which false there same = inl there

      by : (one : GivenId) → IsAmong one given → pair ≡ let_go name one → (b : Bool) → same_text one.name name ≡ b → HasOld given other id ⊎ (HasNow given other id × (other ≡ name))
      by one among is true e = of-name one among (is ∙ own-goes one e) e one.now refl
      by one among is false e = inl (subst (λ (g : GivenId). IsAmong g given) (sym (is ∙ other-stays one e)) among)

  -- so each name's id it had
  pub name-before : (other : List ℕ) (id : ℕ) → HasName after other id → HasName given other id
  name-before other id (inl has) = inl (now-before other id has).0
  name-before other id (inr had) = ⊎_elim (λ old. inr old) (λ now. inl now.0) (old-before other id had)

  -- what another name has now it has still
  pub now-after : (other : List ℕ) (id : ℕ) → same_text other name ≡ false → HasNow given other id → HasNow after other id
  now-after other id differs has = subst (λ (g : GivenId). IsAmong g after) (other-stays _ differs) (in-map (let_go name) given _ has)

  -- what a name had it had still
  pub old-after : (other : List ℕ) (id : ℕ) → HasOld given other id → HasOld after other id
  old-after other id had = subst (λ (g : GivenId). IsAmong g after) (by (same_text other name) refl) (in-map (let_go name) given _ had)
    where
      by : (b : Bool) → same_text other name ≡ b → cond b (let g : GivenId = record { name = other; id = id; now = false } in g) (record { name = other; id = id; now = false }) ≡ record { name = other; id = id; now = false }
      by true e = refl
      by false e = refl

  -- what the name had now it had
  pub gone-after : (id : ℕ) → HasNow given name id → HasOld after name id
  gone-after id has = subst (λ (g : GivenId). IsAmong g after) (own-goes _ ((same_text-tells name name).1 refl)) (in-map (let_go name) given _ has)

  -- and each name's id it has still
  pub name-after : (other : List ℕ) (id : ℕ) → HasName given other id → HasName after other id
  name-after other id (inr had) = inr (old-after other id had)
  name-after other id (inl has) = by (same_text other name) refl
    where
      by : (b : Bool) → same_text other name ≡ b → HasName after other id
      by true e = let same = (same_text-tells other name).0 e in inr (subst (λ n. HasOld after n id) (sym same) (gone-after id (subst (λ n. HasNow given n id) same has)))
      by false e = inl (now-after other id e has)

  -- each name has one id now still
  pub given-after : AreGiven given → AreGiven after
  given-after are =
      record {
        one_id = λ other i j hi hj. are.one_id other i j (now-before other i hi).0 (now-before other j hj).0;
        one_name = λ a b id ha hb. are.one_name a b id (name-before a id ha) (name-before b id hb);
        apart = λ other id has had.
            let now = now-before other id has in
            ⊎_elim (λ old. are.apart other id now.0 old) (λ own. false≢true (sym now.1 ∙ (same_text-tells other name).1 own.1)) (old-before other id had);
      }

  -- and so the ids are the controller's, where the name has no live volume
  pub of-after : (controller : ControllerState) → AreGiven given → AreOf controller given → controllers.live_named name controller ≡ None → AreOf controller after
  of-after controller are of none =
      record {
        names = of.names;
        below = λ other id has. of.below other id (name-before other id has);
        listed = λ id volume is. name-after volume.name volume.id (of.listed id volume is);
        ended = λ other id had.
            ⊎_elim (λ old. of.ended other id old) (λ own. unlive-ended controller given name id are of (subst (λ n. HasNow given n id) own.1 own.0) none) (old-before other id had);
      }

  -- a thing that isn't of the name is forgotten still
  pub forgotten-after : (controller : ControllerState) (thing : PluginThing) → is_named name thing ≡ false → is_forgotten given controller thing ≡ true → is_forgotten after controller thing ≡ true
  forgotten-after controller thing other h =
      let found = forgotten-gone given controller thing h in
      gone-forgotten after controller thing (let_go name found.0) (in-map (let_go name) given found.0 found.1) (for thing other found.0 found.2)
      (ap (λ n. volume_with_id n controller) (let_go-id found.0) ∙ found.3)
    where
      for : (thing : PluginThing) → is_named name thing ≡ false → (one : GivenId) → is_given thing one ≡ true → is_given thing (let_go name one) ≡ true
      for (Exists n) other one is =
          let parts = and_parts (same_text one.name n) one.now is in
          let differs : same_text one.name name ≡ false = ap (λ m. same_text m name) ((same_text-tells one.name n).0 parts.0) ∙ differ name n other in
          ap (λ (g : GivenId). same_text g.name n && g.now) (other-stays one differs) ∙ is
      for (Attached id node) other one is = ap (λ n. n == id) (let_go-id one) ∙ is
      for (Staged id node) other one is = absurd (false≢true is)
      for (Published id node target) other one is = absurd (false≢true is)

-- a call for its name's volume now of whether it is there makes one, or its volume isn't seen where the controller doesn't have it
unseen-gone_now : (given : List GivenId) (controller : ControllerState) (name : List ℕ) (party : Party) (call : Call) (id : ℕ) → AreGiven given → IsOwnNow given name party call → is_plugin_thing (Exists name) (plugin_thing_at name party call) ≡ true
    → HasNow given name id → volume_with_id id controller ≡ None → (is_making call ≡ true) ⊎ (thing_seen controller party call ≡ None)
unseen-gone_now given controller name party call id are own is has gone = grind (arith, false≢true)

-- a world of which all is so that is kept of every world, and a name that may be forgotten
module _ (laws : PluginLaws) (world : World) (right : IsRight world) (name : List ℕ) (may : MayForget world.history name) where
  -- the ids that were given
  abbrev given : List GivenId
  given = right.good.given

  -- those once it is forgotten
  abbrev later : List GivenId
  later = map (let_go name) given

  well : IsWell world given
  well = right.good.well

  so_far : IsSoFar world.history world.frames (told_by given world) given
  so_far = well.so_far

  abbrev items : List Item
  items = world.history.items

  abbrev item : Item
  item = Forgotten name

  -- the world once it is forgotten
  abbrev next : World
  next = with_history (item ∷ []) world

  -- each call is of an earlier session
  earlier : (call : Issued) → IsAmong call (issued_in items) → call.number.session < (last_number world.history).session
  earlier = earlier-session world.history right.last so_far.timed.counted may.unused

  -- the volume isn't there
  gone : (view_of world).held (Exists name) ≡ None
  gone = not-there world.history world.frames (told_by given world) given so_far (things.Exists name) (Exists name) (Existence name) may.gone

  unlive : controllers.live_named name world.controller ≡ None
  unlive = none-from_map (λ (volume : Volume). HasId volume.id) (controllers.live_named name world.controller) gone

  -- each thing is as it was, but for whether the volume of the name is there
  ending : AreEnding (issued_in items) (latest items) (latest (item ∷ items)) (told_by given world) (told_by later next)
  ending (Exists n) = by (same_text name n) refl
    where
      by : (b : Bool) → same_text name n ≡ b
          → IsSameThing (issued_in items) (latest items) (latest (item ∷ items)) (told_by given world) (told_by later next) (Exists n) ⊎ IsOver (issued_in items) (latest (item ∷ items)) (told_by given world) (told_by later next) (Exists n)
      by true e =
          inr (record {
            latest = ap (λ b. find (is_of (Exists n)) (issued_in (cond b [] (item ∷ since (ends (Exists n)) items)))) e;
            held = ap (view_of world).held (ap Exists (sym ((same_text-tells name n).0 e))) ∙ gone;
            spent = λ call among of.
                or_right ((view_of next).is_spent (Exists n) call.number) (is_told later next (Exists n) call.number)
                (or_right (is_forgotten later world.controller (Exists n)) (is_past_name (over_at next) (Exists n) call.number)
                (subst (λ b. IsTrue (is_over (cond b (last_number world.history).session (over_at world (Exists n))) call.number)) (sym e) (is-over (last_number world.history).session call.number (earlier call among))));
            kept = λ x is. is;
          })
      by false e =
          inl (record {
            latest = ap (λ b. find (is_of (Exists n)) (issued_in (cond b [] (item ∷ since (ends (Exists n)) items)))) e;
            held = refl;
            spent = λ call among of spent.
                ⊎_elim (λ plain. or_left ((view_of next).is_spent (Exists n) call.number) (is_told later next (Exists n) call.number) plain) (λ told.
                or_right ((view_of next).is_spent (Exists n) call.number) (is_told later next (Exists n) call.number)
                (⊎_elim (λ forgotten. or_left (is_forgotten later world.controller (Exists n)) (is_past_name (over_at next) (Exists n) call.number) (forgotten-after name given world.controller (Exists n) e forgotten)) (λ past.
                or_right (is_forgotten later world.controller (Exists n)) (is_past_name (over_at next) (Exists n) call.number)
                (subst (λ b. IsTrue (is_over (cond b (last_number world.history).session (over_at world (Exists n))) call.number)) (sym e) past))
                (or_cases (is_forgotten given world.controller (Exists n)) (is_past_name (over_at world) (Exists n) call.number) told)))
                (or_cases ((view_of world).is_spent (Exists n) call.number) (is_told given world (Exists n) call.number) spent);
            kept = λ x is. is;
          })
  ending (Attached id node) =
      inl (record {
        latest = refl;
        held = refl;
        spent = λ call among of spent.
            ⊎_elim (λ plain. or_left ((view_of next).is_spent (Attached id node) call.number) (is_told later next (Attached id node) call.number) plain) (λ told.
            or_right ((view_of next).is_spent (Attached id node) call.number) (is_told later next (Attached id node) call.number)
            (⊎_elim (λ forgotten. or_left (is_forgotten later world.controller (Attached id node)) false (forgotten-after name given world.controller (Attached id node) refl forgotten)) (λ past. absurd (false≢true past))
            (or_cases (is_forgotten given world.controller (Attached id node)) false told)))
            (or_cases ((view_of world).is_spent (Attached id node) call.number) (is_told given world (Attached id node) call.number) spent);
        kept = λ x is. is;
      })
  ending (Staged id node) =
      inl (record {
        latest = refl;
        held = node-held node (over_at next) (over_at world) (node_state node world) (Staged id node);
        spent = λ call among of spent.
            ⊎_elim (λ plain. or_left ((view_of next).is_spent (Staged id node) call.number) (is_told later next (Staged id node) call.number)
            (node-spent node (over_at next) (over_at world) (node_state node world) (Staged id node) call.number refl ∙ plain)) (λ told.
            or_right ((view_of next).is_spent (Staged id node) call.number) (is_told later next (Staged id node) call.number)
            (⊎_elim (λ forgotten. or_left (is_forgotten later world.controller (Staged id node)) false (forgotten-after name given world.controller (Staged id node) refl forgotten)) (λ past. absurd (false≢true past))
            (or_cases (is_forgotten given world.controller (Staged id node)) false told)))
            (or_cases ((view_of world).is_spent (Staged id node) call.number) (is_told given world (Staged id node) call.number) spent);
        kept = λ x is. sym (node-kept node (over_at next) (over_at world) (node_state node world) (Staged id node)) ∙ is;
      })
  ending (Published id node target) =
      inl (record {
        latest = refl;
        held = node-held node (over_at next) (over_at world) (node_state node world) (Published id node target);
        spent = λ call among of spent.
            ⊎_elim (λ plain. or_left ((view_of next).is_spent (Published id node target) call.number) (is_told later next (Published id node target) call.number)
            (node-spent node (over_at next) (over_at world) (node_state node world) (Published id node target) call.number refl ∙ plain)) (λ told.
            or_right ((view_of next).is_spent (Published id node target) call.number) (is_told later next (Published id node target) call.number)
            (⊎_elim (λ forgotten. or_left (is_forgotten later world.controller (Published id node target)) false (forgotten-after name given world.controller (Published id node target) refl forgotten)) (λ past. absurd (false≢true past))
            (or_cases (is_forgotten given world.controller (Published id node target)) false told)))
            (or_cases ((view_of world).is_spent (Published id node target) call.number) (is_told given world (Published id node target) call.number) spent);
        kept = λ x is. sym (node-kept node (over_at next) (over_at world) (node_state node world) (Published id node target)) ∙ is;
      })

  -- the calls of a name since it was forgotten, and those before
  since-other : (n : List ℕ) → same_text name n ≡ false → calls_since (Exists n) (item ∷ items) ≡ calls_since (Exists n) items
  since-other n e = ap (λ b. issued_in (cond b [] (item ∷ since (ends (Exists n)) items))) e

  since-own : (n : List ℕ) → same_text name n ≡ true → calls_since (Exists n) (item ∷ items) ≡ []
  since-own n e = ap (λ b. issued_in (cond b [] (item ∷ since (ends (Exists n)) items))) e

  before-other : (n : List ℕ) → same_text name n ≡ false → calls_before (Exists n) (item ∷ items) ≡ calls_before (Exists n) items
  before-other n e = ap (λ b. issued_in (cond b (item ∷ items) (from (ends (Exists n)) items))) e

  before-own : (n : List ℕ) → same_text name n ≡ true → calls_before (Exists n) (item ∷ items) ≡ issued_in items
  before-own n e = ap (λ b. issued_in (cond b (item ∷ items) (from (ends (Exists n)) items))) e

  -- the name is the one that is forgotten
  is-name : (n : List ℕ) → same_text name n ≡ true → n ≡ name
  is-name n e = sym ((same_text-tells name n).0 e)

  -- a call that was sent since its name was forgotten is for the volume that has it now
  own-now : (call : Issued) (b : Bool) → same_text name call.name ≡ b → IsAmong call (calls_since (Exists call.name) (item ∷ items)) → IsOwnNow later call.name call.party call.call
  own-now call true e among = absurd (subst (IsAmong call) (since-own call.name e) among)
  own-now call false e among =
      for-weaker (HasNow given) (HasNow later) call.name (λ id has. now-after name given call.name id (differ name call.name e) has) call.party call.call
      (so_far.named.own_now call (subst (IsAmong call) (since-other call.name e) among))

  -- and one before that for one that had it
  own-old : (call : Issued) (b : Bool) → same_text name call.name ≡ b → IsAmong call (calls_before (Exists call.name) (item ∷ items)) → IsOwnOld later call.name call.party call.call
  own-old call true e among =
      let there = subst (IsAmong call) (before-own call.name e) among in
      ⊎_elim (λ here. for-weaker (HasNow given) (HasOld later) call.name (λ id has. subst (λ n. HasOld later n id) (sym (is-name call.name e)) (gone-after name given id (subst (λ n. HasNow given n id) (is-name call.name e) has))) call.party call.call (so_far.named.own_now call here))
      (λ before. for-weaker (HasOld given) (HasOld later) call.name (λ id had. old-after name given call.name id had) call.party call.call (so_far.named.own_old call before)) (since-or-before (Exists call.name) items call there)
  own-old call false e among =
      for-weaker (HasOld given) (HasOld later) call.name (λ id had. old-after name given call.name id had) call.party call.call (so_far.named.own_old call (subst (IsAmong call) (before-other call.name e) among))

  -- an OK to CreateVolume has the id that its name has now
  made : (call : Issued) (reply : Reply) (id : ℕ) (create : List ℕ) (required limit : ℕ) (capabilities : List Capability) (b : Bool) → same_text name call.name ≡ b → IsAmong call (calls_since (Exists call.name) (item ∷ items))
      → call.call ≡ calls.CreateVolume create required limit capabilities → IsAnsweredOk world.frames call reply → reply.id ≡ Some id → HasNow later call.name id
  made call reply id create required limit capabilities true e among is ok has = absurd (subst (IsAmong call) (since-own call.name e) among)
  made call reply id create required limit capabilities false e among is ok has =
      now-after name given call.name id (differ name call.name e) (so_far.named.made call reply id create required limit capabilities (subst (IsAmong call) (since-other call.name e) among) is ok has)

  -- each call of whether the volume of the name is there is spent, or finds none
  own-spent : (call : Issued) → call.name ≡ name → IsAmong call (issued_in items) → is_of (Exists call.name) call ≡ true
      → IsTrue ((view_of world).is_spent (Exists call.name) call.number) ⊎ (thing_seen world.controller call.party call.call ≡ None)
  own-spent call named among of = ⊎_elim since (λ before. well.old_spent call before of) (since-or-before (Exists call.name) items call among)
    where
      exists : PluginThing
      exists = Exists call.name

      undone : IsUndone world.history exists
      undone = subst (λ n. IsUndone world.history (Exists n)) (sym named) (no-undone world.history world.frames (told_by given world) given so_far (things.Exists name) (Exists name) (Existence name) may.gone)

      -- what is told to be spent is, or was forgotten by the controller
      told : IsAmong call (calls_since exists items) → IsTrue ((told_by given world).is_spent exists call.number) → IsTrue ((view_of world).is_spent exists call.number) ⊎ (thing_seen world.controller call.party call.call ≡ None)
      told here spent =
          ⊎_elim (λ plain. inl plain) (λ forgotten.
          ⊎_elim (λ away. by (forgotten-gone given world.controller exists away)) (λ past. absurd (false≢true (sym (so_far.timed.since exists call here) ∙ past)))
          (or_cases (is_forgotten given world.controller exists) (is_past_name (over_at world) exists call.number) forgotten))
          (or_cases ((view_of world).is_spent exists call.number) (is_told given world exists call.number) spent)
        where
          by : (one : GivenId) × IsAmong one given × (is_given exists one ≡ true) × (volume_with_id one.id world.controller ≡ None)
              → IsTrue ((view_of world).is_spent exists call.number) ⊎ (thing_seen world.controller call.party call.call ≡ None)
          by (one, there, for, away) =
              let parts = and_parts (same_text one.name call.name) one.now for in
              let has : HasNow given call.name one.id = subst (λ n. HasNow given n one.id) ((same_text-tells one.name call.name).0 parts.0) (now-given given one there parts.1) in
              ⊎_elim (λ making. inl ((well.ended call.name one.id has (ap (λ n. (view_of world).held (Exists n)) named ∙ gone)).spent call among refl making)) (λ none. inr none)
              (unseen-gone_now given world.controller call.name call.party call.call one.id so_far.are_given (so_far.named.own_now call here) of has away)

      -- the latest one was answered OK, so all before it are told to be spent
      last-spent : (last : Issued) → latest items exists ≡ Some last → has_success items last.number ≡ true → IsTrue ((told_by given world).is_spent exists last.number)
      last-spent last is success =
          let answered = latest-told world.history world.frames (told_by given world) given so_far exists last is success in
          let found = so_far.truth.found exists last is in
          so_far.truth.spent last exists answered.0 found.0 found.1 answered.1

      since : IsAmong call (calls_since exists items) → IsTrue ((view_of world).is_spent exists call.number) ⊎ (thing_seen world.controller call.party call.call ≡ None)
      since here = by undone
        where
          by : IsUndone world.history exists → IsTrue ((view_of world).is_spent exists call.number) ⊎ (thing_seen world.controller call.party call.call ≡ None)
          by (inl none) = absurd (false≢true (sym (none_passes (is_of exists) (calls_since exists items) call none here) ∙ of))
          by (inr last) =
              told here (⊎_elim (λ no_later.
              let same : no_later.0 ≡ last.0 = same_Some no_later.0 last.0 (sym no_later.1 ∙ last.1) in
              let spent = last-spent last.0 last.1 last.2 in
              ⊎_elim (λ e. subst (λ (x : Issued). IsTrue ((told_by given world).is_spent exists x.number)) (sym (e ∙ same)) spent)
              (λ before. so_far.closed exists call.number (last.0).number (subst (λ (x : Issued). IsBefore call.number x.number) same before) spent) no_later.2)
              (λ spent. spent) (so_far.truth.order call exists among of))

  -- so it is of each call of before its name was forgotten
  old-spent : (call : Issued) (b : Bool) → same_text name call.name ≡ b → IsAmong call (calls_before (Exists call.name) (item ∷ items)) → is_of (Exists call.name) call ≡ true
      → IsTrue ((view_of world).is_spent (Exists call.name) call.number) ⊎ (thing_seen world.controller call.party call.call ≡ None)
  old-spent call true e among of = own-spent call (is-name call.name e) (subst (IsAmong call) (before-own call.name e) among) of
  old-spent call false e among of = well.old_spent call (subst (IsAmong call) (before-other call.name e) among) of

  -- the latest call of whether the volume of a forgotten name was there deleted it
  undone : (n : List ℕ) (call : Issued) (b : Bool) → same_text name n ≡ b → find (touches (things.Exists n)) (calls_before (Exists n) (item ∷ items)) ≡ Some call → is_doing call.call ≡ false
  undone n call true e found =
      let all = ap (find (touches (things.Exists n))) (calls-exists n items) ∙ sym (ap (find (touches (things.Exists n))) (before-own n e)) ∙ found in
      ⊎_elim (λ none. absurd (none-some call (sym none ∙ all))) (λ last. ap (λ (x : Issued). is_doing x.call) (sym (same_Some last.0 call (sym last.1.found ∙ all))) ∙ last.1.is_so)
      (known-no world.history (things.Exists n) (subst (λ m. known world.history (things.Exists m) ≡ No) (sym (is-name n e)) may.gone))
  undone n call false e found = so_far.undone n call (ap (find (touches (things.Exists n))) (sym (before-other n e)) ∙ found)

  -- the name is forgotten
  pub forgets-right : IsRight next
  unfolding so_far well
  forgets-right =
      record {
        good = record {
          reached = still-reached world world.config world.frames (with_items world.history (item ∷ [])) right.good.reached;
          given = later;
          floor = record { controller = right.good.floor.controller; nodes = right.good.floor.nodes; last = right.good.floor.last };
          well = record {
            so_far = record {
              floor = so_far.floor;
              truth = truth-ended so_far.floor (issued_in items) (latest items) (latest (item ∷ items)) world.frames (told_by given world) (told_by later next) ending so_far.truth;
              closed = closed-told later next (all-closed laws next);
              named = record {
                own_now = λ call among. own-now call (same_text name call.name) refl among;
                own_old = λ call among. own-old call (same_text name call.name) refl among;
                made = λ call reply id create required limit capabilities among is ok has. made call reply id create required limit capabilities (same_text name call.name) refl among is ok has;
              };
              are_given = given-after name given so_far.are_given;
              heard = λ number status id among. ⊎_elim (λ e. absurd (clash number status id e)) (λ there. so_far.heard number status id there) among;
              stands = stands-noted items item (told_by later next) refl (λ id node. refl) (stands-ended items (latest items) (latest (item ∷ items)) (told_by given world) (told_by later next) ending so_far.stands);
              timed = timed-ended world.history.began items item refl refl earlier so_far.timed;
              undone = λ n call found. undone n call (same_text name n) refl found;
            };
            of_controller = of-after name given world.controller so_far.are_given well.of_controller unlive;
            creates = first-noted items item refl (λ n. leaves n (same_text name n) refl) well.creates;
            ended = ended-seen later (item ∷ items) (view_of world) (view_of next) (λ n. refl) (λ n number spent. spent)
                (ended-noted given later items item (view_of world) refl (λ n id has. let now = now-before name given n id has in (now.0, since-other n (differ n name now.1))) well.ended);
            old_spent = λ call among of. old-spent call (same_text name call.name) refl among of;
          };
        };
        last = right.last;
      }
    where
      clash : (number : Number) (status : Status) (id : Option ℕ) → Accepted number status id ≡ Forgotten name → ⊥
      clash number status id e = cc

      leaves : (n : List ℕ) (b : Bool) → same_text name n ≡ b → (calls_since (Exists n) (item ∷ items) ≡ []) ⊎ (calls_since (Exists n) (item ∷ items) ≡ calls_since (Exists n) items)
      leaves n true e = inl (since-own n e)
      leaves n false e = inr (since-other n e)
