-- What the replies that were sent tell of the things: the latest call of a thing, if it was answered OK, left the thing
-- as it asks, and its number is spent. It is kept by a call that is sent, and by one that a plugin gets.
use Rattle.csi_world.proofs.Words.{◌≡◌, ◌⊎◌, ◌<◌, ◌≤◌, ℕ, List, [], ◌∷◌, ◌++◌, Bool, true, false, cond, Option, Some}
use Rattle.csi_world.proofs.Words.{None, is_some, IsTrue, refl, sym, ◌∙◌, ap, subst, inl, inr, ⊎_elim, arith, Number}
use Rattle.csi_world.proofs.Words.{Call, Kind, Party, Reply, kind_of, PluginView, Delivery, Acts, Rests, Misses}
use Rattle.csi_world.proofs.Words.{IsClosed, Kept, Frame, PluginThing, same_plugin_thing, asked, IsAmong, EachTwo}
use Rattle.csi_world.proofs.Words.{IsBefore, is_ok_status, has_id_by_rule, reply_frame, stale_reply, Issued, is_doing}
use Rattle.csi_world.proofs.Words.{frame_of}
use Rattle.csi_world.proofs.Lemmas.{false≢true, none-some, same_Some, some_is_not_none, is_some-map, all_of}
use Rattle.csi_world.proofs.Lemmas.{among-append, among-either, same_plugin_thing-tells}
use Rattle.csi_types.specs.declared.call.Call.TheVariants as calls
use Rattle.csi_types.specs.declared.frame.Body.TheVariants as bodies
use Rattle.csi_types.specs.declared.status.Status.TheVariants.{Ok}
use Rattle.csi_world.proofs.Parties.{party_of}
use Rattle.csi_world.proofs.HeardReplies.{is_ok-then}
use Rattle.csi_world.proofs.CallThings.{is_of, is_plugin_thing, plugin_thing_at, IsAnsweredOk, ComesAfter, before-irreflexive, one-number}

-- a call with this number was sent
pub record IsSent (issued : List Issued) (number : Number) : Type 0 where
  pub call : Issued
  pub among : IsAmong call issued
  pub has_number : call.number ≡ number

-- a frame is that of a sent call
pub record IsFrameOf (issued : List Issued) (frame : Frame) : Type 0 where
  pub call : Issued
  pub among : IsAmong call issued
  pub is : frame ≡ frame_of call

-- a call is the latest one of its thing, or was sent before it
abbrev pub IsNoLater : (PluginThing → Option Issued) → PluginThing → Issued → Type 0
IsNoLater latest thing call = (last : Issued) × (latest thing ≡ Some last) × ((call ≡ last) ⊎ IsBefore call.number last.number)

-- what is kept was sent; or it is of no call, since calls are numbered from 1 on
abbrev pub IsKeptOf : List Frame → Party → Kept → Type 0
IsKeptOf frames party kept = IsAmong (reply_frame kept.number party kept.kind kept.reply) frames ⊎ (kept.number.call ≡ 0)

-- so it is with more frames
pub kept-more : (frames more : List Frame) (party : Party) (kept : Kept) → IsKeptOf frames party kept → IsKeptOf (frames ++ more) party kept
kept-more frames more party kept (inl sent) = inl (among-append frames more (reply_frame kept.number party kept.kind kept.reply) sent)
kept-more frames more party kept (inr none) = inr none

-- what is so of the calls that were sent, of the latest one of each thing, of all frames, and of the things. Frames of sessions below the floor may be
-- of calls that this history doesn't have: their plugins have reached the floor, and carry none of them out
pub record Truth (floor : ℕ) (issued : List Issued) (latest : PluginThing → Option Issued) (frames : List Frame) (view : PluginView) : Type 0 where
  -- what was sent: calls that were issued, and replies to their numbers, an OK with an id where it must, what is kept
  -- among them
  pub calls : (frame : Frame) (call : Call) → IsAmong frame frames → frame.body ≡ bodies.Call call → IsFrameOf issued frame ⊎ (frame.number.session < floor)
  pub replies : (number : Number) (party : Party) (kind : Kind) (reply : Reply) → IsAmong (reply_frame number party kind reply) frames → IsSent issued number ⊎ (number.session < floor)
  pub ids : (number : Number) (party : Party) (kind : Kind) (reply : Reply) → IsAmong (reply_frame number party kind reply) frames → reply.status ≡ Ok → IsTrue (has_id_by_rule kind reply)
  pub kept : (thing : PluginThing) (kept : Kept) → view.kept thing ≡ Some kept → IsKeptOf frames (party_of thing) kept
  pub numbers : EachTwo ComesAfter issued
  -- the latest call of a thing was sent for it, and each other call of it was sent before that, or is spent
  pub found : (thing : PluginThing) (call : Issued) → latest thing ≡ Some call → IsAmong call issued × (is_of thing call ≡ true)
  pub order : (call : Issued) (thing : PluginThing) → IsAmong call issued → is_of thing call ≡ true → IsNoLater latest thing call ⊎ IsTrue (view.is_spent thing call.number)
  -- what was answered OK is spent; the latest call of a thing left it as it asks; a thing without one isn't there
  pub spent : (call : Issued) (thing : PluginThing) (reply : Reply) → IsAmong call issued → is_of thing call ≡ true → IsAnsweredOk frames call reply → IsTrue (view.is_spent thing call.number)
  pub told : (call : Issued) (thing : PluginThing) (reply : Reply) → latest thing ≡ Some call → IsAnsweredOk frames call reply → view.held thing ≡ asked call.call reply
  pub untouched : (thing : PluginThing) → latest thing ≡ None → view.held thing ≡ None

-- no reply is the frame of a call
reply_is_call : (number : Number) (party : Party) (kind : Kind) (reply : Reply) (call : Issued) → reply_frame number party kind reply ≡ frame_of call → ⊥
reply_is_call number party kind reply call e = clash (ap (λ (f : Frame). f.body) e)
  where
    clash : bodies.Reply kind reply ≡ bodies.Call call.call → ⊥
    clash h = cc

-- a reply among frames to which a call was added stood there before
pub before_call : (frames : List Frame) (call : Issued) (number : Number) (party : Party) (kind : Kind) (reply : Reply) → IsAmong (reply_frame number party kind reply) (frames ++ frame_of call ∷ []) → IsAmong (reply_frame number party kind reply) frames
before_call frames call number party kind reply among = ⊎_elim (λ there. there) (λ e. absurd (reply_is_call number party kind reply call e)) (among-either frames (frame_of call) _ among)

-- a new number has no reply
pub unanswered : (floor : ℕ) (issued : List Issued) (latest : PluginThing → Option Issued) (frames : List Frame) (view : PluginView) (call : Issued) (reply : Reply) → Truth floor issued latest frames view → floor ≤ call.number.session
    → ((older : Issued) → IsAmong older issued → IsBefore older.number call.number) → IsAnsweredOk (frames ++ frame_of call ∷ []) call reply → ⊥
unanswered floor issued latest frames view call reply truth above later ok =
    ⊎_elim (λ sent. before-irreflexive call.number (subst (λ n. IsBefore n call.number) sent.has_number (later sent.call sent.among))) (λ low. absurd (omega (arith, low, above)))
    (truth.replies call.number call.party (kind_of call.call) reply (before_call frames call call.number call.party (kind_of call.call) reply ok.0))

-- a call is sent
pub truth-sent : (floor : ℕ) (issued : List Issued) (latest : PluginThing → Option Issued) (frames : List Frame) (view : PluginView) (call : Issued) → Truth floor issued latest frames view → floor ≤ call.number.session
    → ((older : Issued) → IsAmong older issued → IsBefore older.number call.number) → Truth floor (call ∷ issued) (λ thing. cond (is_of thing call) (Some call) (latest thing)) (frames ++ frame_of call ∷ []) view
truth-sent floor issued latest frames view call truth above later =
    record {
      calls = λ frame c among is.
          ⊎_elim (λ there. ⊎_elim (λ old. inl (record { call = old.call; among = inr old.among; is = old.is })) (λ low. inr low) (truth.calls frame c there is)) (λ e. inl (record { call = call; among = inl refl; is = e }))
          (among-either frames (frame_of call) frame among);
      replies = λ number party kind reply among.
          ⊎_elim (λ sent. inl (record { call = sent.call; among = inr sent.among; has_number = sent.has_number })) (λ low. inr low)
          (truth.replies number party kind reply (before_call frames call number party kind reply among));
      ids = λ number party kind reply among. truth.ids number party kind reply (before_call frames call number party kind reply among);
      kept = λ thing kept is. kept-more frames (frame_of call ∷ []) (party_of thing) kept (truth.kept thing kept is);
      numbers = (all_of (ComesAfter call) issued later, truth.numbers);
      found = λ thing other is. found thing other (is_of thing call) refl is;
      order = λ other thing among of. order other thing among of (is_of thing call) refl;
      spent = λ other thing reply among of ok. spent other thing reply among of ok;
      told = λ other thing reply found ok. told other thing reply (is_of thing call) refl found ok;
      untouched = λ thing none. untouched thing (is_of thing call) refl none;
    }
  where
    older_ok : (other : Issued) (reply : Reply) → IsAnsweredOk (frames ++ frame_of call ∷ []) other reply → IsAnsweredOk frames other reply
    older_ok other reply ok = (before_call frames call other.number other.party (kind_of other.call) reply ok.0, ok.1)

    found : (thing : PluginThing) (other : Issued) (b : Bool) → is_of thing call ≡ b → cond b (Some call) (latest thing) ≡ Some other → IsAmong other (call ∷ issued) × (is_of thing other ≡ true)
    found thing other true of e = let same : other ≡ call = sym (same_Some call other e) in (inl same, ap (is_of thing) same ∙ of)
    found thing other false of e = let old = truth.found thing other e in (inr old.0, old.1)

    order : (other : Issued) (thing : PluginThing) → IsAmong other (call ∷ issued) → is_of thing other ≡ true → (b : Bool) → is_of thing call ≡ b
        → ((last : Issued) × (cond b (Some call) (latest thing) ≡ Some last) × ((other ≡ last) ⊎ IsBefore other.number last.number)) ⊎ IsTrue (view.is_spent thing other.number)
    order other thing (inl e) of true is = inl (call, refl, inl e)
    order other thing (inr there) of true is = inl (call, refl, inr (later other there))
    order other thing (inl e) of false is = absurd (false≢true (sym is ∙ ap (is_of thing) (sym e) ∙ of))
    order other thing (inr there) of false is = truth.order other thing there of

    spent : (other : Issued) (thing : PluginThing) (reply : Reply) → IsAmong other (call ∷ issued) → is_of thing other ≡ true → IsAnsweredOk (frames ++ frame_of call ∷ []) other reply → IsTrue (view.is_spent thing other.number)
    spent other thing reply (inl e) of ok = absurd (unanswered floor issued latest frames view call reply truth above later (subst (λ (x : Issued). IsAnsweredOk (frames ++ frame_of call ∷ []) x reply) e ok))
    spent other thing reply (inr there) of ok = truth.spent other thing reply there of (older_ok other reply ok)

    told : (other : Issued) (thing : PluginThing) (reply : Reply) (b : Bool) → is_of thing call ≡ b → cond b (Some call) (latest thing) ≡ Some other → IsAnsweredOk (frames ++ frame_of call ∷ []) other reply
        → view.held thing ≡ asked other.call reply
    told other thing reply true of e ok = absurd (unanswered floor issued latest frames view call reply truth above later (subst (λ (x : Issued). IsAnsweredOk (frames ++ frame_of call ∷ []) x reply) (sym (same_Some call other e)) ok))
    told other thing reply false of e ok = truth.told other thing reply e (older_ok other reply ok)

    untouched : (thing : PluginThing) (b : Bool) → is_of thing call ≡ b → cond b (Some call) (latest thing) ≡ None → view.held thing ≡ None
    untouched thing true of e = absurd (some_is_not_none call e)
    untouched thing false of e = truth.untouched thing e

-- what a delivered call adds to the frames
abbrev pub answer_to : Issued → Kind → Reply → Frame
answer_to call kind reply = reply_frame call.number call.party kind reply

-- a call that was delivered, with its reply
abbrev pub delivery_of : Issued → Kind → Reply → Delivery
delivery_of call kind reply = record { number = call.number; call = call.call; kind = kind; reply = reply }

-- a call is of one thing
one-thing : (call : Issued) (a b : PluginThing) → is_of a call ≡ true → is_of b call ≡ true → a ≡ b
one-thing call a b p q = grind (arith, plugin_thing_at, is_plugin_thing, false≢true, same_plugin_thing-tells)

-- the frame of a reply tells its kind and what it says
pub reply-parts : (a b : Number) (p q : Party) (k l : Kind) (r s : Reply) → reply_frame a p k r ≡ reply_frame b q l s → (k ≡ l) × (r ≡ s)
reply-parts a b p q k l r s e = let body : bodies.Reply k r ≡ bodies.Reply l s = ap (λ (f : Frame). f.body) e in (cc, cc)

-- the status OK passes the test
is_ok : (reply : Reply) → reply.status ≡ Ok → is_ok_status reply.status ≡ true
is_ok reply ok = ap is_ok_status ok

-- a call that brings its thing about asks for it
pub asked-doing : (c : Call) (reply : Reply) → is_doing c ≡ true → reply.status ≡ Ok → IsTrue (has_id_by_rule (kind_of c) reply) → is_some (asked c reply) ≡ true
asked-doing c reply doing ok rule = grind (arith, is_some-map, is_ok, false≢true)

-- a sent call that a plugin answered, and the things before and after it
module _ (issued : List Issued) (frames : List Frame) (old new : PluginView) (call : Issued) (thing : PluginThing) (kind : Kind) (reply : Reply) where
  -- the call was carried out: its number wasn't spent, it was answered OK, and its thing is as it asks
  pub record IsChanged (k : PluginThing) : Type 0 where
    pub same : k ≡ thing
    pub its_kind : kind ≡ kind_of call.call
    pub fresh : old.is_spent thing call.number ≡ false
    pub ok : reply.status ≡ Ok
    pub now : new.held k ≡ asked call.call reply
    pub spent : IsTrue (new.is_spent thing call.number)

  -- what became of the things: the call's own is as it asks, where it was carried out, and all others are as they were; and what is kept
  -- was sent
  pub record IsEffect : Type 0 where
    pub among : IsAmong call issued
    pub of : is_of thing call ≡ true
    pub rule : reply.status ≡ Ok → IsTrue (has_id_by_rule kind reply)
    pub kept : (other : PluginThing) (k : Kept) → new.kept other ≡ Some k → IsKeptOf (frames ++ answer_to call kind reply ∷ []) (party_of other) k
    pub spent : (other : PluginThing) (number : Number) → IsTrue (old.is_spent other number) → IsTrue (new.is_spent other number)
    pub held : (k : PluginThing) → (new.held k ≡ old.held k) ⊎ IsChanged k

  -- an OK was sent before, or the call's number is spent, and its thing is as it asks where the call was sent since that ended last
  abbrev pub IsMet : Type 0 → Type 0
  IsMet here = reply.status ≡ Ok → IsAmong (answer_to call kind reply) frames ⊎ ((here → new.held thing ≡ asked call.call reply) × IsTrue (new.is_spent thing call.number))

  -- what was kept was sent
  abbrev pub WasKept : Type 0
  WasKept = (other : PluginThing) (k : Kept) → old.kept other ≡ Some k → IsKeptOf frames (party_of other) k

  -- what is kept was kept before, or was sent
  abbrev pub IsKeptStill : Type 0
  IsKeptStill = (other : PluginThing) (k : Kept) → new.kept other ≡ Some k
      → (old.kept other ≡ Some k) ⊎ IsAmong (reply_frame k.number (party_of other) k.kind k.reply) (frames ++ answer_to call kind reply ∷ [])

  -- so all that is kept was sent
  kept-sent : WasKept → IsKeptStill → (other : PluginThing) (k : Kept) → new.kept other ≡ Some k → IsKeptOf (frames ++ answer_to call kind reply ∷ []) (party_of other) k
  kept-sent was still other k is = ⊎_elim (λ before. kept-more frames (answer_to call kind reply ∷ []) (party_of other) k (was other k before)) (λ now. inl now) (still other k is)

  -- a plugin carried the call out
  pub effect-acts : WasKept → IsAmong call issued → is_of thing call ≡ true → IsKeptStill → Acts thing (delivery_of call kind reply) old new → IsEffect
  effect-acts was there of still acts =
      record {
        among = there;
        of = of;
        rule = acts.with_id;
        kept = kept-sent was still;
        spent = acts.stays_spent;
        held = λ k. held k (same_plugin_thing k thing) refl (is_ok_status reply.status) refl;
      }
    where
      held : (k : PluginThing) (b : Bool) → same_plugin_thing k thing ≡ b → (s : Bool) → is_ok_status reply.status ≡ s → (new.held k ≡ old.held k) ⊎ IsChanged k
      held k false e s t = inl (acts.others k e)
      held k true e false t =
          let same : k ≡ thing = (same_plugin_thing-tells k thing).0 e in
          inl (ap new.held same ∙ acts.refused (λ ok. false≢true (sym t ∙ ap is_ok_status ok)) ∙ ap old.held (sym same))
      held k true e true t =
          let same : k ≡ thing = (same_plugin_thing-tells k thing).0 e in
          let ok : reply.status ≡ Ok = is_ok-then reply.status t in
          inr (record { same = same; its_kind = acts.of_its_kind; fresh = acts.was_fresh; ok = ok; now = ap new.held same ∙ acts.done ok; spent = acts.spent ok })

  -- a plugin didn't carry it out, since its number was spent
  pub effect-rests : WasKept → (reply.status ≡ Ok → IsTrue (has_id_by_rule kind reply)) → IsAmong call issued → is_of thing call ≡ true → Rests thing (delivery_of call kind reply) old new → IsEffect
  effect-rests was rule there of rests =
      record {
        among = there;
        of = of;
        rule = rule;
        kept = kept-sent was (λ other k is. inl (sym (rests.same.kept other) ∙ is));
        spent = λ other number spent. rests.same.is_spent other number ∙ spent;
        held = λ k. inl (rests.same.held k);
      }

  -- a plugin didn't have its volume
  pub effect-misses : WasKept → IsAmong call issued → is_of thing call ≡ true → IsKeptStill → Misses (delivery_of call kind reply) old new → IsEffect
  effect-misses was there of still misses =
      record {
        among = there;
        of = of;
        rule = misses.with_id;
        kept = kept-sent was still;
        spent = misses.stays_spent;
        held = λ k. inl (misses.held k);
      }

  -- an OK is an old one, or the answer, and then the call's thing is as it asks
  pub ok-either : (floor : ℕ) (here : Type 0) (latest : PluginThing → Option Issued) → Truth floor issued latest frames old → IsEffect → IsMet here → (other : Issued) (r : Reply) → IsAmong other issued → IsAnsweredOk (frames ++ answer_to call kind reply ∷ []) other r
      → IsAnsweredOk frames other r ⊎ ((other ≡ call) × (r ≡ reply) × (here → new.held thing ≡ asked call.call reply) × IsTrue (new.is_spent thing call.number))
  ok-either floor here latest truth effect met other r among ok =
      ⊎_elim (λ there. inl (there, ok.1)) (λ e.
      let says : r ≡ reply = (reply-parts _ _ _ _ (kind_of other.call) kind r reply e).1 in
      let one : other ≡ call = one-number issued truth.numbers other call among effect.among (ap (λ (f : Frame). f.number) e) in
      ⊎_elim (λ sent. inl (subst (λ (f : Frame). IsAmong f frames) (sym e) sent, ok.1)) (λ done. inr (one, says, done.0, done.1))
      (met (subst (λ (x : Reply). x.status ≡ Ok) says ok.1)))
      (among-either frames (answer_to call kind reply) (reply_frame other.number other.party (kind_of other.call) r) ok.0)

  -- after a plugin answered a sent call
  pub truth-answered : (floor : ℕ) (here : Type 0) (latest : PluginThing → Option Issued) → (latest thing ≡ Some call → here) → Truth floor issued latest frames old → IsClosed old → IsEffect → IsMet here → Truth floor issued latest (frames ++ answer_to call kind reply ∷ []) new
  truth-answered floor here latest since truth closed effect met =
      record {
        calls = λ frame c among is. ⊎_elim (λ there. truth.calls frame c there is) (λ e. absurd (no_call c (sym (ap (λ (f : Frame). f.body) e) ∙ is))) (among-either frames _ frame among);
        replies = λ number party k r among.
            ⊎_elim (truth.replies number party k r) (λ e. inl (record { call = call; among = effect.among; has_number = sym (ap (λ (f : Frame). f.number) e) })) (among-either frames _ _ among);
        ids = λ number party k r among ok.
            ⊎_elim (λ there. truth.ids number party k r there ok) (λ e. rule k r (reply-parts number call.number party call.party k kind r reply e) ok) (among-either frames _ _ among);
        kept = effect.kept;
        numbers = truth.numbers;
        found = truth.found;
        order = λ other k among of. ⊎_elim (λ no_later. inl no_later) (λ spent. inr (effect.spent k other.number spent)) (truth.order other k among of);
        spent = λ other k r among of ok.
            ⊎_elim (λ was. effect.spent k other.number (truth.spent other k r among of was))
            (λ now. ap (λ (x : Issued). new.is_spent k x.number) now.0 ∙ ap (λ x. new.is_spent x call.number) (its_thing k other now.0 of) ∙ now.3) (ok-either floor here latest truth effect met other r among ok);
        told = λ other k r found ok.
            ⊎_elim (λ was. stays k (λ same fresh. overtaken other r (subst (λ x. latest x ≡ Some other) same found) was fresh) ∙ truth.told other k r found was)
            (λ now.
            let same : k ≡ thing = its_thing k other now.0 (truth.found k other found).1 in
            ap new.held same ∙ now.2 (since (ap latest (sym same) ∙ found ∙ ap Some now.0)) ∙ ap (asked call.call) (sym now.1) ∙ ap (λ (x : Issued). asked x.call r) (sym now.0))
            (ok-either floor here latest truth effect met other r (truth.found k other found).0 ok);
        untouched = λ k none. stays k (λ same fresh. never (subst (λ x. latest x ≡ None) same none) fresh) ∙ truth.untouched k none;
      }
    where
      -- the latest call of a thing was answered OK, so an earlier one wasn't carried out
      overtaken : (other : Issued) (r : Reply) → latest thing ≡ Some other → IsAnsweredOk frames other r → old.is_spent thing call.number ≡ false → ⊥
      overtaken other r found ok fresh =
          let there = truth.found thing other found in
          let last_spent : IsTrue (old.is_spent thing other.number) = truth.spent other thing r there.0 there.1 ok in
          false≢true (sym fresh
          ∙ ⊎_elim (λ no_later.
          let same : no_later.0 ≡ other = same_Some no_later.0 other (sym no_later.1 ∙ found) in
          ⊎_elim (λ e. ap (λ (x : Issued). old.is_spent thing x.number) (e ∙ same) ∙ last_spent)
          (λ before. closed thing call.number other.number (subst (λ (x : Issued). IsBefore call.number x.number) same before) last_spent) no_later.2) (λ spent. spent) (truth.order call thing effect.among effect.of))

      -- where a thing has no latest call, each of it is spent
      never : latest thing ≡ None → old.is_spent thing call.number ≡ false → ⊥
      never none fresh =
          ⊎_elim (λ no_later. none-some no_later.0 (sym none ∙ no_later.1)) (λ spent. false≢true (sym fresh ∙ spent)) (truth.order call thing effect.among effect.of)

      stays : (k : PluginThing) → (k ≡ thing → old.is_spent thing call.number ≡ false → ⊥) → new.held k ≡ old.held k
      stays k differs = ⊎_elim (λ same. same) (λ now. absurd (differs now.same now.fresh)) (effect.held k)

      no_call : (c : Call) → bodies.Reply kind reply ≡ bodies.Call c → ⊥
      no_call c h = cc

      rule : (k : Kind) (r : Reply) → (k ≡ kind) × (r ≡ reply) → r.status ≡ Ok → IsTrue (has_id_by_rule k r)
      rule k r same ok = ap (λ x. has_id_by_rule x r) same.0 ∙ ap (has_id_by_rule kind) same.1 ∙ effect.rule (subst (λ (x : Reply). x.status ≡ Ok) same.1 ok)

      its_thing : (k : PluginThing) (other : Issued) → other ≡ call → is_of k other ≡ true → k ≡ thing
      its_thing k other same of = one-thing call k thing (subst (λ (x : Issued). is_of k x ≡ true) same of) effect.of

-- ---- where things end without a call, or a plugin knows more

-- nothing changes of a thing but that more numbers are spent
pub record IsSameThing (issued : List Issued) (before after : PluginThing → Option Issued) (old new : PluginView) (k : PluginThing) : Type 0 where
  pub latest : after k ≡ before k
  pub held : new.held k ≡ old.held k
  pub spent : (call : Issued) → IsAmong call issued → is_of k call ≡ true → IsTrue (old.is_spent k call.number) → IsTrue (new.is_spent k call.number)
  pub kept : (x : Kept) → new.kept k ≡ Some x → old.kept k ≡ Some x

-- the thing has ended: it isn't there, and each call of it is spent
pub record IsOver (issued : List Issued) (after : PluginThing → Option Issued) (old new : PluginView) (k : PluginThing) : Type 0 where
  pub latest : after k ≡ None
  pub held : new.held k ≡ None
  pub spent : (call : Issued) → IsAmong call issued → is_of k call ≡ true → IsTrue (new.is_spent k call.number)
  pub kept : (x : Kept) → new.kept k ≡ Some x → old.kept k ≡ Some x

-- each thing is as it was, or has ended
abbrev pub AreEnding : List Issued → (PluginThing → Option Issued) → (PluginThing → Option Issued) → PluginView → PluginView → Type 0
AreEnding issued before after old new = (k : PluginThing) → IsSameThing issued before after old new k ⊎ IsOver issued after old new k

-- what was kept was kept before
kept-before : (issued : List Issued) (before after : PluginThing → Option Issued) (old new : PluginView) → AreEnding issued before after old new → (k : PluginThing) (x : Kept) → new.kept k ≡ Some x → old.kept k ≡ Some x
kept-before issued before after old new ending k x is = ⊎_elim (λ same. same.kept x is) (λ over. over.kept x is) (ending k)

-- what is so of the replies is so then
pub truth-ended : (floor : ℕ) (issued : List Issued) (before after : PluginThing → Option Issued) (frames : List Frame) (old new : PluginView) → AreEnding issued before after old new → Truth floor issued before frames old → Truth floor issued after frames new
truth-ended floor issued before after frames old new ending truth =
    record {
      calls = truth.calls;
      replies = truth.replies;
      ids = truth.ids;
      kept = λ k x is. truth.kept k x (kept-before issued before after old new ending k x is);
      numbers = truth.numbers;
      found = λ k call is. ⊎_elim (λ same. truth.found k call (sym same.latest ∙ is)) (λ over. absurd (none-some call (sym over.latest ∙ is))) (ending k);
      order = λ call k among of.
          ⊎_elim (λ same. ⊎_elim (λ no_later. inl (no_later.0, same.latest ∙ no_later.1, no_later.2)) (λ spent. inr (same.spent call among of spent)) (truth.order call k among of))
          (λ over. inr (over.spent call among of)) (ending k);
      spent = λ call k reply among of ok. ⊎_elim (λ same. same.spent call among of (truth.spent call k reply among of ok)) (λ over. over.spent call among of) (ending k);
      told = λ call k reply is ok. ⊎_elim (λ same. same.held ∙ truth.told call k reply (sym same.latest ∙ is) ok) (λ over. absurd (none-some call (sym over.latest ∙ is))) (ending k);
      untouched = λ k none. ⊎_elim (λ same. same.held ∙ truth.untouched k (sym same.latest ∙ none)) (λ over. over.held) (ending k);
    }

-- ---- a call of a session below the floor

-- a stale call isn't answered OK
stale-refused : (reply : Reply) → reply ≡ stale_reply → reply.status ≡ Ok → ⊥
stale-refused reply is ok = clash (sym (ap (λ (r : Reply). r.status) is) ∙ ok)
  where
    clash : stale_reply.status ≡ Ok → ⊥
    clash h = cc

-- an OK isn't the answer to it
pub ok-low : (number : Number) (party : Party) (kind : Kind) (frames : List Frame) (call : Issued) (reply : Reply) → IsAnsweredOk (frames ++ reply_frame number party kind stale_reply ∷ []) call reply → IsAnsweredOk frames call reply
ok-low number party kind frames call reply ok = (
  ⊎_elim (λ there. there) (λ e. absurd (stale-refused reply (reply-parts call.number number call.party party (kind_of call.call) kind reply stale_reply e).1 ok.1))
      (among-either frames (reply_frame number party kind stale_reply) _ ok.0),
  ok.1,
)

-- its plugin says that it is stale
pub truth-low : (floor : ℕ) (issued : List Issued) (latest : PluginThing → Option Issued) (frames : List Frame) (view : PluginView) (number : Number) (party : Party) (kind : Kind) → Truth floor issued latest frames view → number.session < floor
    → Truth floor issued latest (frames ++ reply_frame number party kind stale_reply ∷ []) view
truth-low floor issued latest frames view number party kind truth low =
    record {
      calls = λ frame c among is. ⊎_elim (λ there. truth.calls frame c there is) (λ e. absurd (no_call c (sym (ap (λ (f : Frame). f.body) e) ∙ is))) (among-either frames last frame among);
      replies = λ n p k r among. ⊎_elim (truth.replies n p k r) (λ e. inr (subst (λ (x : Number). x.session < floor) (sym (ap (λ (f : Frame). f.number) e)) low)) (among-either frames last _ among);
      ids = λ n p k r among ok. truth.ids n p k r (before n p k r among ok) ok;
      kept = λ thing k is. kept-more frames (last ∷ []) (party_of thing) k (truth.kept thing k is);
      numbers = truth.numbers;
      found = truth.found;
      order = truth.order;
      spent = λ call thing reply among of ok. truth.spent call thing reply among of (ok-low number party kind frames call reply ok);
      told = λ call thing reply found ok. truth.told call thing reply found (ok-low number party kind frames call reply ok);
      untouched = truth.untouched;
    }
  where
    last : Frame
    last = reply_frame number party kind stale_reply

    no_call : (c : Call) → bodies.Reply kind stale_reply ≡ bodies.Call c → ⊥
    no_call c h = cc

    before : (n : Number) (p : Party) (k : Kind) (r : Reply) → IsAmong (reply_frame n p k r) (frames ++ last ∷ []) → r.status ≡ Ok → IsAmong (reply_frame n p k r) frames
    before n p k r among ok = ⊎_elim (λ there. there) (λ e. absurd (stale-refused r (reply-parts n number p party k kind r stale_reply e).1 ok)) (among-either frames last _ among)
