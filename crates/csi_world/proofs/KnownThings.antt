-- What an orchestrator's history tells of the things: what is known to be so, or not to be so, by the names, and what the plugins have by
-- the ids that the names have.
use Rattle.csi_world.proofs.Words.{◌≡◌, ◌⊎◌, ℕ, List, ◌++◌, Bool, true, false, Option, Some, None, find, IsTrue, refl}
use Rattle.csi_world.proofs.Words.{sym, ◌∙◌, ap, subst, inl, inr, ⊎_elim, Number, Capability, Call, Party, Reply}
use Rattle.csi_world.proofs.Words.{PluginView, IsClosed, IsBefore, Frame, PluginThing, Exists, Attached, Staged}
use Rattle.csi_world.proofs.Words.{Published, StagedAs, asked, IsAmong, EachTwo, Thing, Yes, No, Issued, name_in}
use Rattle.csi_world.proofs.Words.{touches, is_thing, thing_at, is_doing, Item, History, issued_in, has_success, known}
use Rattle.csi_world.proofs.Words.{arith}
use Rattle.csi_world.proofs.Lemmas.{and_parts, eqb-true, false≢true, none-some, same_Some, among-find, find-passes}
use Rattle.csi_world.proofs.Lemmas.{find-same_among, same_plugin_thing-tells, find-behind}
use Rattle.csi_orchestrator.specs.declared.thing.Thing.TheVariants as things
use Rattle.csi_world.proofs.GivenIds.{GivenId, HasNow, HasOld, HasName, AreGiven}
use Rattle.csi_world.proofs.CallThings.{IsAnsweredOk, ComesAfter, IsOwn, IsOwnOld, IsOne, IsThingBy, Existence, Attachment, Staging, Publication, of_thing, is_plugin_thing, is_of}
use Rattle.csi_world.proofs.Lifetimes.{latest, calls_since, calls_before, calls_for, is_past, over_in, IsTimed}
use Rattle.csi_world.proofs.Lifetimes.{since-or-before, before-sent, for-sent, calls-split, calls-exists, calls-same}
use Rattle.csi_world.proofs.Lifetimes.{since-rising, over-before, find-in_first, find-narrower, none-narrower}
use Rattle.csi_world.proofs.Lifetimes.{same-narrower, none-after_old, same-wider}
use Rattle.csi_world.proofs.NamedCalls.{Named, own, of-then-touches, touches-then-of, same-tells}
use Rattle.csi_world.proofs.HeardReplies.{IsHeard, IsLatest, success-ok, known-yes, known-no, latest-known}
use Rattle.csi_world.proofs.RepliesTold.{Truth}
use Rattle.csi_world.proofs.StagedAttached.{staging, stages-own, IsStanding, IsAttachedSo, Stands}

-- the latest call of a forgotten name's volume before it was forgotten deleted it
abbrev pub EndedUndone : List Item → Type 0
EndedUndone items = (name : List ℕ) (call : Issued) → find (touches (things.Exists name)) (calls_before (Exists name) items) ≡ Some call → is_doing call.call ≡ false

-- what is so of a history, the frames that were sent, the things, and the ids that were given
pub record IsSoFar (history : History) (frames : List Frame) (view : PluginView) (given : List GivenId) : Type 0 where
  pub floor : ℕ
  pub truth : Truth floor (issued_in history.items) (latest history.items) frames view
  pub closed : IsClosed view
  pub named : Named history.items frames given
  pub are_given : AreGiven given
  pub heard : IsHeard history.items (issued_in history.items) frames
  pub stands : Stands history.items view
  pub timed : IsTimed history.began history.items
  pub undone : EndedUndone history.items

-- a call that undoes asks for nothing
pub asked-undoing : (c : Call) (reply : Reply) → is_doing c ≡ false → asked c reply ≡ None
asked-undoing c reply h = grind (arith, false≢true)

-- the thing of a call has its name
pub at-named : (name : List ℕ) (party : Party) (call : Call) (thing : Thing) → thing_at name party call ≡ Some thing → name_in thing ≡ name
at-named name party call thing e = grind (arith, same_Some, none-some)

-- a thing by the id that its name has now is one by an id that its name was given
pub one-named : (given : List GivenId) (thing : Thing) (plugin_thing : PluginThing) → IsOne given thing plugin_thing → IsThingBy (HasName given) thing plugin_thing
one-named given thing plugin_thing h = grind (arith, Existence, Attachment, Staging, Publication)

-- whether a volume is there
abbrev pub is_exists : Thing → Bool
is_exists (things.Exists name) = true
is_exists thing = false

-- a thing that isn't that is no other that is
not-exists : (thing : Thing) → is_exists thing ≡ false → (name : List ℕ) → thing ≡ things.Exists name → ⊥
not-exists thing other name is = false≢true (sym other ∙ ap is_exists is)

-- a call that was sent before its name was forgotten is of no thing by the id that the name has now, but of whether its volume is there
old-not_of : (given : List GivenId) (thing : Thing) (plugin_thing : PluginThing) (call : Issued) → AreGiven given → IsOne given thing plugin_thing → is_exists thing ≡ false
    → IsOwnOld given call.name call.party call.call → is_of plugin_thing call ≡ true → ⊥
old-not_of given thing plugin_thing call are one other mine of = grind (arith, of_thing, HasOld, is_plugin_thing, HasNow, eqb-true, IsOne, IsThingBy, Existence, false≢true, Attachment, and_parts, Staging, Publication)

-- whether a volume is there is asked of the same calls by the name, whichever id it has
exists-same : (given : List GivenId) (name : List ℕ) (call : Issued) → IsOwn given call.name call.party call.call → touches (things.Exists name) call ≡ is_of (Exists name) call
exists-same given name call mine = grind (arith, of_thing, HasName, is_plugin_thing, IsThingBy, Existence, Attachment, Staging, Publication)

-- a thing that is known to be so, by some id that its name was given, and the call that made it so
pub record IsDone (history : History) (given : List GivenId) (thing : Thing) : Type 0 where
  pub plugin_thing : PluginThing
  pub one : IsThingBy (HasName given) thing plugin_thing
  pub call : Issued
  pub by_name : find (touches thing) (calls_for thing history.items) ≡ Some call
  pub by_id : latest history.items plugin_thing ≡ Some call
  pub success : has_success history.items call.number ≡ true
  pub is_so : is_doing call.call ≡ true

-- a thing that is known not to be so, by its name's id: nothing was sent for it since it ended, or the latest call undid it
abbrev pub IsUndone : History → PluginThing → Type 0
IsUndone history plugin_thing =
    (latest history.items plugin_thing ≡ None)
    ⊎ ((call : Issued) × (latest history.items plugin_thing ≡ Some call) × (has_success history.items call.number ≡ true) × (is_doing call.call ≡ false))

-- what is so of a history and of what came of it
module _ (history : History) (frames : List Frame) (view : PluginView) (given : List GivenId) (so : IsSoFar history frames view given) where
  -- each call is for a volume of its name
  pub each-own : (call : Issued) → IsAmong call (issued_in history.items) → IsOwn given call.name call.party call.call
  each-own call among = own history.items frames given so.named call among

  -- the call was sent before the name was forgotten
  abbrev is_old : List ℕ → Issued → Bool
  is_old name call = is_past history (Exists name) call.number

  -- a call of a thing has its name
  touching-named : (thing : Thing) (call : Issued) → IsAmong call (issued_in history.items) → touches thing call ≡ true → call.name ≡ name_in thing
  touching-named thing call among of =
      let its = of_thing (HasName given) call.name call.party call.call (each-own call among) in
      let same : thing ≡ its.thing = same-tells thing its.thing (ap (is_thing thing) (sym its.by_thing) ∙ of) in
      sym (at-named call.name call.party call.call its.thing its.by_thing) ∙ ap name_in (sym same)

  -- a call that isn't old was sent since its name was forgotten
  new-now : (call : Issued) → IsAmong call (issued_in history.items) → is_old call.name call ≡ false → IsAmong call (calls_since (Exists call.name) history.items)
  new-now call among new =
      ⊎_elim (λ here. here) (λ earlier. absurd (false≢true (sym new ∙ so.timed.before (Exists call.name) call earlier))) (since-or-before (Exists call.name) history.items call among)

  -- what is older than an old call is old
  old-closed : (name : List ℕ) (x y : Issued) → IsBefore x.number y.number → is_old name y ≡ true → is_old name x ≡ true
  old-closed name x y before old = over-before (over_in history.began history.items (Exists name)) x.number y.number before old

  -- the calls of a thing that isn't a volume's being there, by its name and by the id that the name has now
  module _ (thing : Thing) (plugin_thing : PluginThing) (one : IsOne given thing plugin_thing) (other : is_exists thing ≡ false) where
    -- since it ended
    abbrev list : List Issued
    list = calls_for thing history.items

    -- they are those of its id
    same-list : list ≡ calls_since plugin_thing history.items
    same-list = calls-same thing plugin_thing history.items one (not-exists thing other)

    rising : EachTwo ComesAfter list
    rising = subst (EachTwo ComesAfter) (sym same-list) (since-rising plugin_thing history.items so.truth.numbers)

    wider : (x : Issued) → IsAmong x list → is_of plugin_thing x ≡ true → touches thing x ≡ true
    wider x among of = of-then-touches given thing plugin_thing x so.are_given (one-named given thing plugin_thing one) (each-own x (for-sent thing history.items x among)) of

    fresh : (x : Issued) → IsAmong x list → touches thing x ≡ true → is_old (name_in thing) x ≡ false → is_of plugin_thing x ≡ true
    fresh x among of new =
        let sent = for-sent thing history.items x among in
        let named = touching-named thing x sent of in
        touches-then-of given thing plugin_thing x so.are_given one (so.named.own_now x (new-now x sent (ap (λ n. is_old n x) named ∙ new))) of

    not_old : (x : Issued) → IsAmong x list → is_of plugin_thing x ≡ true → is_old (name_in thing) x ≡ false
    not_old x among of =
        let sent = for-sent thing history.items x among in
        let named = touching-named thing x sent (wider x among of) in
        ap (λ n. is_old n x) (sym named)
        ∙ ⊎_elim (λ here. so.timed.since (Exists x.name) x here) (λ earlier. absurd (old-not_of given thing plugin_thing x so.are_given one other (so.named.own_old x earlier) of))
        (since-or-before (Exists x.name) history.items x sent)

    -- the latest call by the id is the one by the name
    pub latest-by_name : (call : Issued) → latest history.items plugin_thing ≡ Some call → find (touches thing) list ≡ Some call
    latest-by_name call found =
        same-wider (touches thing) (is_of plugin_thing) (is_old (name_in thing)) list rising wider fresh not_old (old-closed (name_in thing)) call
        (ap (find (is_of plugin_thing)) same-list ∙ found)

    -- what is known not to be so is undone
    other-undone : known history thing ≡ No → IsUndone history plugin_thing
    other-undone is_no =
        ⊎_elim (λ none. inl (ap (find (is_of plugin_thing)) (sym same-list)
        ∙ none-narrower (touches thing) (is_of plugin_thing) (is_old (name_in thing)) list rising wider fresh not_old (old-closed (name_in thing)) none))
        (λ last. by last.0 last.1 (is_old (name_in thing) last.0) refl) (known-no history thing is_no)
      where
        by : (call : Issued) → IsLatest history.items thing call false → (b : Bool) → is_old (name_in thing) call ≡ b → IsUndone history plugin_thing
        by call last true e =
            inl (ap (find (is_of plugin_thing)) (sym same-list)
            ∙ none-after_old (touches thing) (is_of plugin_thing) (is_old (name_in thing)) list rising wider fresh not_old (old-closed (name_in thing)) call last.found e)
        by call last false e =
            inr (
              call,
              ap (find (is_of plugin_thing)) (sym same-list)
                  ∙ same-narrower (touches thing) (is_of plugin_thing) (is_old (name_in thing)) list rising wider fresh not_old (old-closed (name_in thing)) call last.found e,
              last.success,
              last.is_so,
            )

  -- ---- whether a volume is there

  -- the calls of it, by the name
  pub exists-found : (name : List ℕ) → find (touches (things.Exists name)) (calls_for (things.Exists name) history.items) ≡ find (is_of (Exists name)) (calls_since (Exists name) history.items ++ calls_before (Exists name) history.items)
  exists-found name =
      ap (find (touches (things.Exists name))) (calls-exists name history.items)
      ∙ find-same_among (touches (things.Exists name)) (is_of (Exists name)) (issued_in history.items) (λ x among. exists-same given name x (each-own x among))
      ∙ ap (find (is_of (Exists name))) (calls-split (Exists name) history.items)

  -- so it is of those before the name was forgotten
  before-found : (name : List ℕ) → find (is_of (Exists name)) (calls_before (Exists name) history.items) ≡ find (touches (things.Exists name)) (calls_before (Exists name) history.items)
  before-found name =
      find-same_among (is_of (Exists name)) (touches (things.Exists name)) (calls_before (Exists name) history.items) (λ x among. sym (exists-same given name x (each-own x (before-sent (Exists name) history.items x among))))

  -- a volume that is known not to be there is undone
  exists-undone : (name : List ℕ) → known history (things.Exists name) ≡ No → IsUndone history (Exists name)
  exists-undone name is_no = by (latest history.items (Exists name)) refl
    where
      since : List Issued
      since = calls_since (Exists name) history.items

      before : List Issued
      before = calls_before (Exists name) history.items

      by : (o : Option Issued) → latest history.items (Exists name) ≡ o → IsUndone history (Exists name)
      by None e = inl e
      by (Some call) e =
          let whole = exists-found name ∙ find-in_first (is_of (Exists name)) since before call e in
          ⊎_elim (λ none. absurd (none-some call (sym none ∙ whole))) (λ last.
          let same : last.0 ≡ call = same_Some last.0 call (sym last.1.found ∙ whole) in
          inr (call, e, ap (λ (x : Issued). has_success history.items x.number) (sym same) ∙ last.1.success, ap (λ (x : Issued). is_doing x.call) (sym same) ∙ last.1.is_so))
          (known-no history (things.Exists name) is_no)

  -- what is known not to be so is undone by the id that its name has now
  pub no-undone : (thing : Thing) (plugin_thing : PluginThing) → IsOne given thing plugin_thing → known history thing ≡ No → IsUndone history plugin_thing
  no-undone _ _ (Existence name) is_no = exists-undone name is_no
  no-undone _ _ (Attachment name node id has) is_no = other-undone (things.Attached name node) (Attached id node) (Attachment name node id has) refl is_no
  no-undone _ _ (Staging name node id has) is_no = other-undone (things.Staged name node) (Staged id node) (Staging name node id has) refl is_no
  no-undone _ _ (Publication name node target id has) is_no = other-undone (things.Published name node target) (Published id node target) (Publication name node target id has) refl is_no

  -- the latest call of a thing by its id, where its success was heard, was answered OK and left the thing as it asks
  pub latest-told : (plugin_thing : PluginThing) (call : Issued) → latest history.items plugin_thing ≡ Some call → has_success history.items call.number ≡ true
      → (reply : Reply) × IsAnsweredOk frames call reply × (view.held plugin_thing ≡ asked call.call reply)
  latest-told plugin_thing call found success =
      let ok = success-ok history.items (issued_in history.items) frames call so.heard so.truth.numbers (so.truth.found plugin_thing call found).0 success in
      (ok.0, ok.1, so.truth.told call plugin_thing ok.0 found ok.1)

  -- what is undone isn't there
  undone-gone : (plugin_thing : PluginThing) → IsUndone history plugin_thing → view.held plugin_thing ≡ None
  undone-gone plugin_thing (inl none) = so.truth.untouched plugin_thing none
  undone-gone plugin_thing (inr last) = let told = latest-told plugin_thing last.0 last.1 last.2 in told.2 ∙ asked-undoing (last.0).call told.0 last.3

  -- what is known not to be so isn't there
  pub not-there : (thing : Thing) (plugin_thing : PluginThing) → IsOne given thing plugin_thing → known history thing ≡ No → view.held plugin_thing ≡ None
  not-there thing plugin_thing one is_no = undone-gone plugin_thing (no-undone thing plugin_thing one is_no)

  -- a volume that is known to be there was made since its name was forgotten
  exists-done : (name : List ℕ) (call : Issued) → IsLatest history.items (things.Exists name) call true → latest history.items (Exists name) ≡ Some call
  exists-done name call is = by (latest history.items (Exists name)) refl
    where
      since : List Issued
      since = calls_since (Exists name) history.items

      before : List Issued
      before = calls_before (Exists name) history.items

      whole : find (is_of (Exists name)) (since ++ before) ≡ Some call
      whole = sym (exists-found name) ∙ is.found

      by : (o : Option Issued) → latest history.items (Exists name) ≡ o → latest history.items (Exists name) ≡ Some call
      by None e =
          let earlier = sym (before-found name) ∙ sym (find-behind (is_of (Exists name)) since before e) ∙ whole in
          absurd (false≢true (sym (so.undone name call earlier) ∙ is.is_so))
      by (Some last) e = e ∙ sym (find-in_first (is_of (Exists name)) since before last e) ∙ whole

  -- another thing was done by the call's own id
  other-done : (thing : Thing) (plugin_thing : PluginThing) → IsThingBy (HasName given) thing plugin_thing → is_exists thing ≡ false → (call : Issued) → IsLatest history.items thing call true
      → is_of plugin_thing call ≡ true → latest history.items plugin_thing ≡ Some call
  other-done thing plugin_thing one other call is of =
      ap (find (is_of plugin_thing)) (sym (calls-same thing plugin_thing history.items one (not-exists thing other)))
      ∙ find-narrower (touches thing) (is_of plugin_thing) (calls_for thing history.items) call is.found of
      (λ y among h. of-then-touches given thing plugin_thing y so.are_given one (each-own y (for-sent thing history.items y among)) h)

  -- so was each
  done-by_id : (thing : Thing) (plugin_thing : PluginThing) → IsThingBy (HasName given) thing plugin_thing → (call : Issued) → IsLatest history.items thing call true → is_of plugin_thing call ≡ true
      → latest history.items plugin_thing ≡ Some call
  done-by_id _ _ (Existence name) call is of = exists-done name call is
  done-by_id _ _ (Attachment name node id has) call is of = other-done (things.Attached name node) (Attached id node) (Attachment name node id has) refl call is of
  done-by_id _ _ (Staging name node id has) call is of = other-done (things.Staged name node) (Staged id node) (Staging name node id has) refl call is of
  done-by_id _ _ (Publication name node target id has) call is of = other-done (things.Published name node target) (Published id node target) (Publication name node target id has) refl call is of

  -- and what is known to be so was done
  pub yes-done : (thing : Thing) → known history thing ≡ Yes → IsDone history given thing
  yes-done thing is_yes =
      let last = known-yes history thing is_yes in
      let call : Issued = last.0 in
      let is = last.1 in
      let sent = for-sent thing history.items call (among-find (touches thing) (calls_for thing history.items) call is.found) in
      let its = of_thing (HasName given) call.name call.party call.call (each-own call sent) in
      let same : its.thing ≡ thing = sym (same-tells thing its.thing (ap (is_thing thing) (sym its.by_thing) ∙ find-passes (touches thing) (calls_for thing history.items) call is.found)) in
      let one = subst (λ t. IsThingBy (HasName given) t its.plugin_thing) same its.one in
      let of : is_of its.plugin_thing call ≡ true = ap (is_plugin_thing its.plugin_thing) its.by_name ∙ (same_plugin_thing-tells its.plugin_thing its.plugin_thing).1 refl in
      record {
        plugin_thing = its.plugin_thing;
        one = one;
        call = call;
        by_name = is.found;
        by_id = done-by_id thing its.plugin_thing one call is of;
        success = is.success;
        is_so = is.is_so;
      }

  -- where a volume is known not to be staged at a node, nothing stands there
  pub none-stands : (name node : List ℕ) (id : ℕ) (capability : Capability) → HasNow given name id
      → known history (things.Staged name node) ≡ No → IsStanding (issued_in history.items) view id node capability → ⊥
  none-stands name node id capability has is_no standing = by (no-undone (things.Staged name node) (Staged id node) (Staging name node id has) is_no) standing
    where
      -- each call of it is spent
      all_spent : IsUndone history (Staged id node) → (name : List ℕ) (number : Number) → IsAmong (staging name number id node capability) (issued_in history.items) → IsTrue (view.is_spent (Staged id node) number)
      all_spent undone name number among =
          ⊎_elim (λ no_later. not_latest undone no_later.0 no_later.1 no_later.2) (λ spent. spent) (so.truth.order call (Staged id node) among (stages-own name number id node capability))
        where
          call : Issued
          call = staging name number id node capability

          not_latest : IsUndone history (Staged id node) → (last : Issued) → latest history.items (Staged id node) ≡ Some last → (call ≡ last) ⊎ IsBefore call.number last.number → IsTrue (view.is_spent (Staged id node) number)
          not_latest (inl none) last is order = absurd (none-some last (sym none ∙ is))
          not_latest (inr undo) last is order =
              let same : undo.0 ≡ last = same_Some undo.0 last (sym undo.1 ∙ is) in
              let told = latest-told (Staged id node) undo.0 undo.1 undo.2 in
              let there = so.truth.found (Staged id node) undo.0 undo.1 in
              let spent = so.truth.spent undo.0 (Staged id node) told.0 there.0 there.1 told.1 in
              ⊎_elim (λ e. absurd (false≢true (sym undo.3 ∙ ap (λ (x : Issued). is_doing x.call) (same ∙ sym e))))
              (λ before. so.closed (Staged id node) number (undo.0).number (subst (λ (x : Issued). IsBefore number x.number) (sym same) before) spent) order

      by : IsUndone history (Staged id node) → IsStanding (issued_in history.items) view id node capability → ⊥
      by undone (inl held) = none-some (StagedAs capability) (sym (undone-gone (Staged id node) undone) ∙ held)
      by undone (inr may) = false≢true (sym may.unspent ∙ all_spent undone may.name may.number may.among)

  -- what stands is known to be attached
  pub attached-known : (name node : List ℕ) (id : ℕ) (capability : Capability) → HasNow given name id → IsAttachedSo history.items id node capability
      → known history (things.Attached name node) ≡ Yes
  attached-known name node id capability has attached =
      latest-known history (things.Attached name node) attached.call
      (record {
        found = latest-by_name (things.Attached name node) (Attached id node) (Attachment name node id has) refl attached.call attached.found;
        success = attached.success;
        is_so = ap is_doing attached.publishes;
      })
