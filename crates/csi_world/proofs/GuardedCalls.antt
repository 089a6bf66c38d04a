-- Why a call that keeps the guards leaves what stands: it is for its own volume, it is of no attachment below which
-- something stands, and it stages only what is attached so.
use Rattle.csi_world.proofs.Words.{◌≡◌, ℕ, List, [], ◌∷◌, Bool, true, false, cond, Option, Some, None, find, filter}
use Rattle.csi_world.proofs.Words.{filter_map, ◌==◌, ◌&&◌, refl, sym, ◌∙◌, ap, subst, inl, inr, Capability, Call}
use Rattle.csi_world.proofs.Words.{Party, Controller, Node, PluginView, Frame, PluginThing, Attached, AttachedAs}
use Rattle.csi_world.proofs.Words.{asked, same_text, Thing, Yes, No, Issued, touches, is_thing, thing_at, is_doing}
use Rattle.csi_world.proofs.Words.{Held, History, newest, issued_in, known, held_by_call, held, IsGuarded, arith}
use Rattle.csi_world.proofs.Lemmas.{and_parts, and_from, eqb-true, false≢true, false_from_ne_true, none-some}
use Rattle.csi_world.proofs.Lemmas.{same_Some, same_text-tells}
use Rattle.csi_types.specs.declared.call.Call.TheVariants as calls
use Rattle.csi_orchestrator.specs.declared.thing.Thing.TheVariants as things
use Rattle.csi_orchestrator.specs.Public.Guards.{HasId}
use Rattle.csi_world.proofs.GivenIds.{GivenId, HasNow, HasOld, HasName}
use Rattle.csi_world.proofs.CallThings.{IsOwnNow, IsThingBy, plugin_thing_at, is_plugin_thing, is_of}
use Rattle.csi_world.proofs.Lifetimes.{latest, calls-attached}
use Rattle.csi_world.proofs.HeardReplies.{id-given}
use Rattle.csi_world.proofs.KnownThings.{IsSoFar, IsDone, latest-told, none-stands, attached-known, yes-done}
use Rattle.csi_world.proofs.StagedAttached.{IsStanding, IsAttachedSo}

-- the latest call that attached a volume tells how it is held
pub attached-call : (name : List ℕ) (party : Party) (c : Call) (id : ℕ) (node : List ℕ) → is_plugin_thing (Attached id node) (plugin_thing_at name party c) ≡ true → is_doing c ≡ true
    → (held : Held) × (c ≡ calls.ControllerPublishVolume id node held.capability held.readonly)
attached-call name party (calls.ControllerPublishVolume i there capability readonly) id node of doing =
    let parts = and_parts (id == i) (same_text node there) of in
    let volume : i ≡ id = sym (eqb-true id i parts.0) in
    let at : there ≡ node = sym ((same_text-tells node there).0 parts.1) in
    (record { capability = capability; readonly = readonly }, λ n. calls.ControllerPublishVolume (volume n) (at n) capability readonly)
attached-call name party (calls.ControllerUnpublishVolume i there) id node of doing = absurd (false≢true doing)
attached-call name (Node here) (calls.NodeStageVolume i capability) id node of doing = absurd (false≢true of)
attached-call name (Node here) (calls.NodeUnstageVolume i) id node of doing = absurd (false≢true of)
attached-call name (Node here) (calls.NodePublishVolume i target capability readonly) id node of doing = absurd (false≢true of)
attached-call name (Node here) (calls.NodeUnpublishVolume i target) id node of doing = absurd (false≢true of)
attached-call name party c id node of doing = absurd (false≢true of)

-- texts that the test takes as the same are so the other way round
turned : (a b : List ℕ) → same_text a b ≡ true → same_text b a ≡ true
turned a b h = (same_text-tells b a).1 (sym ((same_text-tells a b).0 h))

-- a call of the name that isn't of this attachment tells nothing of how it is held
held-none : (name node : List ℕ) (x : Issued) → touches (things.Attached name node) x ≡ false → same_text x.name name ≡ true → held_by_call node x.call ≡ None
held-none name node x other named = grind (arith, false≢true, and_from, turned)

-- how the calls of a name hold the volume at a node, by the newest of them that tells it
abbrev pub held_among : List ℕ → List ℕ → List Issued → Option Held
held_among name node xs = newest (filter_map (λ (issued : Issued). held_by_call node issued.call) (filter (λ (issued : Issued). same_text issued.name name) xs))

-- where the latest call of an attachment put the volume there, it tells how the volume is held
pub held-latest : (name node : List ℕ) (id : ℕ) (call : Issued) (here : Held) (xs : List Issued) → call.call ≡ calls.ControllerPublishVolume id node here.capability here.readonly
    → find (touches (things.Attached name node)) xs ≡ Some call → held_among name node xs ≡ Some here
held-latest name node id call here [] publishes found = absurd (none-some call found)
held-latest name node id call here (x ∷ xs) publishes found = by (touches (things.Attached name node) x) refl found (held-latest name node id call here xs publishes)
  where
    others : List Issued
    others = filter (λ (issued : Issued). same_text issued.name name) xs

    -- the call itself
    told : (y : Issued) → y.call ≡ calls.ControllerPublishVolume id node here.capability here.readonly → touches (things.Attached name node) y ≡ true
        → (same_text y.name name ≡ true) × (held_by_call node y.call ≡ Some here)
    told y is of =
        let whole : (same_text name y.name && same_text node node) ≡ true = sym (ap (λ c. is_thing (things.Attached name node) (thing_at y.name y.party c)) is) ∙ of in
        let parts = and_parts (same_text name y.name) (same_text node node) whole in
        (turned name y.name parts.0, ap (held_by_call node) is ∙ ap (λ b. cond b (Some here) None) parts.1)

    skip : (b : Bool) → same_text x.name name ≡ b → touches (things.Attached name node) x ≡ false → held_among name node xs ≡ Some here
        → newest (filter_map (λ (issued : Issued). held_by_call node issued.call) (cond b (x ∷ others) others)) ≡ Some here
    skip false e other rest = rest
    skip true e other rest = rw (held-none name node x other e) rest

    by : (b : Bool) → touches (things.Attached name node) x ≡ b → cond b (Some x) (find (touches (things.Attached name node)) xs) ≡ Some call
        → (find (touches (things.Attached name node)) xs ≡ Some call → held_among name node xs ≡ Some here) → held_among name node (x ∷ xs) ≡ Some here
    by true e found rest =
        let is = told x (subst (λ (y : Issued). y.call ≡ calls.ControllerPublishVolume id node here.capability here.readonly) (sym (same_Some x call found)) publishes) e in
        rw (is.0, is.1) refl
    by false e found rest = skip (same_text x.name name) refl e (rest found)

-- the thing of an attachment
attached-thing : {has : List ℕ → ℕ → Type 0} (thing : Thing) (plugin_thing : PluginThing) (name node : List ℕ) → thing ≡ things.Attached name node → IsThingBy has thing plugin_thing
    → (id : ℕ) × (plugin_thing ≡ Attached id node) × has name id
attached-thing thing plugin_thing name node e h = grind arith

-- what is so of a history and of what came of it, where no volume is attached that was deleted before its name was forgotten
module _ (history : History) (frames : List Frame) (view : PluginView) (given : List GivenId) (so : IsSoFar history frames view given)
    (detached : (name : List ℕ) (id : ℕ) (node : List ℕ) → HasOld given name id → view.held (Attached id node) ≡ None) where
  -- an id that the orchestrator heard for a name is the one that it has now
  pub given-id : (name : List ℕ) (id : ℕ) → HasId history name id → HasNow given name id
  given-id name id has = id-given history frames given name id so.heard so.truth.numbers so.named has

  -- a guarded call is for its own volume
  pub own-guarded : (name : List ℕ) (party : Party) (call : Call) → IsGuarded history name party call → IsOwnNow given name party call
  own-guarded name Controller (calls.CreateVolume create required limit capabilities) guard = guard.own_name
  own-guarded name Controller (calls.DeleteVolume id) guard = given-id name id guard.0
  own-guarded name Controller (calls.ControllerPublishVolume id node capability readonly) guard = given-id name id guard.0
  own-guarded name Controller (calls.ControllerUnpublishVolume id node) guard = given-id name id guard.0
  own-guarded name (Node node) (calls.NodeStageVolume id capability) guard = given-id name id guard.0
  own-guarded name (Node node) (calls.NodeUnstageVolume id) guard = given-id name id guard.0
  own-guarded name (Node node) (calls.NodePublishVolume id target capability readonly) guard = given-id name id guard.0
  own-guarded name (Node node) (calls.NodeUnpublishVolume id target) guard = given-id name id guard
  own-guarded name party call guard = absurd guard

  -- a guarded call is of no attachment below which something stands
  pub leaves-guarded : (call : Issued) → IsGuarded history call.name call.party call.call
      → (id : ℕ) (node : List ℕ) (capability : Capability) → IsStanding (issued_in history.items) view id node capability → is_of (Attached id node) call ≡ false
  leaves-guarded call guard id node capability standing = by call.party call.call guard
    where
      -- of the same volume and node
      apart : (i : ℕ) (there : List ℕ) → ((id ≡ i) → (node ≡ there) → ⊥) → ((id == i) && same_text node there) ≡ false
      apart i there differ =
          false_from_ne_true ((id == i) && same_text node there)
          (λ e. let parts = and_parts (id == i) (same_text node there) e in differ (eqb-true id i parts.0) ((same_text-tells node there).0 parts.1))

      by : (party : Party) (c : Call) → IsGuarded history call.name party c → is_plugin_thing (Attached id node) (plugin_thing_at call.name party c) ≡ false
      by Controller (calls.ControllerPublishVolume i there other readonly) guard =
          apart i there (λ volume at.
          let has : HasNow given call.name id = subst (HasNow given call.name) (sym volume) (given-id call.name i guard.0) in
          guard.1.not_attached (subst (λ n. known history (things.Attached call.name n) ≡ Yes) at (attached-known history frames view given so call.name node id capability has (so.stands id node capability standing))))
      by Controller (calls.ControllerUnpublishVolume i there) guard =
          apart i there (λ volume at.
          let has : HasNow given call.name id = subst (HasNow given call.name) (sym volume) (given-id call.name i guard.0) in
          none-stands history frames view given so call.name node id capability has (subst (λ n. known history (things.Staged call.name n) ≡ No) (sym at) guard.1.not_staged) standing)
      by (Node here) (calls.ControllerPublishVolume i there other readonly) guard = absurd guard
      by (Node here) (calls.ControllerUnpublishVolume i there) guard = absurd guard
      by party c guard = refl

  -- what is known to be attached is so by the id that its name has now
  pub attached-now : (name node : List ℕ) (id : ℕ) → HasNow given name id → (done : IsDone history given (things.Attached name node)) → latest history.items (Attached id node) ≡ Some done.call
  attached-now name node id has done = by (attached-thing (things.Attached name node) done.plugin_thing name node refl done.one)
    where
      by : (j : ℕ) × (done.plugin_thing ≡ Attached j node) × HasName given name j → latest history.items (Attached id node) ≡ Some done.call
      by (j, is, inl now) = ap (λ n. latest history.items (Attached n node)) (so.are_given.one_id name id j has now) ∙ ap (latest history.items) (sym is) ∙ done.by_id
      by (j, is, inr old) =
          let found : latest history.items (Attached j node) ≡ Some done.call = ap (latest history.items) (sym is) ∙ done.by_id in
          let told = latest-told history frames view given so (Attached j node) done.call found done.success in
          let of = (so.truth.found (Attached j node) done.call found).1 in
          let publishes = attached-call done.call.name done.call.party done.call.call j node of done.is_so in
          absurd (none-some (AttachedAs publishes.0.capability publishes.0.readonly) (sym (detached name j node old) ∙ told.2 ∙ ap (λ c. asked c told.0) publishes.1))

  -- a guarded call stages only what is attached so
  pub stages-guarded : (call : Issued) → IsGuarded history call.name call.party call.call
      → (id : ℕ) (node : List ℕ) (capability : Capability) → call.party ≡ Node node → call.call ≡ calls.NodeStageVolume id capability → IsAttachedSo history.items id node capability
  stages-guarded call guard id node capability of_node stages =
      let mine = subst (λ c. IsGuarded history call.name (Node node) c) stages (subst (λ p. IsGuarded history call.name p call.call) of_node guard) in
      let has : HasNow given call.name id = given-id call.name id mine.0 in
      let done = yes-done history frames view given so (things.Attached call.name node) mine.1.attached in
      let found = attached-now call.name node id has done in
      let by = attached-call done.call.name done.call.party done.call.call id node (so.truth.found (Attached id node) done.call found).1 done.is_so in
      let by_name = ap (find (touches (things.Attached call.name node))) (sym (calls-attached call.name node history.items)) ∙ done.by_name in
      let is_held : held history call.name node ≡ Some by.0 = held-latest call.name node id done.call by.0 (issued_in history.items) by.1 by_name in
      let guarded = mine.1.as_held in
      let one : by.0 ≡ guarded.0 = same_Some by.0 guarded.0 (sym is_held ∙ guarded.1) in
      let alike : by.0.capability ≡ capability = ap (λ (h : Held). h.capability) one ∙ guarded.2 in
      let publishes = by.1 ∙ ap (λ c. calls.ControllerPublishVolume id node c by.0.readonly) alike in
      record { call = done.call; readonly = by.0.readonly; found = found; publishes = publishes; success = done.success }
