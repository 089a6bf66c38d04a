-- The thing that a sent call does or undoes, by its id: each sent call is for the volume of its name, a name was given one id, and
-- lists of sent calls are searched for a thing by either.
use Rattle.csi_world.proofs.Words.{◌≡◌, ℕ, List, [], ◌∷◌, Bool, true, false, Option, Some, None, IsTrue, refl, sym, ◌∙◌}
use Rattle.csi_world.proofs.Words.{ap, subst, inl, inr, arith, Number, Call, Party, Controller, Node, Reply, kind_of}
use Rattle.csi_world.proofs.Words.{Frame, PluginThing, Exists, Attached, Staged, Published, same_plugin_thing, IsAmong}
use Rattle.csi_world.proofs.Words.{EachTwo, is_before, IsBefore, reply_frame, Thing, Issued, thing_at}
use Rattle.csi_world.proofs.Lemmas.{false≢true, nat_tests, same_plugin_thing-tells, each_of}
use Rattle.csi_types.specs.declared.call.Call.TheVariants as calls
use Rattle.csi_types.specs.declared.status.Status.TheVariants.{Ok}
use Rattle.csi_types.specs.Public.Call.{is_party_of}
use Rattle.csi_orchestrator.specs.declared.thing.Thing.TheVariants as things
use Rattle.csi_world.proofs.Parties.{party_of}
use Rattle.csi_world.proofs.GivenIds.{GivenId, HasNow, HasOld, HasName}

-- the thing of a call to this plugin, by its id
abbrev pub plugin_thing_at : List ℕ → Party → Call → Option PluginThing
plugin_thing_at name party (calls.CreateVolume create required limit capabilities) = Some (Exists name)
plugin_thing_at name party (calls.DeleteVolume id) = Some (Exists name)
plugin_thing_at name party (calls.ControllerPublishVolume id node capability readonly) = Some (Attached id node)
plugin_thing_at name party (calls.ControllerUnpublishVolume id node) = Some (Attached id node)
plugin_thing_at name (Node node) (calls.NodeStageVolume id capability) = Some (Staged id node)
plugin_thing_at name (Node node) (calls.NodeUnstageVolume id) = Some (Staged id node)
plugin_thing_at name (Node node) (calls.NodePublishVolume id target capability readonly) = Some (Published id node target)
plugin_thing_at name (Node node) (calls.NodeUnpublishVolume id target) = Some (Published id node target)
plugin_thing_at name Controller call = None

-- the thing, if there is one, is this
abbrev pub is_plugin_thing : PluginThing → Option PluginThing → Bool
is_plugin_thing plugin_thing None = false
is_plugin_thing plugin_thing (Some other) = same_plugin_thing plugin_thing other

-- the call does or undoes the thing
abbrev pub is_of : PluginThing → Issued → Bool
is_of plugin_thing issued = is_plugin_thing plugin_thing (plugin_thing_at issued.name issued.party issued.call)

-- the thing of a call of it
pub of-thing-at : (thing : PluginThing) (call : Issued) → is_of thing call ≡ true → plugin_thing_at call.name call.party call.call ≡ Some thing
of-thing-at thing call of = grind (arith, false≢true, same_plugin_thing-tells)

-- the call is for the plugin of its kind, and for a volume that has the name so
abbrev pub IsFor : (List ℕ → ℕ → Type 0) → List ℕ → Party → Call → Type 0
IsFor has name Controller (calls.CreateVolume create required limit capabilities) = create ≡ name
IsFor has name Controller (calls.DeleteVolume id) = has name id
IsFor has name Controller (calls.ControllerPublishVolume id node capability readonly) = has name id
IsFor has name Controller (calls.ControllerUnpublishVolume id node) = has name id
IsFor has name (Node node) (calls.NodeStageVolume id capability) = has name id
IsFor has name (Node node) (calls.NodeUnstageVolume id) = has name id
IsFor has name (Node node) (calls.NodePublishVolume id target capability readonly) = has name id
IsFor has name (Node node) (calls.NodeUnpublishVolume id target) = has name id
IsFor has name party call = ⊥

-- for the volume of the name, whichever it was
abbrev pub IsOwn : List GivenId → List ℕ → Party → Call → Type 0
IsOwn given = IsFor (HasName given)

-- for the volume that has the name now
abbrev pub IsOwnNow : List GivenId → List ℕ → Party → Call → Type 0
IsOwnNow given = IsFor (HasNow given)

-- for one that had it before it was forgotten
abbrev pub IsOwnOld : List GivenId → List ℕ → Party → Call → Type 0
IsOwnOld given = IsFor (HasOld given)

-- the call makes a volume
abbrev pub is_making : Call → Bool
is_making (calls.CreateVolume name required limit capabilities) = true
is_making call = false

-- a thing by its name, and by an id that has the name so
pub data IsThingBy (has : List ℕ → ℕ → Type 0) : Thing → PluginThing → Type 0 where
  Existence : (name : List ℕ) → IsThingBy has (things.Exists name) (Exists name)
  Attachment : (name node : List ℕ) (id : ℕ) → has name id → IsThingBy has (things.Attached name node) (Attached id node)
  Staging : (name node : List ℕ) (id : ℕ) → has name id → IsThingBy has (things.Staged name node) (Staged id node)
  Publication : (name node target : List ℕ) (id : ℕ) → has name id → IsThingBy has (things.Published name node target) (Published id node target)

-- by the id that the name has now
abbrev pub IsOne : List GivenId → Thing → PluginThing → Type 0
IsOne given = IsThingBy (HasNow given)

-- a call of a volume by its id
pub record IsOfThing (has : List ℕ → ℕ → Type 0) (name : List ℕ) (party : Party) (call : Call) : Type 0 where
  pub thing : Thing
  pub plugin_thing : PluginThing
  pub one : IsThingBy has thing plugin_thing
  pub by_thing : thing_at name party call ≡ Some thing
  pub by_name : plugin_thing_at name party call ≡ Some plugin_thing
  pub of_party : party_of plugin_thing ≡ party
  pub of_kind : IsTrue (is_party_of (kind_of call) party)

-- a call for the volume of a name has one thing, by its name and by its id
pub of_thing : (has : List ℕ → ℕ → Type 0) (name : List ℕ) (party : Party) (call : Call) → IsFor has name party call → IsOfThing has name party call
of_thing has name Controller (calls.CreateVolume create required limit capabilities) own =
    record { thing = things.Exists name; plugin_thing = Exists name; one = Existence name; by_thing = refl; by_name = refl; of_party = refl; of_kind = refl }
of_thing has name Controller (calls.DeleteVolume id) own =
    record { thing = things.Exists name; plugin_thing = Exists name; one = Existence name; by_thing = refl; by_name = refl; of_party = refl; of_kind = refl }
of_thing has name Controller (calls.ControllerPublishVolume id node capability readonly) own =
    record { thing = _; plugin_thing = _; one = Attachment name node id own; by_thing = refl; by_name = refl; of_party = refl; of_kind = refl }
of_thing has name Controller (calls.ControllerUnpublishVolume id node) own =
    record { thing = _; plugin_thing = _; one = Attachment name node id own; by_thing = refl; by_name = refl; of_party = refl; of_kind = refl }
of_thing has name (Node node) (calls.NodeStageVolume id capability) own =
    record { thing = _; plugin_thing = _; one = Staging name node id own; by_thing = refl; by_name = refl; of_party = refl; of_kind = refl }
of_thing has name (Node node) (calls.NodeUnstageVolume id) own =
    record { thing = _; plugin_thing = _; one = Staging name node id own; by_thing = refl; by_name = refl; of_party = refl; of_kind = refl }
of_thing has name (Node node) (calls.NodePublishVolume id target capability readonly) own =
    record { thing = _; plugin_thing = _; one = Publication name node target id own; by_thing = refl; by_name = refl; of_party = refl; of_kind = refl }
of_thing has name (Node node) (calls.NodeUnpublishVolume id target) own =
    record { thing = _; plugin_thing = _; one = Publication name node target id own; by_thing = refl; by_name = refl; of_party = refl; of_kind = refl }
of_thing has name party call own = absurd own

-- an OK to the call was sent
abbrev pub IsAnsweredOk : List Frame → Issued → Reply → Type 0
IsAnsweredOk frames issued reply = IsAmong (reply_frame issued.number issued.party (kind_of issued.call) reply) frames × (reply.status ≡ Ok)

-- the later of two sent calls has the later number
abbrev pub ComesAfter : Issued → Issued → Type 0
ComesAfter newer older = IsBefore older.number newer.number

-- no number is before itself
pub before-irreflexive : (a : Number) → IsBefore a a → ⊥
before-irreflexive a h = let t : is_before a a ≡ true = rw h refl in grind (arith, nat_tests)

-- each number was sent once
pub one-number : (issued : List Issued) → EachTwo ComesAfter issued → (a b : Issued) → IsAmong a issued → IsAmong b issued → a.number ≡ b.number → a ≡ b
one-number [] two a b at bt same = absurd at
one-number (i ∷ is) two a b (inl e) (inl f) same = e ∙ sym f
one-number (i ∷ is) two a b (inl e) (inr bt) same =
    absurd (before-irreflexive b.number (subst (λ n. IsBefore b.number n) (sym (ap (λ (x : Issued). x.number) e) ∙ same) (each_of (ComesAfter i) is b two.0 bt)))
one-number (i ∷ is) two a b (inr at) (inl f) same =
    absurd (before-irreflexive a.number (subst (λ n. IsBefore a.number n) (sym (ap (λ (x : Issued). x.number) f) ∙ sym same) (each_of (ComesAfter i) is a two.0 at)))
one-number (i ∷ is) two a b (inr at) (inr bt) same = one-number is two.1 a b at bt same
