-- A sent call as its plugin sees it: by its thing, or as one whose volume the plugin doesn't have.
use Rattle.csi_world.proofs.Words.{◌≡◌, ◌⊎◌, ℕ, List, true, false, Option, Some, None, option_map, refl, sym, ◌∙◌, ap}
use Rattle.csi_world.proofs.Words.{subst, inl, inr, ⊎_elim, Call, Party, Controller, Node, PluginThing, Exists}
use Rattle.csi_world.proofs.Words.{Attached, Staged, Published, IsAmong, Volume, ControllerState, volume_with_id}
use Rattle.csi_world.proofs.Words.{same_text}
use Rattle.csi_world.proofs.Lemmas.{and_parts, and_from, false≢true, eqb-true, eq-eqb, none-some, same_Some}
use Rattle.csi_world.proofs.Lemmas.{same_text-tells, none-from_map}
use Rattle.csi_types.specs.declared.call.Call.TheVariants as calls
use Rattle.csi_controller.specs.Public.View as controllers
use Rattle.csi_node.specs.Public.View as nodes
use Rattle.csi_world.proofs.GivenIds.{GivenId, HasNow, HasName, AreGiven, AreOf, now-given, id-named, is_given}
use Rattle.csi_world.proofs.CallThings.{plugin_thing_at, IsOwn, IsOwnNow, is_making}

-- the thing that a plugin sees in a call
abbrev pub thing_seen : ControllerState → Party → Call → Option PluginThing
thing_seen controller Controller call = controllers.thing_of controller call
thing_seen controller (Node node) call = nodes.thing_of node call

-- the controller doesn't have the volume of a thing
pub record IsGone (given : List GivenId) (controller : ControllerState) (thing : PluginThing) : Type 0 where
  pub one : GivenId
  pub among : IsAmong one given
  pub of : is_given thing one ≡ true
  pub gone : volume_with_id one.id controller ≡ None

-- the thing by which a plugin answers a call: the one that it sees in it before; or none, and then it sees none afterwards
abbrev pub IsAnsweredBy : ControllerState → ControllerState → Party → Call → Option PluginThing → Type 0
IsAnsweredBy old new party call thing = (thing ≡ thing_seen old party call) ⊎ ((thing ≡ None) × (thing_seen new party call ≡ None))

-- the call is for its name's volume now, if the thing is whether that is there
abbrev pub IsNowIf : List GivenId → List ℕ → Party → Call → PluginThing → Type 0
IsNowIf given name party call thing = thing ≡ Exists name → IsOwnNow given name party call

module _ (given : List GivenId) (controller : ControllerState) (are : AreGiven given) (of : AreOf controller given) where
  -- DeleteVolume, by the volume of its id
  deletes-seen : (name : List ℕ) (id : ℕ) → HasName given name id → (o : Option Volume) → volume_with_id id controller ≡ o
      → (thing_seen controller Controller (calls.DeleteVolume id) ≡ Some (Exists name)) ⊎ (thing_seen controller Controller (calls.DeleteVolume id) ≡ None)
  deletes-seen name id has None e = inr (ap (option_map (λ (volume : Volume). Exists volume.name)) e)
  deletes-seen name id has (Some volume) e =
      inl (ap (option_map (λ (volume : Volume). Exists volume.name)) e ∙ ap (λ k. Some (Exists k)) (id-named controller given name id volume are of has e))

  -- a call of an attachment, by the volume of its id
  attaches-seen : (id : ℕ) (node : List ℕ) (o : Option Volume) → (option_map (λ (volume : Volume). Attached id node) o ≡ Some (Attached id node)) ⊎ (option_map (λ (volume : Volume). Attached id node) o ≡ None)
  attaches-seen id node None = inr refl
  attaches-seen id node (Some volume) = inl refl

  -- an attachment that is seen has its volume
  attached-seen : (id : ℕ) (node : List ℕ) (thing : PluginThing) (one : GivenId) → Attached id node ≡ thing → option_map (λ (volume : Volume). Attached id node) (volume_with_id id controller) ≡ Some thing
      → is_given thing one ≡ true → volume_with_id one.id controller ≡ None → ⊥
  attached-seen id node thing one is seen for gone =
      let same : one.id ≡ id = eqb-true one.id id (ap (λ k. is_given k one) is ∙ for) in
      none-some thing (sym (ap (option_map (λ (volume : Volume). Attached id node)) (ap (λ n. volume_with_id n controller) (sym same) ∙ gone)) ∙ seen)

  -- a plugin sees the thing of each call, or none
  pub call-seen : (name : List ℕ) (party : Party) (call : Call) (thing : PluginThing) → IsOwn given name party call → plugin_thing_at name party call ≡ Some thing
      → (thing_seen controller party call ≡ Some thing) ⊎ (thing_seen controller party call ≡ None)
  call-seen name Controller (calls.CreateVolume create required limit capabilities) thing own e = inl (ap (λ k. Some (Exists k)) own ∙ e)
  call-seen name Controller (calls.DeleteVolume id) thing own e = ⊎_elim (λ seen. inl (seen ∙ e)) (λ none. inr none) (deletes-seen name id own (volume_with_id id controller) refl)
  call-seen name Controller (calls.ControllerPublishVolume id node capability readonly) thing own e = ⊎_elim (λ seen. inl (seen ∙ e)) (λ none. inr none) (attaches-seen id node (volume_with_id id controller))
  call-seen name Controller (calls.ControllerUnpublishVolume id node) thing own e = ⊎_elim (λ seen. inl (seen ∙ e)) (λ none. inr none) (attaches-seen id node (volume_with_id id controller))
  call-seen name (Node node) (calls.NodeStageVolume id capability) thing own e = inl e
  call-seen name (Node node) (calls.NodeUnstageVolume id) thing own e = inl e
  call-seen name (Node node) (calls.NodePublishVolume id target capability readonly) thing own e = inl e
  call-seen name (Node node) (calls.NodeUnpublishVolume id target) thing own e = inl e
  call-seen name party call thing own e = absurd own

  -- where it sees one, and the volume of a given id of it isn't there, the call makes one
  pub seen-making : (name : List ℕ) (party : Party) (call : Call) (thing : PluginThing) → IsOwn given name party call → IsNowIf given name party call thing → plugin_thing_at name party call ≡ Some thing
      → thing_seen controller party call ≡ Some thing → (one : GivenId) → IsAmong one given → is_given thing one ≡ true → volume_with_id one.id controller ≡ None → is_making call ≡ true
  seen-making name Controller (calls.CreateVolume create required limit capabilities) thing own now e seen one among for gone = refl
  seen-making name Controller (calls.DeleteVolume id) thing own now e seen one among for gone =
      let is : thing ≡ Exists name = same_Some thing (Exists name) (sym e) in
      let parts = and_parts (same_text one.name name) one.now (ap (λ k. is_given k one) (sym is) ∙ for) in
      let named : HasNow given name one.id = subst (λ n. HasNow given n one.id) ((same_text-tells one.name name).0 parts.0) (now-given given one among parts.1) in
      let same : one.id ≡ id = are.one_id name one.id id named (now is) in
      absurd (none-some thing (sym (ap (option_map (λ (volume : Volume). Exists volume.name)) (ap (λ n. volume_with_id n controller) (sym same) ∙ gone)) ∙ seen))
  seen-making name Controller (calls.ControllerPublishVolume id node capability readonly) thing own now e seen one among for gone =
      absurd (attached-seen id node thing one (same_Some (Attached id node) thing e) seen for gone)
  seen-making name Controller (calls.ControllerUnpublishVolume id node) thing own now e seen one among for gone =
      absurd (attached-seen id node thing one (same_Some (Attached id node) thing e) seen for gone)
  seen-making name (Node node) (calls.NodeStageVolume id capability) thing own now e seen one among for gone = absurd (false≢true (ap (λ k. is_given k one) (same_Some (Staged id node) thing e) ∙ for))
  seen-making name (Node node) (calls.NodeUnstageVolume id) thing own now e seen one among for gone = absurd (false≢true (ap (λ k. is_given k one) (same_Some (Staged id node) thing e) ∙ for))
  seen-making name (Node node) (calls.NodePublishVolume id target capability readonly) thing own now e seen one among for gone =
      absurd (false≢true (ap (λ k. is_given k one) (same_Some (Published id node target) thing e) ∙ for))
  seen-making name (Node node) (calls.NodeUnpublishVolume id target) thing own now e seen one among for gone =
      absurd (false≢true (ap (λ k. is_given k one) (same_Some (Published id node target) thing e) ∙ for))
  seen-making name party call thing own now e seen one among for gone = absurd own

  -- an attachment that isn't seen doesn't have its volume
  attached-gone : (name : List ℕ) (id : ℕ) (node : List ℕ) → HasName given name id → option_map (λ (volume : Volume). Attached id node) (volume_with_id id controller) ≡ None → IsGone given controller (Attached id node)
  attached-gone name id node (inl has) none =
      record { one = record { name = name; id = id; now = true }; among = has; of = eq-eqb id id refl; gone = none-from_map (λ (volume : Volume). Attached id node) (volume_with_id id controller) none }
  attached-gone name id node (inr had) none =
      record { one = record { name = name; id = id; now = false }; among = had; of = eq-eqb id id refl; gone = none-from_map (λ (volume : Volume). Attached id node) (volume_with_id id controller) none }

  -- where it sees none, it doesn't have the volume
  pub unseen-gone : (name : List ℕ) (party : Party) (call : Call) (thing : PluginThing) → IsOwn given name party call → IsNowIf given name party call thing → plugin_thing_at name party call ≡ Some thing
      → thing_seen controller party call ≡ None → IsGone given controller thing
  unseen-gone name Controller (calls.CreateVolume create required limit capabilities) thing own now e none = absurd (none-some (Exists create) (sym none))
  unseen-gone name Controller (calls.DeleteVolume id) thing own now e none =
      let is : Exists name ≡ thing = same_Some (Exists name) thing e in
      subst (IsGone given controller) is
      (record { one = record { name = name; id = id; now = true }; among = now (sym is); of = and_from (same_text name name) true ((same_text-tells name name).1 refl) refl; gone = none-from_map (λ (volume : Volume). Exists volume.name) (volume_with_id id controller) none })
  unseen-gone name Controller (calls.ControllerPublishVolume id node capability readonly) thing own now e none =
      subst (IsGone given controller) (same_Some (Attached id node) thing e) (attached-gone name id node own none)
  unseen-gone name Controller (calls.ControllerUnpublishVolume id node) thing own now e none =
      subst (IsGone given controller) (same_Some (Attached id node) thing e) (attached-gone name id node own none)
  unseen-gone name (Node node) (calls.NodeStageVolume id capability) thing own now e none = absurd (none-some (Staged id node) (sym none))
  unseen-gone name (Node node) (calls.NodeUnstageVolume id) thing own now e none = absurd (none-some (Staged id node) (sym none))
  unseen-gone name (Node node) (calls.NodePublishVolume id target capability readonly) thing own now e none = absurd (none-some (Published id node target) (sym none))
  unseen-gone name (Node node) (calls.NodeUnpublishVolume id target) thing own now e none = absurd (none-some (Published id node target) (sym none))
  unseen-gone name party call thing own now e none = absurd own
