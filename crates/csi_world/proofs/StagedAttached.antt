-- What stands staged at a node, or may still come to: while anything does, the volume is known to be attached there, in
-- that capability.
use Rattle.csi_world.proofs.Words.{◌≡◌, ◌⊎◌, ℕ, List, ◌∷◌, Bool, true, false, cond, Option, Some, ◌==◌, refl, sym, ◌∙◌}
use Rattle.csi_world.proofs.Words.{ap, subst, inl, inr, ⊎_elim, Capability, Call, Kind, Party, Node, Reply, PluginView}
use Rattle.csi_world.proofs.Words.{PluginThing, Attached, Staged, StagedAs, asked, IsAmong, same_text, Issued, Item}
use Rattle.csi_world.proofs.Words.{Sent, issued_in, is_success_of, has_success, held, Number, Frame, arith}
use Rattle.csi_world.proofs.Lemmas.{and_parts, and_from, or_right, eqb-true, eq-eqb, false≢true, false_from_ne_true}
use Rattle.csi_world.proofs.Lemmas.{none-some, same_text-tells}
use Rattle.csi_types.specs.declared.call.Call.TheVariants as calls
use Rattle.csi_world.proofs.CallThings.{plugin_thing_at, is_plugin_thing, is_of}
use Rattle.csi_world.proofs.Lifetimes.{latest}
use Rattle.csi_world.proofs.RepliesTold.{IsEffect, IsSameThing, IsOver, AreEnding}

-- a NodeStageVolume that was sent
abbrev pub staging : List ℕ → Number → ℕ → List ℕ → Capability → Issued
staging name number id node capability = record { name = name; number = number; party = Node node; call = calls.NodeStageVolume id capability }

-- it is of what it stages
pub stages-own : (name : List ℕ) (number : Number) (id : ℕ) (node : List ℕ) (capability : Capability) → is_of (Staged id node) (staging name number id node capability) ≡ true
stages-own name number id node capability = and_from (id == id) (same_text node node) (eq-eqb id id refl) ((same_text-tells node node).1 refl)

-- one that may still be carried out
pub record MayStage (issued : List Issued) (view : PluginView) (id : ℕ) (node : List ℕ) (capability : Capability) : Type 0 where
  pub name : List ℕ
  pub number : Number
  pub among : IsAmong (staging name number id node capability) issued
  pub unspent : view.is_spent (Staged id node) number ≡ false

-- the volume is staged there so, or may come to be
abbrev pub IsStanding : List Issued → PluginView → ℕ → List ℕ → Capability → Type 0
IsStanding issued view id node capability = (view.held (Staged id node) ≡ Some (StagedAs capability)) ⊎ MayStage issued view id node capability

-- the latest call of where it is attached put it there so, and its success was heard
pub record IsAttachedSo (items : List Item) (id : ℕ) (node : List ℕ) (capability : Capability) : Type 0 where
  pub call : Issued
  pub readonly : Bool
  pub found : latest items (Attached id node) ≡ Some call
  pub publishes : call.call ≡ calls.ControllerPublishVolume id node capability readonly
  pub success : has_success items call.number ≡ true

-- whatever stands is attached so
abbrev pub Stands : List Item → PluginView → Type 0
Stands items view = (id : ℕ) (node : List ℕ) (capability : Capability) → IsStanding (issued_in items) view id node capability → IsAttachedSo items id node capability

-- a call that a plugin carried out
staged_by : (name : List ℕ) (party : Party) (c : Call) (reply : Reply) (id : ℕ) (node : List ℕ) (capability : Capability) → is_plugin_thing (Staged id node) (plugin_thing_at name party c) ≡ true → asked c reply ≡ Some (StagedAs capability)
    → (party ≡ Node node) × (c ≡ calls.NodeStageVolume id capability)
staged_by name party c reply id node capability of asks = grind (arith, and_parts, eqb-true, same_text-tells, none-some, false≢true)

-- whatever stands is attached so after a plugin answered a sent call, since it stood before
pub stands-answered : (items : List Item) (frames : List Frame) (old new : PluginView) (call : Issued) (thing : PluginThing) (kind : Kind) (reply : Reply)
    → IsEffect (issued_in items) frames old new call thing kind reply
    → Stands items old → Stands items new
stands-answered items frames old new call thing kind reply effect stands id node capability standing = stands id node capability (before standing)
  where
    carried_out : Staged id node ≡ thing → old.is_spent thing call.number ≡ false → asked call.call reply ≡ Some (StagedAs capability) → IsStanding (issued_in items) old id node capability
    carried_out same fresh asks =
        let is = staged_by call.name call.party call.call reply id node capability (ap (λ k. is_of k call) same ∙ effect.of) asks in
        let whole : call ≡ staging call.name call.number id node capability = λ i. record { name = call.name; number = call.number; party = is.0 i; call = is.1 i } in
        let among = subst (λ (x : Issued). IsAmong x (issued_in items)) whole effect.among in
        inr (record { name = call.name; number = call.number; among = among; unspent = ap (λ k. old.is_spent k call.number) same ∙ fresh })

    before : IsStanding (issued_in items) new id node capability → IsStanding (issued_in items) old id node capability
    before (inl held) = ⊎_elim (λ same. inl (sym same ∙ held)) (λ now. carried_out now.same now.fresh (sym now.now ∙ held)) (effect.held (Staged id node))
    before (inr may) =
        let unspent = false_from_ne_true (old.is_spent (Staged id node) may.number) (λ e. false≢true (sym may.unspent ∙ effect.spent (Staged id node) may.number e)) in
        inr (record { name = may.name; number = may.number; among = may.among; unspent = unspent })

-- an item that sends nothing
pub stands-noted : (items : List Item) (item : Item) (view : PluginView) → issued_in (item ∷ items) ≡ issued_in items
    → ((id : ℕ) (node : List ℕ) → latest (item ∷ items) (Attached id node) ≡ latest items (Attached id node)) → Stands items view → Stands (item ∷ items) view
stands-noted items item view same same_latest stands id node capability standing =
    let so = stands id node capability (subst (λ (list : List Issued). IsStanding list view id node capability) same standing) in
    record {
      call = so.call;
      readonly = so.readonly;
      found = same_latest id node ∙ so.found;
      publishes = so.publishes;
      success = or_right (is_success_of so.call.number item) (has_success items so.call.number) so.success;
    }

-- what stands where things ended stood before
pub stands-ended : (items : List Item) (before after : PluginThing → Option Issued) (old new : PluginView) → AreEnding (issued_in items) before after old new → Stands items old → Stands items new
stands-ended items before after old new ending stands id node capability standing = stands id node capability (stood standing (ending (Staged id node)))
  where
    stood : IsStanding (issued_in items) new id node capability → IsSameThing (issued_in items) before after old new (Staged id node) ⊎ IsOver (issued_in items) after old new (Staged id node)
        → IsStanding (issued_in items) old id node capability
    stood (inl held) (inl same) = inl (sym same.held ∙ held)
    stood (inl held) (inr over) = absurd (none-some (StagedAs capability) (sym over.held ∙ held))
    stood (inr may) (inl same) =
        inr (record {
          name = may.name;
          number = may.number;
          among = may.among;
          unspent = false_from_ne_true (old.is_spent (Staged id node) may.number) (λ e. false≢true (sym may.unspent ∙ same.spent (staging may.name may.number id node capability) may.among (stages-own may.name may.number id node capability) e));
        })
    stood (inr may) (inr over) = absurd (false≢true (sym may.unspent ∙ over.spent (staging may.name may.number id node capability) may.among (stages-own may.name may.number id node capability)))

-- a call is sent: it isn't of where a standing volume is attached, and stages only what is attached so
pub stands-sent : (items : List Item) (call : Issued) (view : PluginView) → Stands items view
    → ((id : ℕ) (node : List ℕ) (capability : Capability) → IsStanding (issued_in items) view id node capability → is_of (Attached id node) call ≡ false)
    → ((id : ℕ) (node : List ℕ) (capability : Capability) → call.party ≡ Node node → call.call ≡ calls.NodeStageVolume id capability → IsAttachedSo items id node capability)
    → Stands (Sent call ∷ items) view
stands-sent items call view stands leaves stages id node capability standing =
    ⊎_elim (λ held. stood (inl held)) (λ may.
    ⊎_elim (λ e. later (stages id node capability (ap (λ (x : Issued). x.party) (sym e)) (ap (λ (x : Issued). x.call) (sym e))) (ap (is_of (Attached id node)) (sym e)))
    (λ there. stood (inr (record { name = may.name; number = may.number; among = there; unspent = may.unspent }))) may.among) standing
  where
    later : IsAttachedSo items id node capability → is_of (Attached id node) call ≡ false → IsAttachedSo (Sent call ∷ items) id node capability
    later so other =
        let found = ap (λ b. cond b (Some call) (latest items (Attached id node))) other ∙ so.found in
        record { call = so.call; readonly = so.readonly; found = found; publishes = so.publishes; success = so.success }

    stood : IsStanding (issued_in items) view id node capability → IsAttachedSo (Sent call ∷ items) id node capability
    stood old = later (stands id node capability old) (leaves id node capability old)
