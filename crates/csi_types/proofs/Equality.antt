-- The tests of equality are true of equal values, and of no others.
use Rattle.std.proofs.Common.{◌≡◌, ◌↔◌, ℕ, List, Bool, true, false, refl, ap, sym, subst}
use Rattle.std.specs.Prelude.{IsTrue, ◌==◌, ◌&&◌}
use Rattle.std.specs.Cmp.Lexicographic.{bytes_decides}
use Rattle.std.proofs.lemmas.Bool.{and_parts, and_from, eqb-true, eq-eqb, false≢true}
use Rattle.csi_types.specs.declared.mode.Mode.{Mode}
use Rattle.csi_types.specs.declared.mode.Mode.TheVariants.{SingleNodeWriter, SingleNodeReaderOnly, MultiNodeReaderOnly, MultiNodeSingleWriter, MultiNodeMultiWriter, SingleNodeSingleWriter, SingleNodeMultiWriter}
use Rattle.csi_types.specs.declared.capability.Access.{Access}
use Rattle.csi_types.specs.declared.capability.Access.TheVariants.{Block, Mount}
use Rattle.csi_types.specs.declared.capability.Capability.{Capability}
use Rattle.csi_types.specs.declared.holding.Holding.{Holding}
use Rattle.csi_types.specs.declared.number.Number.{Number}
use Rattle.csi_types.specs.declared.call.Kind.{Kind}
use Rattle.csi_types.specs.declared.call.Kind.TheVariants as kinds
use Rattle.csi_types.specs.declared.call.Party.{Party}
use Rattle.csi_types.specs.declared.call.Party.TheVariants.{Controller, Node}
use Rattle.csi_types.specs.Model.Mode.{mode_number}
use Rattle.csi_types.specs.Model.Same.{same_text, same_flag, same_access, same_capability, same_number, kind_number, same_kind, same_party}
use Rattle.csi_types.specs.Model.Holding.{same_holding}
use Rattle.csi_types.specs.Public.PluginThing.{PluginThing, Exists, Attached, Staged, Published, same_plugin_thing}

-- the test of two texts holds exactly where they are equal
pub same_text-tells : (a b : List ℕ) → IsTrue (same_text a b) ↔ (a ≡ b)
same_text-tells a b = bytes_decides a b

-- of flags, accesses, capabilities and more below: values that pass the test are equal, and each value passes with itself
same_flag-then : (a b : Bool) → same_flag a b ≡ true → a ≡ b
same_flag-then true b h = sym h
same_flag-then false true h = absurd (false≢true h)
same_flag-then false false h = refl

-- a flag passes with itself
same_flag-self : (a : Bool) → same_flag a a ≡ true
same_flag-self true = refl
same_flag-self false = refl

-- modes that have the same number are equal
mode_number-then : (a b : Mode) → mode_number a ≡ mode_number b → a ≡ b
mode_number-then SingleNodeWriter SingleNodeWriter h = refl
mode_number-then SingleNodeReaderOnly SingleNodeReaderOnly h = refl
mode_number-then MultiNodeReaderOnly MultiNodeReaderOnly h = refl
mode_number-then MultiNodeSingleWriter MultiNodeSingleWriter h = refl
mode_number-then MultiNodeMultiWriter MultiNodeMultiWriter h = refl
mode_number-then SingleNodeSingleWriter SingleNodeSingleWriter h = refl
mode_number-then SingleNodeMultiWriter SingleNodeMultiWriter h = refl
mode_number-then a b h = cc

-- accesses that pass the test are equal
same_access-then : (a b : Access) → same_access a b ≡ true → a ≡ b
same_access-then Block Block h = refl
same_access-then Block (Mount f) h = absurd (false≢true h)
same_access-then (Mount f) Block h = absurd (false≢true h)
same_access-then (Mount f) (Mount g) h = ap Mount ((same_text-tells f g).0 h)

-- an access passes with itself
same_access-self : (a : Access) → same_access a a ≡ true
same_access-self Block = refl
same_access-self (Mount f) = (same_text-tells f f).1 refl

-- capabilities that pass the test are equal
same_capability-then : (a b : Capability) → same_capability a b ≡ true → a ≡ b
same_capability-then a b h =
    let parts = and_parts (same_access a.access b.access) (mode_number a.mode == mode_number b.mode) h in
    let access = same_access-then a.access b.access parts.0 in
    let mode = mode_number-then a.mode b.mode (eqb-true (mode_number a.mode) (mode_number b.mode) parts.1) in
    λ i. record { access = access i; mode = mode i }

-- a capability passes with itself
same_capability-self : (a : Capability) → same_capability a a ≡ true
same_capability-self a =
    and_from (same_access a.access a.access) (mode_number a.mode == mode_number a.mode) (same_access-self a.access) (eq-eqb (mode_number a.mode) (mode_number a.mode) refl)

-- the test of two capabilities holds exactly where they are equal; below the same of holdings, numbers, kinds, parties and things
pub same_capability-tells : (a b : Capability) → IsTrue (same_capability a b) ↔ (a ≡ b)
same_capability-tells a b =
    (same_capability-then a b, λ e. subst (λ x. same_capability a x ≡ true) e (same_capability-self a))

-- holdings that pass the test are equal
same_holding-then : (a b : Holding) → same_holding a b ≡ true → a ≡ b
same_holding-then a b h =
    let last = and_parts ((a.volume == b.volume) && same_text a.node b.node && same_capability a.capability b.capability) (same_flag a.readonly b.readonly) h in
    let third = and_parts ((a.volume == b.volume) && same_text a.node b.node) (same_capability a.capability b.capability) last.0 in
    let first = and_parts (a.volume == b.volume) (same_text a.node b.node) third.0 in
    let volume = eqb-true a.volume b.volume first.0 in
    let node = (same_text-tells a.node b.node).0 first.1 in
    let capability = same_capability-then a.capability b.capability third.1 in
    let readonly = same_flag-then a.readonly b.readonly last.1 in
    λ i. record { volume = volume i; node = node i; capability = capability i; readonly = readonly i }

-- a holding passes with itself
same_holding-self : (a : Holding) → same_holding a a ≡ true
same_holding-self a =
    and_from _ _ (and_from _ _ (and_from _ _ (eq-eqb a.volume a.volume refl) ((same_text-tells a.node a.node).1 refl)) (same_capability-self a.capability)) (same_flag-self a.readonly)

-- the test of two holdings holds exactly where they are equal
pub same_holding-tells : (a b : Holding) → IsTrue (same_holding a b) ↔ (a ≡ b)
same_holding-tells a b =
    (same_holding-then a b, λ e. subst (λ x. same_holding a x ≡ true) e (same_holding-self a))

-- numbers of calls that pass the test are equal
same_number-then : (a b : Number) → same_number a b ≡ true → a ≡ b
same_number-then a b h =
    let parts = and_parts (a.session == b.session) (a.call == b.call) h in
    let session = eqb-true a.session b.session parts.0 in
    let call = eqb-true a.call b.call parts.1 in
    λ i. record { session = session i; call = call i }

-- a call's number passes with itself
same_number-self : (a : Number) → same_number a a ≡ true
same_number-self a =
    and_from (a.session == a.session) (a.call == a.call) (eq-eqb a.session a.session refl) (eq-eqb a.call a.call refl)

-- the test of two numbers of calls holds exactly where they are equal
pub same_number-tells : (a b : Number) → IsTrue (same_number a b) ↔ (a ≡ b)
same_number-tells a b =
    (same_number-then a b, λ e. subst (λ x. same_number a x ≡ true) e (same_number-self a))

-- kinds that have the same number are equal
kind_number-then : (a b : Kind) → kind_number a ≡ kind_number b → a ≡ b
kind_number-then kinds.CreateVolume kinds.CreateVolume h = refl
kind_number-then kinds.DeleteVolume kinds.DeleteVolume h = refl
kind_number-then kinds.ControllerPublishVolume kinds.ControllerPublishVolume h = refl
kind_number-then kinds.ControllerUnpublishVolume kinds.ControllerUnpublishVolume h = refl
kind_number-then kinds.NodeStageVolume kinds.NodeStageVolume h = refl
kind_number-then kinds.NodeUnstageVolume kinds.NodeUnstageVolume h = refl
kind_number-then kinds.NodePublishVolume kinds.NodePublishVolume h = refl
kind_number-then kinds.NodeUnpublishVolume kinds.NodeUnpublishVolume h = refl
kind_number-then a b h = cc

-- the test of two kinds holds exactly where they are equal
pub same_kind-tells : (a b : Kind) → IsTrue (same_kind a b) ↔ (a ≡ b)
same_kind-tells a b =
    (λ h. kind_number-then a b (eqb-true (kind_number a) (kind_number b) h), λ e. eq-eqb (kind_number a) (kind_number b) (ap kind_number e))

-- parties that pass the test are equal
same_party-then : (a b : Party) → same_party a b ≡ true → a ≡ b
same_party-then Controller Controller h = refl
same_party-then Controller (Node id) h = absurd (false≢true h)
same_party-then (Node id) Controller h = absurd (false≢true h)
same_party-then (Node id) (Node other) h = ap Node ((same_text-tells id other).0 h)

-- a party passes with itself
same_party-self : (a : Party) → same_party a a ≡ true
same_party-self Controller = refl
same_party-self (Node id) = (same_text-tells id id).1 refl

-- the test of two parties holds exactly where they are equal
pub same_party-tells : (a b : Party) → IsTrue (same_party a b) ↔ (a ≡ b)
same_party-tells a b =
    (same_party-then a b, λ e. subst (λ x. same_party a x ≡ true) e (same_party-self a))

-- things that pass the test are equal
same_plugin_thing-then : (a b : PluginThing) → same_plugin_thing a b ≡ true → a ≡ b
same_plugin_thing-then (Exists name) (Exists other) h = ap Exists ((same_text-tells name other).0 h)
same_plugin_thing-then (Attached id node) (Attached other there) h =
    let parts = and_parts (id == other) (same_text node there) h in
    λ i. Attached (eqb-true id other parts.0 i) ((same_text-tells node there).0 parts.1 i)
same_plugin_thing-then (Staged id node) (Staged other there) h =
    let parts = and_parts (id == other) (same_text node there) h in
    λ i. Staged (eqb-true id other parts.0 i) ((same_text-tells node there).0 parts.1 i)
same_plugin_thing-then (Published id node target) (Published other there aim) h =
    let parts = and_parts ((id == other) && same_text node there) (same_text target aim) h in
    let place = and_parts (id == other) (same_text node there) parts.0 in
    λ i. Published (eqb-true id other place.0 i) ((same_text-tells node there).0 place.1 i) ((same_text-tells target aim).0 parts.1 i)
same_plugin_thing-then a b h = cc

-- a thing passes with itself
same_plugin_thing-self : (a : PluginThing) → same_plugin_thing a a ≡ true
same_plugin_thing-self (Exists name) = (same_text-tells name name).1 refl
same_plugin_thing-self (Attached id node) = and_from _ _ (eq-eqb id id refl) ((same_text-tells node node).1 refl)
same_plugin_thing-self (Staged id node) = and_from _ _ (eq-eqb id id refl) ((same_text-tells node node).1 refl)
same_plugin_thing-self (Published id node target) =
    and_from _ _ (and_from _ _ (eq-eqb id id refl) ((same_text-tells node node).1 refl)) ((same_text-tells target target).1 refl)

-- the test of two things holds exactly where they are equal
pub same_plugin_thing-tells : (a b : PluginThing) → IsTrue (same_plugin_thing a b) ↔ (a ≡ b)
same_plugin_thing-tells a b =
    (same_plugin_thing-then a b, λ e. subst (λ x. same_plugin_thing a x ≡ true) e (same_plugin_thing-self a))
