-- In which version a call is spelled: its modes are in that one, and in no other.
use Rattle.std.proofs.Common.{◌≡◌, ℕ, suc, ◌≤◌, Bool, true, false, not, ◌&&◌, ◌||◌, List, [], ◌∷◌, length, refl, sym, ap, subst, arith}
use Rattle.std.specs.Prelude.{◌==◌}
use Rattle.std.proofs.lemmas.Bool.{ne_eqb}
use Rattle.csi_types.specs.declared.mode.Mode.{Mode}
use Rattle.csi_types.specs.declared.capability.Capability.{Capability}
use Rattle.csi_types.specs.declared.call.Kind.{Kind}
use Rattle.csi_types.specs.declared.call.Kind.TheVariants as kinds
use Rattle.csi_types.specs.declared.call.Call.{Call}
use Rattle.csi_types.specs.declared.call.Call.TheVariants as calls
use Rattle.csi_types.specs.Model.Call.{kind_of}
use Rattle.csi_frames.specs.declared.body_kind.BodyKind.TheVariants as body_kinds
use Rattle.csi_frames.specs.declared.version.Version.TheVariants.{One, Two}
use Rattle.csi_frames.specs.Public.Spelling.{call_capabilities, has_new_mode}
use Rattle.csi_frames.specs.Public.Version.{has_mode, is_new_mode, least_count, owes_new_mode, version_with}
use Rattle.csi_frames.proofs.Codes.{HasMode, TakesMode, HasKind}
use Rattle.csi_frames.proofs.CapabilityReaders.{AreInModes}
use Rattle.csi_frames.proofs.CallReaders.{IsCallOf}

-- the second version has every mode
pub has_every_mode : (mode : Mode) → HasMode Two mode
has_every_mode mode = refl

-- ---- two tests

-- where neither of two tests holds, each of them fails; and one of them holds where the second does if the first fails
neither : (a b : Bool) → (a || b) ≡ false → (a ≡ false) × (b ≡ false)
neither true b e = absurd cc
neither false b e = (refl, e)

-- one of two tests holds where the second does if the first fails
one_or : (a b : Bool) → (a ≡ false → b ≡ true) → (a || b) ≡ true
one_or true b other = refl
one_or false b other = other refl

-- a test whose opposite fails holds
turned : (b : Bool) → not b ≡ false → b ≡ true
turned true e = refl
turned false e = absurd cc

-- ---- capabilities

-- capabilities of the first version aren't in a new mode, and those that aren't in one are of the first version
none_new : (cs : List Capability) → AreInModes One false cs → has_new_mode cs ≡ false
none_new [] in_modes = refl
none_new (c ∷ cs) in_modes = rw (in_modes.0, none_new cs in_modes.1) refl

-- capabilities of which none is in a new mode are of the first version
old_modes : (cs : List Capability) → has_new_mode cs ≡ false → AreInModes One false cs
old_modes [] none = tt
old_modes (c ∷ cs) none =
    let each = neither (is_new_mode c.mode) (has_new_mode cs) none in
    (turned (has_mode One c.mode) each.0, old_modes cs each.1)

-- of capabilities of the second version one is in a new mode, and those of which one is are of the second version
one_new : (c : Capability) (cs : List Capability) → AreInModes Two true (c ∷ cs) → has_new_mode (c ∷ cs) ≡ true
one_new c [] in_modes = rw in_modes.0 refl
one_new c (d ∷ ds) in_modes =
    one_or (is_new_mode c.mode) (has_new_mode (d ∷ ds)) (λ old. one_new d ds (subst (λ (b : Bool). AreInModes Two (true && not b) (d ∷ ds)) old in_modes.1))

-- all capabilities are of the second version, where no new mode is owed
any_modes : (cs : List Capability) → AreInModes Two false cs
any_modes [] = tt
any_modes (c ∷ cs) = (refl, any_modes cs)

-- the second version takes a new mode, where one is owed and where none is
new_is_taken : (owed : Bool) (mode : Mode) → is_new_mode mode ≡ true → TakesMode Two owed mode
new_is_taken true mode e = e
new_is_taken false mode e = refl

-- no new mode is owed where more are to come
before_last : (n : ℕ) (mode : Mode) → TakesMode Two (true && (suc n == 0)) mode
before_last n mode = let more : (suc n == 0) ≡ false = ne_eqb (suc n) 0 (λ e. cc) in rw more refl

-- by whether the first one is in a new mode
new_first : (b : Bool) (c : Capability) (cs : List Capability) → is_new_mode c.mode ≡ b → (b || has_new_mode cs) ≡ true → (has_new_mode cs ≡ true → AreInModes Two true cs) → AreInModes Two true (c ∷ cs)
new_first true c cs e some others = (new_is_taken (true && (length cs == 0)) c.mode e, subst (λ (b : Bool). AreInModes Two (true && not b) cs) (sym e) (any_modes cs))
new_first false c [] e some others = absurd cc
new_first false c (d ∷ ds) e some others = (before_last (length ds) c.mode, subst (λ (b : Bool). AreInModes Two (true && not b) (d ∷ ds)) (sym e) (others some))

-- capabilities of which one is in a new mode are of the second version, where one is owed
new_modes : (cs : List Capability) → has_new_mode cs ≡ true → AreInModes Two true cs
new_modes [] some = tt
new_modes (c ∷ cs) some = new_first (is_new_mode c.mode) c cs refl some (λ later. new_modes cs later)

-- ---- calls

-- a call of the first version is spelled in that one
pub in_first : (call : Call) → IsCallOf One call → One ≡ version_with (has_new_mode (call_capabilities call))
in_first (calls.CreateVolume name required limit cs) fits = ap version_with (sym (none_new cs fits.1))
in_first (calls.DeleteVolume id) fits = refl
in_first (calls.ControllerPublishVolume id node c readonly) fits = ap version_with (sym (none_new (c ∷ []) (fits, tt)))
in_first (calls.ControllerUnpublishVolume id node) fits = refl
in_first (calls.NodeStageVolume id c) fits = ap version_with (sym (none_new (c ∷ []) (fits, tt)))
in_first (calls.NodeUnstageVolume id) fits = refl
in_first (calls.NodePublishVolume id target c readonly) fits = ap version_with (sym (none_new (c ∷ []) (fits, tt)))
in_first (calls.NodeUnpublishVolume id target) fits = refl

-- and one of the second version, of a kind that it has, in the second one
pub in_second : (call : Call) → HasKind Two (body_kinds.Call (kind_of call)) → IsCallOf Two call → Two ≡ version_with (has_new_mode (call_capabilities call))
in_second (calls.CreateVolume name required limit []) has fits = absurd (omega (arith, fits.0))
in_second (calls.CreateVolume name required limit (c ∷ cs)) has fits = ap version_with (sym (one_new c cs fits.1))
in_second (calls.DeleteVolume id) has fits = absurd (cc has)
in_second (calls.ControllerPublishVolume id node c readonly) has fits = ap version_with (sym (one_new c [] (fits, tt)))
in_second (calls.ControllerUnpublishVolume id node) has fits = absurd (cc has)
in_second (calls.NodeStageVolume id c) has fits = ap version_with (sym (one_new c [] (fits, tt)))
in_second (calls.NodeUnstageVolume id) has fits = absurd (cc has)
in_second (calls.NodePublishVolume id target c readonly) has fits = ap version_with (sym (one_new c [] (fits, tt)))
in_second (calls.NodeUnpublishVolume id target) has fits = absurd (cc has)

-- the version in which a call is spelled has its kind
kept_kind : (b : Bool) (kind : Kind) → HasKind Two (body_kinds.Call kind) → HasKind (version_with b) (body_kinds.Call kind)
kept_kind true kind has = has
kept_kind false kind has = refl

-- the version in which a call is spelled has the kind of the call
pub has_its_kind : (call : Call) → HasKind (version_with (has_new_mode (call_capabilities call))) (body_kinds.Call (kind_of call))
has_its_kind (calls.CreateVolume name required limit cs) = kept_kind (has_new_mode cs) kinds.CreateVolume refl
has_its_kind (calls.DeleteVolume id) = refl
has_its_kind (calls.ControllerPublishVolume id node c readonly) = kept_kind (has_new_mode (c ∷ [])) kinds.ControllerPublishVolume refl
has_its_kind (calls.ControllerUnpublishVolume id node) = refl
has_its_kind (calls.NodeStageVolume id c) = kept_kind (has_new_mode (c ∷ [])) kinds.NodeStageVolume refl
has_its_kind (calls.NodeUnstageVolume id) = refl
has_its_kind (calls.NodePublishVolume id target c readonly) = kept_kind (has_new_mode (c ∷ [])) kinds.NodePublishVolume refl
has_its_kind (calls.NodeUnpublishVolume id target) = refl

-- and its capabilities are of that version, by whether one of them is in a new mode
list_in : (b : Bool) (cs : List Capability) → has_new_mode cs ≡ b → (least_count (version_with b) ≤ length cs) × AreInModes (version_with b) (owes_new_mode (version_with b)) cs
list_in false cs e = (omega arith, old_modes cs e)
list_in true [] e = absurd (cc e)
list_in true (c ∷ cs) e = (omega arith, new_modes (c ∷ cs) e)

-- a capability is of the version in which it is spelled alone
one_in : (b : Bool) (c : Capability) → has_new_mode (c ∷ []) ≡ b → TakesMode (version_with b) (owes_new_mode (version_with b)) c.mode
one_in false c e = (old_modes (c ∷ []) e).0
one_in true c e = (new_modes (c ∷ []) e).0

-- a call is of the version in which it is spelled
pub in_its_version : (call : Call) → IsCallOf (version_with (has_new_mode (call_capabilities call))) call
in_its_version (calls.CreateVolume name required limit cs) = list_in (has_new_mode cs) cs refl
in_its_version (calls.DeleteVolume id) = tt
in_its_version (calls.ControllerPublishVolume id node c readonly) = one_in (has_new_mode (c ∷ [])) c refl
in_its_version (calls.ControllerUnpublishVolume id node) = tt
in_its_version (calls.NodeStageVolume id c) = one_in (has_new_mode (c ∷ [])) c refl
in_its_version (calls.NodeUnstageVolume id) = tt
in_its_version (calls.NodePublishVolume id target c readonly) = one_in (has_new_mode (c ∷ [])) c refl
in_its_version (calls.NodeUnpublishVolume id target) = tt
