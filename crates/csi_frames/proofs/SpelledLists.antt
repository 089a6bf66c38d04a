-- Capabilities that a frame has are those that are read from their bytes alone, where they are wanted.
use Rattle.std.proofs.Common.{◌≡◌, ℕ, true, Bool, leb, List, [], ◌∷◌, ◌++◌, length, Some, Ok, refl, ap, subst, ◌∙◌, arith, append_assoc}
use Rattle.std.specs.List.{flat_map, AllByRecursion}
use Rattle.std.proofs.lemmas.Bool.{le-leb}
use Rattle.std.proofs.lemmas.List.{length-append, take_at, drop_at}
use Rattle.std.proofs.lemmas.List.Concat.{flat_map-cons}
use Rattle.std.proofs.lemmas.Str.{is_utf8-from_IsUtf8}
use Rattle.csi_types.specs.declared.capability.Access.{Access}
use Rattle.csi_types.specs.declared.capability.Access.TheVariants.{Block, Mount}
use Rattle.csi_types.specs.declared.capability.Capability.{Capability}
use Rattle.csi_types.specs.Public.Limits.{IsAccess, IsCapability}
use Rattle.csi_types.specs.Model.Mode.{mode_number}
use Rattle.csi_types.specs.Public.Spelled.{split_text, split_access, split_capability, split_capabilities}
use Rattle.csi_types.specs.Public.Text.{IsFsType}
use Rattle.csi_frames.specs.declared.version.Version.{Version}
use Rattle.csi_frames.specs.Public.Bytes.{AreBytes}
use Rattle.csi_frames.specs.Public.Reading.{capabilities_at}
use Rattle.csi_frames.specs.Public.Spelling as spelling
use Rattle.csi_frames.proofs.CapabilityReaders.{capabilities_agree}
use Rattle.csi_frames.proofs.Codes.{mode-found}

-- the type of a file system is read from its spelling, whatever comes behind it
text-split : (fs_type rest : List ℕ) → IsFsType fs_type → split_text (length fs_type ∷ fs_type ++ rest) ≡ Some (fs_type, rest)
text-split fs_type rest fits =
    let short : leb (length fs_type) 128 ≡ true = le-leb _ _ fits.no_longer in
    let long : leb (length fs_type) (length (fs_type ++ rest)) ≡ true = le-leb _ _ (omega (arith, length-append fs_type rest)) in
    rw (short, long, take_at fs_type rest (length fs_type) refl, is_utf8-from_IsUtf8 fs_type fits.utf8, drop_at fs_type rest (length fs_type) refl) refl

-- so is an access
access-split : (access : Access) (rest : List ℕ) → IsAccess access → split_access (spelling.access access ++ rest) ≡ Some (access, rest)
access-split Block rest fits = refl
access-split (Mount fs_type) rest fits = rw (text-split fs_type rest fits) refl

-- so is a capability
capability-split : (c : Capability) (rest : List ℕ) → IsCapability c → split_capability (spelling.capability c ++ rest) ≡ Some (c, rest)
capability-split c rest fits =
    let parts : spelling.capability c ++ rest ≡ spelling.access c.access ++ (mode_number c.mode ∷ rest) = append_assoc (spelling.access c.access) (mode_number c.mode ∷ []) rest in
    rw (parts, access-split c.access (mode_number c.mode ∷ rest) fits, mode-found c.mode) refl

-- so are some, one after another
list-split : (list : List Capability) (rest : List ℕ) → AllByRecursion IsCapability list → split_capabilities (length list) (flat_map spelling.capability list ++ rest) ≡ Some list
list-split [] rest fits = refl
list-split (c ∷ others) rest fits =
    let parts : flat_map spelling.capability (c ∷ others) ++ rest ≡ spelling.capability c ++ (flat_map spelling.capability others ++ rest) =
    ap (λ (t : List ℕ). t ++ rest) (flat_map-cons spelling.capability c others) ∙ append_assoc (spelling.capability c) (flat_map spelling.capability others) rest in
    rw (parts, capability-split c (flat_map spelling.capability others ++ rest) fits.0, list-split others rest fits.1) refl

-- the capabilities of a frame, as they were judged, are those that are read from their bytes alone
pub judged-split : (version : Version) (owed : Bool) (n : ℕ) (bytes : List ℕ) (list : List Capability) (rest : List ℕ) → AreBytes bytes → capabilities_at version owed n bytes ≡ Ok (list, rest) → split_capabilities n bytes ≡ Some list
judged-split version owed n bytes list rest fits read =
    let took = (capabilities_agree version owed n).takes bytes fits (list, rest) read in
    ap (λ (t : List ℕ). split_capabilities n t) (took.parts ∙ ap (λ (t : List ℕ). t ++ rest) took.says.are)
    ∙ subst (λ (k : ℕ). split_capabilities k (flat_map spelling.capability list ++ rest) ≡ Some list) took.says.fits.counted (list-split list rest took.says.fits.each)
