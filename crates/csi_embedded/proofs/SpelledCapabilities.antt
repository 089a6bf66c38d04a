-- Capabilities that bytes spell, read from their front.
use Rattle.std.proofs.Common.{◌≡◌, ℕ, ◌≤◌, Bool, true, false, nat_eq, List, [], ◌∷◌, ◌++◌, length, Ok, Err, refl, sym, ap, subst, ◌∙◌, append_assoc, arith}
use Rattle.std.specs.List.{flat_map, AllByRecursion}
use Rattle.std.proofs.lemmas.Bool.{true≢false, eqb-true}
use Rattle.std.proofs.lemmas.List.{append-nil, length-append}
use Rattle.std.proofs.lemmas.List.Concat.{flat_map-cons}
use Rattle.csi_types.specs.declared.capability.Capability.{Capability}
use Rattle.csi_types.specs.declared.mode.Mode.{Mode}
use Rattle.csi_types.specs.declared.mode.Mode.TheVariants as modes
use Rattle.csi_types.specs.Public.Limits.{IsCapability}
use Rattle.csi_frames.specs.declared.fields.FieldStop.{FieldStop}
use Rattle.csi_frames.specs.declared.version.Version.TheVariants.{Two}
use Rattle.csi_frames.specs.Public.Bytes.{AreBytes}
use Rattle.csi_frames.specs.Public.Grammar.{End}
use Rattle.csi_frames.specs.Public.Reading.{capability_at}
use Rattle.csi_frames.specs.Public.Spelling.{access, capability}
use Rattle.csi_types.specs.Model.Mode.{mode_number}
use Rattle.csi_types.proofs.Each.{each-append_one}
use Rattle.csi_records.proofs.WritingPieces.{flat_map-push}
use Rattle.csi_frames.proofs.CapabilityReaders.{capability_agrees}
use Rattle.csi_frames.proofs.Codes.{TakesMode}
use Rattle.csi_frames.proofs.Readers.{done, ok_is}
use Rattle.csi_frames.proofs.Bytes.{AreBytes-back}
use Rattle.csi_embedded.specs.declared.ending.CallEnding.{CallEnding}
use Rattle.csi_embedded.specs.declared.ending.CallEnding.TheVariants.{NoMemory, BadName}
use Rattle.csi_embedded.specs.Private.Asking.{IsNoFront}
use Rattle.csi_embedded.specs.Public.Asking.{HasNone, SpellsCapability, SpellsCapabilities}

-- the second version has each mode
has-mode : (mode : Mode) → TakesMode Two false mode
has-mode modes.SingleNodeWriter = refl
has-mode modes.SingleNodeReaderOnly = refl
has-mode modes.MultiNodeReaderOnly = refl
has-mode modes.MultiNodeSingleWriter = refl
has-mode modes.MultiNodeMultiWriter = refl
has-mode modes.SingleNodeSingleWriter = refl
has-mode modes.SingleNodeMultiWriter = refl

-- what a capability spells is read again, whatever comes behind it
again : (one : Capability) (rest : List ℕ) → IsCapability one → capability_at Two (capability one ++ rest) ≡ Ok (one, rest)
again one rest fits = (capability_agrees Two End).again one (capability one) rest (record { fits = record { fits = fits; in_mode = has-mode one.mode }; are = refl })

-- where none is read, none is spelled
pub none-front : (bytes : List ℕ) (stop : FieldStop) → capability_at Two bytes ≡ Err stop → IsNoFront bytes BadName
none-front bytes stop read = λ one rest fits are. absurd (differs one rest (sym (again one rest fits) ∙ ap (capability_at Two) (sym are) ∙ read))
  where
    differs : (one : Capability) (rest : List ℕ) → done one rest ≡ Err stop → ⊥
    differs one rest e = cc

-- what was read is spelled
pub record IsFront (bytes : List ℕ) (one : Capability) (rest : List ℕ) : Type 0 where
  pub fits : IsCapability one
  pub are : bytes ≡ capability one ++ rest

-- so it is of bytes
pub front-read : (bytes : List ℕ) (one : Capability) (rest : List ℕ) → AreBytes bytes → capability_at Two bytes ≡ Ok (one, rest) → IsFront bytes one rest
front-read bytes one rest fits read =
    let took = (capability_agrees Two End).takes bytes fits (one, rest) read in
    record { fits = took.says.fits.fits; are = took.parts ∙ ap (λ (t : List ℕ). t ++ rest) took.says.are }

-- one that is spelled at the front is the one that is read
pub front-same : (bytes : List ℕ) (one other : Capability) (rest more : List ℕ) → capability_at Two bytes ≡ Ok (one, rest) → IsCapability other → bytes ≡ capability other ++ more
    → (other ≡ one) × (more ≡ rest)
front-same bytes one other rest more read fits are =
    let same = ok_is other more (one, rest) (sym (again other more fits) ∙ ap (capability_at Two) (sym are) ∙ read) in
    (ap (λ p. p.0) same, ap (λ p. p.1) same)

-- ---- whether bytes are left

-- there are none, by the test
pub empty-is : (xs : List ℕ) (empty : Bool) → empty ≡ nat_eq (length xs) 0 → empty ≡ true → xs ≡ []
empty-is [] empty is yes_ = refl
empty-is (x ∷ xs) empty is yes_ = absurd (omega (arith, eqb-true _ _ (sym is ∙ yes_)))

-- there are some
pub some-left : (xs : List ℕ) (empty : Bool) → empty ≡ nat_eq (length xs) 0 → empty ≡ false → xs ≡ [] → ⊥
some-left [] empty is not_ none = true≢false (sym is ∙ not_)
some-left (x ∷ xs) empty is not_ none = absurd cc

-- ---- one

-- a capability behind which nothing is left is spelled by all the bytes
pub one-spelled : (bytes : List ℕ) (one : Capability) (rest : List ℕ) → AreBytes bytes → capability_at Two bytes ≡ Ok (one, rest) → rest ≡ [] → SpellsCapability bytes one
one-spelled bytes one rest fits read none =
    let front = front-read bytes one rest fits read in
    record { fits = front.fits; are = front.are ∙ ap (λ (t : List ℕ). capability one ++ t) none ∙ append-nil (capability one) }

-- where something is left behind it, none is
pub one-missed : (bytes : List ℕ) (one : Capability) (rest : List ℕ) → capability_at Two bytes ≡ Ok (one, rest) → (rest ≡ [] → ⊥) → HasNone (SpellsCapability bytes) BadName
one-missed bytes one rest read some = λ other spelled. some (sym (front-same bytes one other rest [] read spelled.fits (spelled.are ∙ sym (append-nil (capability other)))).1)

-- where none is read at the front, none is
pub one-none : (bytes : List ℕ) (ending : CallEnding) → IsNoFront bytes ending → HasNone (SpellsCapability bytes) ending
one-none bytes NoMemory none = tt
one-none bytes BadName none = λ one spelled. none one [] spelled.fits (spelled.are ∙ sym (append-nil (capability one)))
one-none bytes _ none = none

-- ---- some

-- these were read so far, and this is left
pub record IsSoFar (bytes : List ℕ) (list : List Capability) (left : List ℕ) : Type 0 where
  pub each : AllByRecursion IsCapability list
  pub are : bytes ≡ flat_map capability list ++ left

-- what is left of other capabilities, once these were read
record IsRest (list other : List Capability) (left : List ℕ) : Type 0 where
  more : List Capability
  is : other ≡ list ++ more
  each : AllByRecursion IsCapability more
  are : flat_map capability more ≡ left

-- a capability has bytes
some-bytes : (c : Capability) (cs : List Capability) (left : List ℕ) → [] ≡ flat_map capability (c ∷ cs) ++ left → ⊥
some-bytes c cs left e =
    omega (
      arith,
      ap length e,
      length-append (flat_map capability (c ∷ cs)) left,
      ap length (flat_map-cons capability c cs),
      length-append (capability c) (flat_map capability cs),
      length-append (access c.access) (mode_number c.mode ∷ []),
    )

-- where bytes spell other capabilities too, they are these and some more
rest-of : (list other : List Capability) (left : List ℕ) → AllByRecursion IsCapability list → AllByRecursion IsCapability other → flat_map capability other ≡ flat_map capability list ++ left → IsRest list other left
rest-of [] other left fits fit e = record { more = other; is = refl; each = fit; are = e }
rest-of (c ∷ cs) [] left fits fit e = absurd (some-bytes c cs left e)
rest-of (c ∷ cs) (d ∷ ds) left fits fit e =
    let whole : capability d ++ flat_map capability ds ≡ capability c ++ (flat_map capability cs ++ left) =
    sym (flat_map-cons capability d ds) ∙ e ∙ ap (λ (t : List ℕ). t ++ left) (flat_map-cons capability c cs) ∙ append_assoc (capability c) (flat_map capability cs) left in
    let same = ok_is d (flat_map capability ds) (c, flat_map capability cs ++ left) (sym (again d (flat_map capability ds) fit.0) ∙ ap (capability_at Two) whole ∙ again c (flat_map capability cs ++ left) fits.0) in
    let rest = rest-of cs ds left fits.1 fit.1 (ap (λ p. p.1) same) in
    record {
      more = rest.more;
      is = ap (λ (x : Capability). x ∷ ds) (ap (λ p. p.0) same) ∙ ap (λ (xs : List Capability). c ∷ xs) rest.is;
      each = rest.each;
      are = rest.are;
    }

-- none are read of no bytes
pub none-so-far : (bytes : List ℕ) → IsSoFar bytes [] bytes
none-so-far bytes = record { each = tt; are = refl }

-- so it is with one more
pub one-more : (bytes : List ℕ) (list : List Capability) (left rest : List ℕ) (one : Capability) → AreBytes bytes → IsSoFar bytes list left → capability_at Two left ≡ Ok (one, rest)
    → IsSoFar bytes (list ++ one ∷ []) rest
one-more bytes list left rest one fits so_far read =
    let front = front-read left one rest (AreBytes-back (flat_map capability list) left (subst AreBytes so_far.are fits)) read in
    let pushed : flat_map capability (list ++ one ∷ []) ≡ flat_map capability list ++ capability one = flat_map-push capability list one in
    record {
      each = each-append_one IsCapability list one so_far.each front.fits;
      are =
          so_far.are ∙ ap (λ (t : List ℕ). flat_map capability list ++ t) front.are ∙ sym (append_assoc (flat_map capability list) (capability one) rest)
          ∙ ap (λ (t : List ℕ). t ++ rest) (sym pushed);
    }

-- where nothing is left, the bytes spell these
pub all-spelled : (bytes : List ℕ) (list : List Capability) (left : List ℕ) → IsSoFar bytes list left → length list ≤ 8 → left ≡ [] → SpellsCapabilities bytes list
all-spelled bytes list left so_far few none = record {
  few = few;
  each = so_far.each;
  are = so_far.are ∙ ap (λ (t : List ℕ). flat_map capability list ++ t) none ∙ append-nil (flat_map capability list);
}

-- where something is left behind eight, they spell none
pub too-many : (bytes : List ℕ) (list : List Capability) (left : List ℕ) → IsSoFar bytes list left → 8 ≤ length list → (left ≡ [] → ⊥) → HasNone (SpellsCapabilities bytes) BadName
too-many bytes list left so_far many some = λ other spelled.
    let rest = rest-of list other left so_far.each spelled.each (sym spelled.are ∙ so_far.are) in
    by rest.more rest.are (omega (arith, ap length rest.is, length-append list rest.more, spelled.few))
  where
    by : (more : List Capability) → flat_map capability more ≡ left → length more ≤ 0 → ⊥
    by [] are few = some (sym are)
    by (c ∷ cs) are few = absurd (omega (arith, few))

-- where none is read of what is left, they spell none
pub some-none : (bytes : List ℕ) (list : List Capability) (left : List ℕ) (ending : CallEnding) → IsSoFar bytes list left → (left ≡ [] → ⊥) → IsNoFront left ending → HasNone (SpellsCapabilities bytes) ending
some-none bytes list left NoMemory so_far some none = tt
some-none bytes list left BadName so_far some none = λ other spelled.
    let rest = rest-of list other left so_far.each spelled.each (sym spelled.are ∙ so_far.are) in
    by rest.more rest.each rest.are
  where
    by : (more : List Capability) → AllByRecursion IsCapability more → flat_map capability more ≡ left → ⊥
    by [] each are = some (sym are)
    by (c ∷ cs) each are = none c (flat_map capability cs) each.0 (sym are ∙ flat_map-cons capability c cs)
some-none bytes list left _ so_far some none = none
