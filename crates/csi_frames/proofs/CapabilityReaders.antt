-- The readers of capabilities agree with the grammar, and what they read is spelled so.
use Rattle.std.proofs.Common.{◌≡◌, ℕ, zero, suc, Bool, true, false, cond, List, [], ◌∷◌, ◌++◌, length, refl, sym, ap, subst, ◌∙◌, arith}
use Rattle.std.specs.Prelude.{◌==◌, ◌&&◌, not, nat_lt}
use Rattle.std.specs.List.{flat_map, AllByRecursion}
use Rattle.std.proofs.lemmas.Bool.{ltb-true, lt-ltb, leb-true}
use Rattle.std.proofs.lemmas.List.Concat.{flat_map-cons}
use Rattle.csi_types.specs.declared.mode.Mode.{Mode}
use Rattle.csi_types.specs.declared.capability.Access.{Access}
use Rattle.csi_types.specs.declared.capability.Access.TheVariants.{Block, Mount}
use Rattle.csi_types.specs.declared.capability.Capability.{Capability}
use Rattle.csi_types.specs.Model.Mode.{mode_number}
use Rattle.csi_types.specs.Public.Text.{IsText}
use Rattle.csi_types.specs.Public.VolumeId.{IsVolumeId}
use Rattle.csi_types.specs.Public.Limits.{IsWord, IsAccess, IsCapability}
use Rattle.csi_frames.specs.declared.fault.FaultKind.TheVariants.{BadMode, BadAccess, BadFlag}
use Rattle.csi_frames.specs.Public.Codes.{is_mode, mode_of}
use Rattle.csi_frames.specs.Public.Version.{is_new_mode}
use Rattle.csi_frames.specs.Public.Spelling as spelling
use Rattle.csi_frames.specs.Public.Grammar.{Grammar, End, Byte, Word, Text, any, at_most, mode_grammar, capability_grammar, capabilities_grammar}
use Rattle.csi_frames.specs.Public.Reading.{word_at, text_at, id_at, flag_at, access_at, mode_at, owed_capability_at, capability_at, capabilities_at}
use Rattle.csi_frames.proofs.Readers.{Agrees, Then, then, Given, gives, in_words, Either, either}
use Rattle.csi_frames.proofs.FieldReaders.{IsByte, byte_agrees, word_agrees, text_agrees}
use Rattle.csi_frames.proofs.Says.{Spelled, After, Made, after, makes, Always, code_agrees}
use Rattle.csi_frames.specs.declared.version.Version.{Version}
use Rattle.csi_frames.proofs.Codes.{TakesMode, mode_code, flag_code, flag_number}

-- ---- words, texts, flags

-- this and the next four: the reader of each single field agrees with the grammar, and its values have one spelling
pub any_word_agrees : (next : ℕ → Grammar) → Agrees (word_at any) (Spelled IsWord spelling.word) (Word any next) next
any_word_agrees next =
    in_words (Spelled IsWord spelling.word) (λ n bytes s. record { fits = s.fits; are = s.eight }) (λ n bytes s. record { fits = s.fits; is_allowed = refl; eight = s.are }) (word_agrees any next)

-- the reader of an id agrees with the grammar
pub id_agrees : (next : ℕ → Grammar) → Agrees id_at (Spelled IsVolumeId spelling.word) (Word (nat_lt 0) next) next
unfolding id_at
id_agrees next =
    in_words (Spelled IsVolumeId spelling.word)
    (λ n bytes s. record { fits = record { from_one = ltb-true _ _ s.is_allowed; in_range = s.fits }; are = s.eight })
    (λ n bytes s. record { fits = s.fits.in_range; is_allowed = lt-ltb _ _ s.fits.from_one; eight = s.are })
    (word_agrees (nat_lt 0) next)

-- so does that of a text between two limits
pub any_text_agrees : (least most : ℕ) (next : List ℕ → Grammar) → Agrees (text_at least most) (Spelled (IsText least most) spelling.text) (Text least most next) next
any_text_agrees least most next =
    in_words (Spelled (IsText least most) spelling.text) (λ t bytes s. record { fits = s.fits; are = s.counted }) (λ t bytes s. record { fits = s.fits; counted = s.are }) (text_agrees least most next)

-- so does that of a flag
pub flag_agrees : (next : Bool → Grammar) → Agrees flag_at (Spelled Always spelling.flag) (Byte (at_most 1) BadFlag (λ b. next (b == 1))) next
unfolding flag_at
flag_agrees next = code_agrees Always (at_most 1) BadFlag (λ b. b == 1) flag_number next flag_code

-- so does that of a mode, where a new one is owed and where none is
pub mode_agrees : (version : Version) (owed : Bool) (next : Mode → Grammar) → Agrees (mode_at version owed) (Spelled (TakesMode version owed) (λ mode. mode_number mode ∷ [])) (mode_grammar version owed next) next
unfolding mode_at
mode_agrees version owed next = code_agrees (TakesMode version owed) (is_mode version owed) BadMode mode_of mode_number next (mode_code version owed)

-- ---- capabilities

-- the bytes behind an access's first one were read as the rest of this access
abbrev WasAccess : ℕ → Access → List ℕ → Type 0
WasAccess b = Either (b == 0) (Given Block) (Made (IsText 0 128) spelling.text Mount)

-- an access that was read by its first byte is within its limits, and is spelled so
access-there : (b : ℕ) → at_most 1 b ≡ true → (value : Access) (back : List ℕ) → WasAccess b value back → Spelled IsAccess spelling.access value (b ∷ back)
access-there zero low value back s =
    subst (λ (v : Access). Spelled IsAccess spelling.access v (0 ∷ back)) (sym s.same) (record { fits = tt; are = ap (λ (t : List ℕ). 0 ∷ t) s.none })
access-there (suc zero) low value back s =
    subst (λ (v : Access). Spelled IsAccess spelling.access v (1 ∷ back)) (sym s.same) (record { fits = s.fits; are = ap (λ (t : List ℕ). 1 ∷ t) s.are })
access-there (suc (suc n)) low value back s = absurd (omega (arith, leb-true (suc (suc n)) 1 low))

-- the bytes were read as an access's first byte and the rest of it
abbrev SaysAccess : Access → List ℕ → Type 0
SaysAccess = Then (IsByte (at_most 1)) WasAccess

-- the spelling of an access within its limits is a first byte and the rest of it
access-back : (value : Access) (bytes : List ℕ) → Spelled IsAccess spelling.access value bytes → SaysAccess value bytes
access-back Block bytes s =
    record { before = 0; front = 0 ∷ []; back = []; parts = s.are; first = record { is_allowed = refl; one = refl }; second = record { same = refl; none = refl } }
access-back (Mount fs_type) bytes s =
    record { before = 1; front = 1 ∷ []; back = spelling.text fs_type; parts = s.are; first = record { is_allowed = refl; one = refl }; second = record { before = fs_type; fits = s.fits; same = refl; are = refl } }

-- the grammar of an access, and what comes after it
abbrev access_grammar : Grammar → Grammar
access_grammar next = Byte (at_most 1) BadAccess (λ b. cond (b == 0) next (Text 0 128 (λ _. next)))

-- the reader of an access agrees with the grammar
access_agrees : (next : Grammar) → Agrees access_at (Spelled IsAccess spelling.access) (access_grammar next) (λ _. next)
unfolding access_at
access_agrees next =
    in_words (Spelled IsAccess spelling.access)
    (λ value bytes s. subst (Spelled IsAccess spelling.access value) (sym (s.parts ∙ ap (λ (t : List ℕ). t ++ s.back) s.first.one)) (access-there s.before s.first.is_allowed value s.back s.second))
    access-back
    (then (byte_agrees (at_most 1) BadAccess (λ b. cond (b == 0) next (Text 0 128 (λ _. next))))
    (λ b. either (b == 0) (gives {next = λ _. next} Block) (makes Mount (λ _. next) (any_text_agrees 0 128 (λ _. next)))))

-- a capability within its limits, in a mode that the version has, and in a new one where one is owed
pub record IsCapabilityIn (version : Version) (owed : Bool) (capability : Capability) : Type 0 where
  pub fits : IsCapability capability
  pub in_mode : TakesMode version owed capability.mode

-- the same where no new mode is owed
abbrev pub IsCapabilityOf : Version → Capability → Type 0
IsCapabilityOf version = IsCapabilityIn version false

-- the bytes were read as an access and then a mode
abbrev SaysCapability : Version → Bool → Capability → List ℕ → Type 0
SaysCapability version owed = After IsAccess spelling.access (λ access. Made (TakesMode version owed) (λ mode. mode_number mode ∷ []) (λ mode. record { access = access; mode = mode }))

-- an access and then a mode are the spelling of the capability that was made of them
capability-there : (version : Version) (owed : Bool) (value : Capability) (bytes : List ℕ) → SaysCapability version owed value bytes → Spelled (IsCapabilityIn version owed) spelling.capability value bytes
capability-there version owed value bytes s =
    subst (λ (v : Capability). Spelled (IsCapabilityIn version owed) spelling.capability v bytes) (sym s.second.same)
    (record { fits = record { fits = s.fits; in_mode = s.second.fits }; are = s.parts ∙ ap (λ (t : List ℕ). spelling.access s.before ++ t) s.second.are })

-- the spelling of a capability is that of its access and then that of its mode
capability-back : (version : Version) (owed : Bool) (value : Capability) (bytes : List ℕ) → Spelled (IsCapabilityIn version owed) spelling.capability value bytes → SaysCapability version owed value bytes
capability-back version owed value bytes s =
    record { before = value.access; fits = s.fits.fits; back = mode_number value.mode ∷ []; parts = s.are; second = record { before = value.mode; fits = s.fits.in_mode; same = refl; are = refl } }

-- the reader of a capability agrees with the grammar, where a new mode is owed and where none is
pub owed_capability_agrees : (version : Version) (owed : Bool) (next : Mode → Grammar) → Agrees (owed_capability_at version owed) (Spelled (IsCapabilityIn version owed) spelling.capability) (capability_grammar version owed next) (λ c. next c.mode)
unfolding owed_capability_at
owed_capability_agrees version owed next =
    in_words (Spelled (IsCapabilityIn version owed) spelling.capability) (capability-there version owed) (capability-back version owed)
    (after (access_agrees (mode_grammar version owed next)) (λ access. makes (λ mode. record { access = access; mode = mode }) (λ c. next c.mode) (mode_agrees version owed next)))

-- the reader of a capability agrees with the grammar, where no new mode is owed
pub capability_agrees : (version : Version) (next : Grammar) → Agrees (capability_at version) (Spelled (IsCapabilityOf version) spelling.capability) (capability_grammar version false (λ _. next)) (λ _. next)
unfolding capability_at
capability_agrees version next = owed_capability_agrees version false (λ _. next)

-- each is in a mode that the version has, and where a new one is owed the last is in such a mode, if no earlier one is
abbrev pub AreInModes : Version → Bool → List Capability → Type 0
AreInModes version owed [] = Unit {0}
AreInModes version owed (c ∷ cs) = TakesMode version (owed && (length cs == 0)) c.mode × AreInModes version (owed && not (is_new_mode c.mode)) cs

-- so many capabilities, in such modes
pub record AreCapabilities (version : Version) (owed : Bool) (count : ℕ) (capabilities : List Capability) : Type 0 where
  pub counted : length capabilities ≡ count
  pub each : AllByRecursion IsCapability capabilities
  pub in_modes : AreInModes version owed capabilities

-- the bytes were read as a capability, and then so many more
abbrev SaysMore : Version → Bool → ℕ → List Capability → List ℕ → Type 0
SaysMore version owed n =
    After (IsCapabilityIn version (owed && (n == 0))) spelling.capability (λ first. Made (AreCapabilities version (owed && not (is_new_mode first.mode)) n) (flat_map spelling.capability) (λ others. first ∷ others))

-- so many capabilities, each within its limits, and their spellings one after another
abbrev SaysCapabilities : Version → Bool → ℕ → List Capability → List ℕ → Type 0
SaysCapabilities version owed n = Spelled (AreCapabilities version owed n) (flat_map spelling.capability)

-- a capability and then so many more that were read are one more than these, and are spelled so
more-there : (version : Version) (owed : Bool) (n : ℕ) (value : List Capability) (bytes : List ℕ) → SaysMore version owed n value bytes → SaysCapabilities version owed (suc n) value bytes
more-there version owed n value bytes s =
    let made = s.second in
    subst (λ (v : List Capability). SaysCapabilities version owed (suc n) v bytes) (sym made.same)
    (record {
      fits = record {
        counted = ap suc made.fits.counted;
        each = (s.fits.fits, made.fits.each);
        in_modes = (subst (λ (k : ℕ). TakesMode version (owed && (k == 0)) s.before.mode) (sym made.fits.counted) s.fits.in_mode, made.fits.in_modes);
      };
      are = s.parts ∙ ap (λ (t : List ℕ). spelling.capability s.before ++ t) made.are ∙ sym (flat_map-cons spelling.capability s.before made.before);
    })

-- the spelling of one more than so many capabilities is a capability's and then that of so many
more-back : (version : Version) (owed : Bool) (n : ℕ) (value : List Capability) (bytes : List ℕ) → SaysCapabilities version owed (suc n) value bytes → SaysMore version owed n value bytes
more-back version owed n [] bytes s = absurd (cc s.fits.counted)
more-back version owed n (first ∷ others) bytes s =
    let counted : length others ≡ n = omega (arith, s.fits.counted) in
    record {
      before = first;
      fits = record { fits = s.fits.each.0; in_mode = subst (λ (k : ℕ). TakesMode version (owed && (k == 0)) first.mode) counted s.fits.in_modes.0 };
      back = flat_map spelling.capability others;
      parts = s.are ∙ flat_map-cons spelling.capability first others;
      second = record { before = others; fits = record { counted = counted; each = s.fits.each.1; in_modes = s.fits.in_modes.1 }; same = refl; are = refl };
    }

-- no capabilities are spelled by no bytes
nil-there : (version : Version) (owed : Bool) (value : List Capability) (bytes : List ℕ) → Given [] value bytes → SaysCapabilities version owed 0 value bytes
nil-there version owed value bytes s =
    subst (λ (v : List Capability). SaysCapabilities version owed 0 v bytes) (sym s.same) (record { fits = record { counted = refl; each = tt; in_modes = tt }; are = s.none })

-- no bytes spell no capabilities
nil-back : (version : Version) (owed : Bool) (value : List Capability) (bytes : List ℕ) → SaysCapabilities version owed 0 value bytes → Given [] value bytes
nil-back version owed [] bytes s = record { same = refl; none = s.are }
nil-back version owed (first ∷ others) bytes s = absurd (cc s.fits.counted)

-- the reader of so many capabilities agrees with the grammar
pub capabilities_agree : (version : Version) (owed : Bool) (n : ℕ) → Agrees (capabilities_at version owed n) (SaysCapabilities version owed n) (capabilities_grammar version owed n) (λ _. End)
unfolding capabilities_at
capabilities_agree version owed zero = in_words (SaysCapabilities version owed 0) (nil-there version owed) (nil-back version owed) (gives {next = λ _. End} [])
capabilities_agree version owed (suc n) =
    in_words (SaysCapabilities version owed (suc n)) (more-there version owed n) (more-back version owed n)
    (after (owed_capability_agrees version (owed && (n == 0)) (λ mode. capabilities_grammar version (owed && not (is_new_mode mode)) n))
    (λ first. makes (λ others. first ∷ others) (λ _. End) (capabilities_agree version (owed && not (is_new_mode first.mode)) n)))
