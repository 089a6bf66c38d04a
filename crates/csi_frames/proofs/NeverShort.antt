-- No fault of a body is Short, whose bytes are all there. So bytes at fault with Short wait for more.
use Rattle.std.proofs.Common.{◌≡◌, ◌≢◌, ℕ, zero, suc, ◌≤◌, ◌==◌, Bool, true, false, cond, not, ◌&&◌, ltb, leb, List, [], ◌∷◌, length, take, drop, Some, None, refl, ◌∙◌, arith}
use Rattle.std.specs.Str.{is_utf8}
use Rattle.byteorder.specs.Endian.{big_number}
use Rattle.csi_types.specs.declared.mode.Mode.{Mode}
use Rattle.csi_types.specs.declared.call.Kind.{Kind}
use Rattle.csi_types.specs.declared.call.Kind.TheVariants as kinds
use Rattle.csi_frames.specs.declared.body_kind.BodyKind.{BodyKind}
use Rattle.csi_frames.specs.declared.body_kind.BodyKind.TheVariants.{Call, Reply}
use Rattle.csi_frames.specs.declared.fault.FaultKind.{FaultKind}
use Rattle.csi_frames.specs.declared.fault.FaultKind.TheVariants.{Short, BadText, BadId, LengthDiffers, NoMemory}
use Rattle.csi_frames.specs.declared.version.Version.{Version}
use Rattle.csi_frames.specs.Public.Codes.{version_of, mode_of, body_kind_of}
use Rattle.csi_frames.specs.Public.Version.{is_new_mode, owes_new_mode}
use Rattle.csi_frames.specs.Public.Grammar.{Grammar, End, Byte, Word, Text, Leads, nothing, byte, word, text, refusal, mode_grammar, capability_grammar, capabilities_grammar, flag_grammar, call_grammar, reply_grammar, fields_grammar, party_grammar, body_grammar}
use Rattle.csi_frames.specs.Public.Fault.{IsStuck, IsFaulty, no_length, too_long, short, in_body}

-- no byte of the grammar has Short for its fault
abbrev NeverShort : Grammar → Type 0
NeverShort End = Unit {0}
NeverShort (Byte allowed fault next) = (fault ≢ Short) × ((b : ℕ) → NeverShort (next b))
NeverShort (Word allowed next) = (n : ℕ) → NeverShort (next n)
NeverShort (Text least most next) = (t : List ℕ) → NeverShort (next t)

-- ---- it holds of a body

-- a grammar that is one of two by a test has no Short where neither of them has
choice : (t : Bool) (g h : Grammar) → NeverShort g → NeverShort h → NeverShort (cond t g h)
choice true g h first second = first
choice false g h first second = second

-- down to `body`: the grammar of each part of a body has no Short, where what follows the part has none
mode : (version : Version) (owed : Bool) (next : Mode → Grammar) → ((m : Mode) → NeverShort (next m)) → NeverShort (mode_grammar version owed next)
mode version owed next never = (λ e. cc, λ b. never (mode_of b))

-- the grammar of a capability has no Short, where that of what follows has none
capability : (version : Version) (owed : Bool) (next : Mode → Grammar) → ((m : Mode) → NeverShort (next m)) → NeverShort (capability_grammar version owed next)
capability version owed next never =
    (λ e. cc, λ access. choice (access == 0) (mode_grammar version owed next) (Text 0 128 (λ _. mode_grammar version owed next)) (mode version owed next never) (λ fs. mode version owed next never))

-- nor has that of so many capabilities
capabilities : (version : Version) (owed : Bool) (n : ℕ) → NeverShort (capabilities_grammar version owed n)
capabilities version owed zero = tt
capabilities version owed (suc n) =
    capability version (owed && (n == 0)) (λ m. capabilities_grammar version (owed && not (is_new_mode m)) n) (λ m. capabilities version (owed && not (is_new_mode m)) n)

-- nor has that of a flag
flag : NeverShort flag_grammar
flag = (λ e. cc, λ b. tt)

-- nor has that of a call of any kind
call : (version : Version) (kind : Kind) → NeverShort (call_grammar version kind)
unfolding call_grammar
call version kinds.CreateVolume = λ name required limit. (λ e. cc, capabilities version (owes_new_mode version))
call version kinds.DeleteVolume = λ id. tt
call version kinds.ControllerPublishVolume = λ id node. capability version (owes_new_mode version) (λ _. flag_grammar) (λ _. flag)
call version kinds.ControllerUnpublishVolume = λ id node. tt
call version kinds.NodeStageVolume = λ id. capability version (owes_new_mode version) (λ _. End) (λ _. tt)
call version kinds.NodeUnstageVolume = λ id. tt
call version kinds.NodePublishVolume = λ id target. capability version (owes_new_mode version) (λ _. flag_grammar) (λ _. flag)
call version kinds.NodeUnpublishVolume = λ id target. tt

-- nor has that of a reply
reply : (kind : Kind) → NeverShort (reply_grammar kind)
unfolding reply_grammar
reply kind = (λ e. cc, λ status id detail. tt)

-- nor has that of a body's fields
fields : (version : Version) (kind : BodyKind) → NeverShort (fields_grammar version kind)
fields version (Call kind) = call version kind
fields version (Reply kind) = reply kind

-- nor has that of a party and what follows it
party : (version : Version) (kind : BodyKind) → NeverShort (party_grammar version kind)
party version kind =
    (λ e. cc, λ n. choice (n == 0) (fields_grammar version kind) (Text 1 255 (λ _. fields_grammar version kind)) (fields version kind) (λ id. fields version kind))

-- nor has that of a whole body
body : NeverShort body_grammar
unfolding body_grammar
body = (λ e. cc, λ version. (λ e. cc, λ kind session number. party (version_of version) (body_kind_of kind)))

-- ---- so nothing in it is refused with Short

-- what comes after the first fields of such a grammar is such a grammar too
after : (g : Grammar) (front : List ℕ) (h : Grammar) → Leads g front h → NeverShort g → NeverShort h
after g front h (nothing _) never = never
after g front h (byte allowed fault next b more _ is_allowed rest) never = after (next b) more h rest (never.1 b)
after g front h (word allowed next eight more _ long is_allowed rest) never = after (next (big_number 8 eight)) more h rest (never (big_number 8 eight))
after g front h (text least most next value more _ low high utf8 rest) never = after (next value) more h rest (never value)

-- a refusal that is told as a fault other than Short isn't Short
told : (fault kind : FaultKind) → fault ≢ Short → Some fault ≡ Some kind → kind ≢ Short
told fault kind never e s = let same : fault ≡ kind = cc in never (same ∙ s)

-- the faults that a word and a text may have aren't Short
differs : LengthDiffers ≢ Short
differs e = cc

-- the fault BadId isn't Short
bad_id : BadId ≢ Short
bad_id e = cc

-- the fault BadText isn't Short
bad_text : BadText ≢ Short
bad_text e = cc

-- a refusal by the tests of a byte whose own fault isn't Short isn't Short; nor is one by those of a word or a text
told-byte : (t : Bool) (fault kind : FaultKind) → fault ≢ Short → cond t None (Some fault) ≡ Some kind → kind ≢ Short
told-byte true fault kind never e = absurd cc
told-byte false fault kind never e = told fault kind never e

-- a number that its tests refuse isn't refused with Short
told-word : (few t : Bool) (kind : FaultKind) → cond few (Some LengthDiffers) (cond t None (Some BadId)) ≡ Some kind → kind ≢ Short
told-word true t kind e = told LengthDiffers kind differs e
told-word false true kind e = absurd cc
told-word false false kind e = told BadId kind bad_id e

-- nor is a text
told-text : (out few utf8 : Bool) (kind : FaultKind) → cond out (Some BadText) (cond few (Some LengthDiffers) (cond utf8 None (Some BadText))) ≡ Some kind → kind ≢ Short
told-text true few utf8 kind e = told BadText kind bad_text e
told-text false true utf8 kind e = told LengthDiffers kind differs e
told-text false false true kind e = absurd cc
told-text false false false kind e = told BadText kind bad_text e

-- what such a grammar refuses, it doesn't refuse with Short
refused : (g : Grammar) (bytes : List ℕ) (kind : FaultKind) → NeverShort g → refusal g bytes ≡ Some kind → kind ≢ Short
refused End [] kind never e = absurd cc
refused End (b ∷ bytes) kind never e = told LengthDiffers kind differs e
refused (Byte allowed fault next) [] kind never e = told LengthDiffers kind differs e
refused (Byte allowed fault next) (b ∷ bytes) kind never e = told-byte (allowed b) fault kind never.0 e
refused (Word allowed next) bytes kind never e = told-word (ltb (length bytes) 8) (allowed (big_number 8 bytes)) kind e
refused (Text least most next) [] kind never e = told LengthDiffers kind differs e
refused (Text least most next) (n ∷ bytes) kind never e = told-text (not (leb least n && leb n most)) (ltb (length bytes) n) (is_utf8 (take n bytes)) kind e

-- where the grammar of a body is stuck, the fault isn't Short
stuck : (bytes : List ℕ) (kind : FaultKind) (place : ℕ) → IsStuck body_grammar bytes kind place → kind ≢ Short
stuck bytes kind place s = refused s.next s.back kind (after body_grammar s.front s.next s.leads body) s.refused

-- bytes at fault with Short are few, and the place is their count
pub waiting : (bytes : List ℕ) (kind : FaultKind) (place : ℕ) → IsFaulty bytes kind place → kind ≡ Short → (length bytes ≤ 1283) × (place ≡ length bytes)
waiting bytes kind place (no_length few) is_short = (omega arith, refl)
waiting bytes kind place (too_long long much) is_short = absurd cc
waiting bytes kind place (short long few less) is_short = (omega arith, refl)
waiting bytes kind place (in_body k p whole few s) is_short = absurd (stuck (take (big_number 4 bytes) (drop 4 bytes)) k p s is_short)

-- out of memory is no fault of bytes: its place is 0, which in them is the length's alone
pub never-memory : (bytes : List ℕ) (kind : FaultKind) (place : ℕ) → IsFaulty bytes kind place → kind ≡ NoMemory → place ≡ 0 → ⊥
never-memory bytes kind place (no_length few) is at = absurd cc
never-memory bytes kind place (too_long long much) is at = absurd cc
never-memory bytes kind place (short long few less) is at = absurd cc
never-memory bytes kind place (in_body k p whole few s) is at = omega (arith, at)
