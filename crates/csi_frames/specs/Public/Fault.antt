-- The first fault of bytes that don't begin with a frame: its kind and its place, as the grammar gives them.
use Rattle.std.specs.Prelude.{◌≡◌, ℕ, ◌+◌, ◌<◌, ◌≤◌, List, ◌++◌, length, take, drop, Some}
use Rattle.byteorder.specs.Endian.{big_number}
use Rattle.csi_frames.specs.declared.body.TheConstants.{MAX_BODY}
use Rattle.csi_frames.specs.declared.fault.FaultKind.{FaultKind}
use Rattle.csi_frames.specs.declared.fault.FaultKind.TheVariants.{Short, TooLong}
use Rattle.csi_frames.specs.Public.Grammar.{Grammar, Leads, refusal, body_grammar}

-- There are allowed values of the first fields, whose spellings are the bytes before this place, and no
-- allowed value of the next field begins there.
pub record IsStuck (grammar : Grammar) (bytes : List ℕ) (kind : FaultKind) (place : ℕ) : Type 0 where
  pub front : List ℕ
  pub back : List ℕ
  pub next : Grammar
  pub parts : bytes ≡ front ++ back
  pub here : length front ≡ place
  pub leads : Leads grammar front next
  pub refused : refusal next back ≡ Some kind

-- what the first four bytes say
abbrev pub length_of : List ℕ → ℕ
length_of bytes = big_number 4 bytes

-- the first fault of these bytes is of this kind, at this place
pub data IsFaulty (bytes : List ℕ) : FaultKind → ℕ → Type 0 where
  -- the length itself isn't there
  no_length : length bytes < 4 → IsFaulty bytes Short (length bytes)
  -- the length is above 1,280, whatever follows
  too_long : 4 ≤ length bytes → MAX_BODY < length_of bytes → IsFaulty bytes TooLong 0
  -- fewer bytes follow than the length says
  short : 4 ≤ length bytes → length_of bytes ≤ MAX_BODY → length bytes < 4 + length_of bytes → IsFaulty bytes Short (length bytes)
  -- the body is there, and is at fault; places count from the length's first byte
  in_body : (kind : FaultKind) (place : ℕ) → 4 + length_of bytes ≤ length bytes → length_of bytes ≤ MAX_BODY → IsStuck body_grammar (take (length_of bytes) (drop 4 bytes)) kind place → IsFaulty bytes kind (4 + place)
