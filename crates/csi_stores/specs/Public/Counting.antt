-- Counts of failures, and what a counted reader or writer counts. This profile's own.
use Rattle.std.specs.Prelude.{◌≡◌, ◌⊎◌, ℕ, ◌+◌, ◌≤◌, ◌<◌, ◌-◌, ◌^◌, ◌==◌, ◌&&◌, min, not, Bool, true, false, if◌then◌else◌, List, length, Option, Result, Ok, Err, OnErr}
use Rattle.std.specs.Io.{ReadsAtMost}
use Rattle.std.specs.Io.KnownBytes.{ReadConsumes}

-- one more failure, up to 2^64 - 1
abbrev pub one_more : ℕ → ℕ
one_more count = min (count + 1) (2 ^ 64 - 1)

-- a count of failures has risen, or stands at its end, where each further failure leaves it
abbrev pub HasRisen : ℕ → ℕ → Type 0
HasRisen before after = (before < after) ⊎ (after ≡ 2 ^ 64 - 1)

-- the call was answered with an error
abbrev pub is_error : {X E : Type 0} → Result X E → Bool
is_error (Ok x) = false
is_error (Err e) = true

-- an error, or no byte was taken of some
abbrev pub is_write_fault : {E : Type 0} → List ℕ → Result ℕ E → Bool
is_write_fault bytes (Ok n) = (n == 0) && not (length bytes == 0)
is_write_fault bytes (Err e) = true

-- the count after a call
abbrev pub fault_count_after : Bool → ℕ → ℕ
fault_count_after fault count = if fault then one_more count else count

-- a call does this with the bytes, and is counted where it failed
pub record CountsCall (does : Type 0) (fault : Bool) (before after : ℕ) : Type 0 where
  pub bytes : does
  pub faults : after ≡ fault_count_after fault before
  pub rises : before ≤ after
  pub risen : fault ≡ true → HasRisen before after

-- A read gives at most as many bytes as the piece has, and none at the end; and it is counted where it failed.
pub record ReadsCounted {E : Type 0} (left_before left_after : Option (List ℕ)) (before after : ℕ) (result : Result ℕ E) (piece : List ℕ) : Type 0 where
  pub bound : ReadsAtMost result piece
  pub bytes : ReadConsumes left_before left_after result piece
  pub faults : after ≡ fault_count_after (is_error result) before
  pub rises : before ≤ after
  pub risen : OnErr result (HasRisen before after)
