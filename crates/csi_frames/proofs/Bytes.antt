-- Lists of bytes, and numbers as eight of them.
use Rattle.std.proofs.Common.{◌≡◌, ℕ, suc, ◌+◌, ◌^◌, ◌<◌, ◌≤◌, List, ◌∷◌, ◌++◌, length, take, drop, refl, sym, ap, subst, ◌∙◌, inl, inr, arith}
use Rattle.std.specs.Int.{w64, w32, from_be_bytes}
use Rattle.std.proofs.lemmas.Bool.{cases_lt}
use Rattle.std.proofs.lemmas.List.{drop_at, take-append-drop, length-take, get_or-drop, get_or-take, get_or_past}
use Rattle.std.proofs.lemmas.Nat.{be_bytes_4, be_bytes_8}
use Rattle.csi_frames.specs.Public.Bytes.{AreBytes}
use Rattle.byteorder.specs.Endian.{big_bytes, big_number}
use Rattle.byteorder.specs.Numbers.{big_number-reads_back, big_from-lt, big_from-append}

-- where each number of a list is below 256, so is each one of a part of it: this and the next three
pub AreBytes-drop : (n : ℕ) (bytes : List ℕ) → AreBytes bytes → AreBytes (drop n bytes)
AreBytes-drop n bytes h i = rw get_or-drop (h (n + i))

-- the front of a list of bytes has bytes only
pub AreBytes-take : (n : ℕ) (bytes : List ℕ) → AreBytes bytes → AreBytes (take n bytes)
AreBytes-take n bytes h i =
    elim (cases_lt i n) [
      | inl lt ↦ rw (get_or-take n bytes i 0 lt) (h i)
      | inr le ↦ rw (get_or_past (take n bytes) i 0 (omega (arith, length-take n bytes))) (omega arith)
    ]

-- so has what is behind the first one
pub AreBytes-rest : (b : ℕ) (bytes : List ℕ) → AreBytes (b ∷ bytes) → AreBytes bytes
AreBytes-rest b bytes h i = h (suc i)

-- so has the second of two parts
pub AreBytes-back : (front back : List ℕ) → AreBytes (front ++ back) → AreBytes back
AreBytes-back front back h = subst AreBytes (drop_at front back (length front) refl) (AreBytes-drop (length front) (front ++ back) h)

-- the standard library's words for the same
from_be_is : (bytes : List ℕ) → big_number 8 bytes ≡ from_be_bytes w64 bytes
from_be_is bytes = omega arith

-- a word is spelled in eight bytes
pub length-word : (n : ℕ) → length (big_bytes 8 n) ≡ 8
length-word n = refl

-- eight bytes are the spelling of the number that they say
pub word-back : (bytes : List ℕ) → length bytes ≡ 8 → AreBytes bytes → big_bytes 8 (big_number 8 bytes) ≡ bytes
word-back bytes long fits = be_bytes_8 bytes (big_number 8 bytes) long fits (from_be_is bytes)

-- a number below 2^64, spelled with more bytes behind it, is read again
pub word-again : (n : ℕ) (rest : List ℕ) → n < 2 ^ 64 → big_number 8 (big_bytes 8 n ++ rest) ≡ n
word-again n rest fits = big_number-reads_back 8 n rest fits

-- the number that eight bytes say is below 2^64
pub word-fits : (bytes : List ℕ) → AreBytes bytes → big_number 8 bytes < 2 ^ 64
word-fits bytes fits = big_from-lt 0 8 bytes fits

-- the number at the front of bytes is that of the first eight
pub word-front : (bytes : List ℕ) → 8 ≤ length bytes → big_number 8 (take 8 bytes) ≡ big_number 8 bytes
word-front bytes long =
    sym (big_from-append 8 (take 8 bytes) (drop 8 bytes) (omega (arith, length-take 8 bytes))) ∙ ap (big_number 8) (take-append-drop 8 bytes)

-- eight bytes say the same number, whatever stands behind them
pub word-eight : (eight more : List ℕ) → length eight ≡ 8 → big_number 8 (eight ++ more) ≡ big_number 8 eight
word-eight eight more long = big_from-append 8 eight more (omega arith)

-- ---- the length of a body, a number in four bytes

-- the standard library's words for the same
from_be_4 : (bytes : List ℕ) → big_number 4 bytes ≡ from_be_bytes w32 bytes
from_be_4 bytes = omega arith

-- four bytes are the spelling of the number that they say
pub four-back : (bytes : List ℕ) → length bytes ≡ 4 → AreBytes bytes → big_bytes 4 (big_number 4 bytes) ≡ bytes
four-back bytes long fits = be_bytes_4 bytes (big_number 4 bytes) long fits (from_be_4 bytes)

-- a number below 2^32, spelled with more bytes behind it, is read again
pub four-again : (n : ℕ) (rest : List ℕ) → n < 2 ^ 32 → big_number 4 (big_bytes 4 n ++ rest) ≡ n
four-again n rest fits = big_number-reads_back 4 n rest fits

-- the number in four bytes at the front of bytes is that of the first four
pub four-front : (bytes : List ℕ) → 4 ≤ length bytes → big_number 4 (take 4 bytes) ≡ big_number 4 bytes
four-front bytes long =
    sym (big_from-append 4 (take 4 bytes) (drop 4 bytes) (omega (arith, length-take 4 bytes))) ∙ ap (big_number 4) (take-append-drop 4 bytes)
