-- Texts in hexadecimal: what is written is read, and what is read was written.
use Rattle.std.proofs.Common.{◌≡◌, ℕ, zero, suc, ◌+◌, ◌*◌, ◌/◌, ◌%◌, ◌<◌, ◌==◌, Bool, true, false, ◌&&◌, ◌||◌, inl, inr, List, [], ◌∷◌, slice_index, refl, sym, ap, ◌∙◌, arith}
use Rattle.std.specs.Prelude.{nat_lt, if◌then◌else◌, Option, Some, None, Result, Ok, Err}
use Rattle.std.specs.List.{list_any}
use Rattle.std.specs.Result.{result_ok, result_unwrap_or}
use Rattle.std.proofs.lemmas.Bool.{and_parts, cases_lt, eqb-true, or_parts}
use Rattle.hex.specs.Hex.{IsBytes, decode_of, decode_pairs, digit_or_error, encode_lower, encode_with, hex_digit_value, lower_digits, pair_value, value_at, ◌>>=◌}
use Rattle.hex.specs.declared.error.FromHexError.{FromHexError}
use Rattle.hex.proofs.HexLemmas.{decode_of-encode_lower, decode_of-even, decode_of-ok}
use Rattle.csi_json.specs.Public.Hexadecimal.{is_upper_digit, hex_bytes}

-- ---- digits

-- the code of a digit
abbrev digit_code : ℕ → ℕ
digit_code d = if nat_lt d 10 then d + 48 else d + 87

-- the table has it there
abbrev is_code : ℕ → Bool
is_code d = slice_index lower_digits d == digit_code d

-- and so at the first places
abbrev are_codes : ℕ → Bool
are_codes zero = true
are_codes (suc n) = is_code n && are_codes n

code_at : (n d : ℕ) → are_codes n ≡ true → d < n → is_code d ≡ true
code_at zero d h lt = absurd (omega arith)
code_at (suc n) d h lt =
    let parts = and_parts (is_code n) (are_codes n) h in
    elim (cases_lt d n) [
      | inl below ↦ code_at n d parts.1 below
      | inr top ↦
          let e : d ≡ n = omega arith in
          rw e parts.0
    ]

-- the table's digit
lower-code : (d : ℕ) → d < 16 → slice_index lower_digits d ≡ digit_code d
lower-code d lt = eqb-true (slice_index lower_digits d) (digit_code d) (code_at 16 d refl lt)

-- a digit's value is below 16
value-small : (c v : ℕ) → hex_digit_value c ≡ Some v → v < 16
value-small c v h = grind (arith)

-- a digit that isn't in upper case is the one of its value
value-code : (c v : ℕ) → hex_digit_value c ≡ Some v → is_upper_digit c ≡ false → digit_code v ≡ c
value-code c v h low = grind (arith)

-- a digit of the table isn't in upper case
code-lower : (d : ℕ) → d < 16 → is_upper_digit (digit_code d) ≡ false
code-lower d lt = grind (arith)

-- ---- what is written

-- no digit that is written is in upper case
encoded-lower : (bytes : List ℕ) → IsBytes bytes → list_any is_upper_digit (encode_lower bytes) ≡ false
unfolding encode_with
encoded-lower [] h = refl
encoded-lower (b ∷ rest) h =
    let fits : b < 256 = h 0 in
    let high : b / 16 < 16 = omega arith in
    let low : b % 16 < 16 = omega arith in
    let first : is_upper_digit (slice_index lower_digits (b / 16)) ≡ false = ap is_upper_digit (lower-code (b / 16) high) ∙ code-lower (b / 16) high in
    let second : is_upper_digit (slice_index lower_digits (b % 16)) ≡ false = ap is_upper_digit (lower-code (b % 16) low) ∙ code-lower (b % 16) low in
    rw (first, second) (encoded-lower rest (λ k. h (suc k)))

-- what is written is read again
pub read-again : (bytes : List ℕ) → IsBytes bytes → hex_bytes (encode_lower bytes) ≡ Some bytes
unfolding hex_bytes
read-again bytes h = rw (encoded-lower bytes h, decode_of-encode_lower bytes h) refl

-- ---- what is read

-- what an `Ok` after another step shows
bind_ok : {A B : Type 0} (r : Result A FromHexError) (f : A → Result B FromHexError) (y : B) → (r >>= f) ≡ Ok y → (x : A) × (r ≡ Ok x) × (f x ≡ Ok y)
bind_ok (Ok x) f y h = (x, refl, h)
bind_ok (Err e) f y h = cc h

-- the value of a digit that was read
digit_read : (c i : ℕ) (o : Option ℕ) (v : ℕ) → digit_or_error c i o ≡ Ok v → o ≡ Some v
digit_read c i (Some w) v h = ap Some (ap (λ (r : Result ℕ FromHexError). result_unwrap_or r 0) h)
digit_read c i None v h = cc h

-- a digit that was read is the one that is written for its value
digit-back : (c i v : ℕ) → value_at c i ≡ Ok v → is_upper_digit c ≡ false → (v < 16) × (slice_index lower_digits v ≡ c)
digit-back c i v h low =
    let is = digit_read c i (hex_digit_value c) v h in
    let small = value-small c v is in
    (small, lower-code v small ∙ value-code c v is low)

-- pairs of digits that were read are those that are written for their bytes
pairs-back : (i : ℕ) (text bytes : List ℕ) → list_any is_upper_digit text ≡ false → decode_pairs i text ≡ Ok bytes → encode_lower bytes ≡ text
unfolding decode_pairs encode_with
pairs-back i [] bytes low h =
    let e : [] ≡ bytes = ap (λ (r : Result (List ℕ) FromHexError). result_unwrap_or r []) h in
    rw (← e) refl
pairs-back i (a ∷ []) bytes low h = cc h
pairs-back i (a ∷ b ∷ rest) bytes low h =
    let first = or_parts (is_upper_digit a) (is_upper_digit b || list_any is_upper_digit rest) low in
    let second = or_parts (is_upper_digit b) (list_any is_upper_digit rest) first.1 in
    let p0 = bind_ok (pair_value a b i) _ bytes h in
    let p1 = bind_ok (value_at a i) _ p0.0 p0.1 in
    let p2 = bind_ok (value_at b (i + 1)) _ p0.0 p1.2 in
    let p3 = bind_ok (decode_pairs (i + 2) rest) _ bytes p0.2 in
    let e : p0.0 ∷ p3.0 ≡ bytes = ap (λ (r : Result (List ℕ) FromHexError). result_unwrap_or r []) p3.2 in
    let byte : p1.0 * 16 + p2.0 ≡ p0.0 = ap (λ (r : Result ℕ FromHexError). result_unwrap_or r 0) p2.2 in
    let da = digit-back a i p1.0 p1.1 first.0 in
    let db = digit-back b (i + 1) p2.0 p2.1 second.0 in
    let small : p2.0 < 16 = db.0 in
    let high : p0.0 / 16 ≡ p1.0 = omega arith in
    let low_digit : p0.0 % 16 ≡ p2.0 = omega arith in
    let more = pairs-back (i + 2) rest p3.0 second.1 p3.1 in
    rw (← e) (rw (high, low_digit, da.1, db.1, more) refl)

-- what is read was written
pub read-only : (text bytes : List ℕ) → hex_bytes text ≡ Some bytes → (text ≡ encode_lower bytes) × IsBytes bytes
unfolding hex_bytes
read-only text bytes h = by (list_any is_upper_digit text) refl (decode_of text) refl h
  where
    by : (b : Bool) → list_any is_upper_digit text ≡ b → (r : Result (List ℕ) FromHexError) → decode_of text ≡ r → (if b then None else result_ok r) ≡ Some bytes
        → (text ≡ encode_lower bytes) × IsBytes bytes
    by true e r f h = cc h
    by false e (Err x) f h = cc h
    by false e (Ok made) f h =
        let same : made ≡ bytes = cc in
        let is : decode_of text ≡ Ok bytes = f ∙ ap Ok same in
        let ok = decode_of-ok text bytes is in
        (sym (pairs-back 0 text bytes e (sym (decode_of-even text ok.0) ∙ is)), ok.3)
