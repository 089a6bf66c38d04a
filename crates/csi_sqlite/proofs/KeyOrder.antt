-- Keys in eight bytes, the greatest first, are ordered as their numbers are.
use Rattle.std.proofs.Common.{◌≡◌, ℕ, zero, suc, ◌+◌, ◌*◌, ◌/◌, ◌%◌, ◌^◌, ◌<◌, ◌≤◌, [], refl, sym, ap, ◌∙◌, inl, inr, arith, bytes_eq, Less, Equal, Ordering}
use Rattle.std.specs.Ordering.{nat_cmp, ordering_then}
use Rattle.std.specs.Cmp.Lexicographic.{slice_cmp}
use Rattle.std.specs.Int.{byte_at, bytes_high_first}
use Rattle.std.specs.Prelude.{◌==◌}
use Rattle.std.proofs.Math.Nat.{add-mul, add_assoc, div-add-mod', div-one, mod-eq_of_lt, mod-lt, mul-add-mod_self_right, mul-le-mul_right, mul_assoc, one-le-pow, pow-succ'}
use Rattle.std.proofs.lemmas.Bool.{cases_order}
use Rattle.std.proofs.lemmas.Bool.Decides.{nat_tests, same_from_decides, Decides-eqb}
use Rattle.std.proofs.lemmas.Slice.Eq.{bytes_eq-Decides}
use Rattle.byteorder.specs.Endian.{big_bytes, big_number}
use Rattle.csi_frames.proofs.Bytes.{word-again}

-- the two low digits of n, to the bases c and then m
mod-split : (n : ℕ) {m c : ℕ} → zero < m → zero < c → n % (m * c) ≡ (n / c % m) * c + n % c
mod-split n {m} {c} hm hc =
    let a = mod-lt (n / c) hm in
    let b = mod-lt n hc in
    let top : (n / c % m + 1) * c ≤ m * c = mul-le-mul_right c (omega arith) in
    let expand : (n / c % m + 1) * c ≡ n / c % m * c + 1 * c = add-mul (n / c % m) 1 c in
    let split : n ≡ n / c / m * (m * c) + (n / c % m * c + n % c) =
    sym (div-add-mod' n c)
    ∙ ap (λ (x : ℕ). x * c + n % c) (sym (div-add-mod' (n / c) m))
    ∙ ap (λ (x : ℕ). x + n % c) (add-mul (n / c / m * m) (n / c % m) c ∙ ap (λ (x : ℕ). x + n / c % m * c) (mul_assoc (n / c / m) m c))
    ∙ add_assoc (n / c / m * (m * c)) (n / c % m * c) (n % c) in
    ap (λ (x : ℕ). x % (m * c)) split ∙ mul-add-mod_self_right (n / c / m) (m * c) (n / c % m * c + n % c) ∙ mod-eq_of_lt (omega arith)

-- a byte of a number is its digit to the base 256
byte_at-pow : (k x : ℕ) → byte_at k x ≡ x / 256 ^ k % 256
byte_at-pow zero x = ap (λ (y : ℕ). y % 256) (sym (div-one x))
byte_at-pow (suc k) x = refl

-- a power of 256 isn't 0
above_zero : (n : ℕ) → zero < 256 ^ n
above_zero n = let h = one-le-pow n 256 (omega arith) in omega arith

-- the greatest byte, and the others
first_byte : (k n : ℕ) → n % 256 ^ suc k ≡ byte_at k n * 256 ^ k + n % 256 ^ k
first_byte k n = ap (λ (p : ℕ). n % p) (pow-succ' 256 k) ∙ mod-split n {m = 256} {c = 256 ^ k} (omega arith) (above_zero k) ∙ ap (λ (b : ℕ). b * 256 ^ k + n % 256 ^ k) (sym (byte_at-pow k n))

-- a lower number compares as Less, and below an equal one as Equal
nat_less : (x y : ℕ) → x < y → nat_cmp x y ≡ Less
nat_less x y h = grind (arith, nat_tests)

-- equal numbers compare as Equal
nat_same : (x y : ℕ) → x ≡ y → nat_cmp x y ≡ Equal
nat_same x y h = grind (arith, nat_tests)

-- of two numbers, the one that is lower by its last k bytes has the lower list of these
below : (k a b : ℕ) → a % 256 ^ k < b % 256 ^ k → slice_cmp nat_cmp (bytes_high_first k a) (bytes_high_first k b) ≡ Less
below zero a b h = absurd (omega arith)
below (suc k) a b h =
    let p = 256 ^ k in
    let x = byte_at k a in
    let y = byte_at k b in
    let first = first_byte k a in
    let second = first_byte k b in
    let low = mod-lt a (above_zero k) in
    let high = mod-lt b (above_zero k) in
    let then = λ (o : Ordering). ordering_then o (slice_cmp nat_cmp (bytes_high_first k a) (bytes_high_first k b)) in
    elim (cases_order x y) [
      | inl same ↦ (let even : x * p ≡ y * p = ap (λ (z : ℕ). z * p) same in ap then (nat_same x y same) ∙ below k a b (omega (arith, even, first, second, h)))
      | inr rest ↦ elim rest [
        | inl less ↦ ap then (nat_less x y less)
        | inr more ↦ absurd (let top : (y + 1) * p ≤ x * p = mul-le-mul_right p (omega arith) in let expand : (y + 1) * p ≡ y * p + 1 * p = add-mul y 1 p in omega (arith, top, expand, first, second, low, high, h))
      ]
    ]

-- a lower key has the lower list of eight bytes
pub key_below : (a b : ℕ) → a < b → b < 2 ^ 64 → slice_cmp nat_cmp (big_bytes 8 a) (big_bytes 8 b) ≡ Less
key_below a b less fits =
    let first : a % 256 ^ 8 ≡ a = mod-eq_of_lt (omega arith) in
    let second : b % 256 ^ 8 ≡ b = mod-eq_of_lt (omega arith) in
    below 8 a b (omega (arith, first, second, less))

-- a key is read again from its eight bytes
pub key_back : (n : ℕ) → n < 2 ^ 64 → big_number 8 (big_bytes 8 n) ≡ n
key_back n fits = word-again n [] fits

-- the eight bytes of two keys are the same where the keys are
pub same_key : (a b : ℕ) → a < 2 ^ 64 → b < 2 ^ 64 → bytes_eq (big_bytes 8 a) (big_bytes 8 b) ≡ (a == b)
same_key a b low high =
    let back : big_bytes 8 a ≡ big_bytes 8 b → a ≡ b = λ e. sym (key_back a low) ∙ ap (big_number 8) e ∙ key_back b high in
    let one = bytes_eq-Decides (big_bytes 8 a) (big_bytes 8 b) in
    same_from_decides _ _ (λ e. back (one.0 e), λ (e : a ≡ b). one.1 (ap (big_bytes 8) e)) (Decides-eqb a b)
