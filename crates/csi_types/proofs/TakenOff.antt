-- Capabilities that stand in bytes are read one after another.
use Rattle.std.proofs.Common.{◌≡◌, ℕ, zero, suc, ◌-◌, ◌<◌, cond, Bool, true, false, ◌&&◌, List, [], ◌∷◌, length, take, drop, Option, Some, None, refl, subst, arith}
use Rattle.std.specs.Prelude.{nat_le, is_some, option_map}
use Rattle.std.specs.Option.{option_and_then}
use Rattle.std.specs.Str.{IsUtf8, is_utf8}
use Rattle.std.proofs.lemmas.Str.{IsUtf8-from_is_utf8}
use Rattle.csi_types.specs.declared.capability.Capability.{Capability}
use Rattle.csi_types.specs.Public.Spelled.{split_text, split_capability, split_capabilities, list_in}

-- where three tests lead to a value, and it is there, the third one held
third : {A : Type 0} (a b c : Bool) (x : A) → is_some (cond (a && (b && c)) (Some x) None) ≡ true → c ≡ true
third true true true x e = refl
third true true false x e = absurd cc
third true false c x e = absurd cc
third false b c x e = absurd cc

-- a text that was read is UTF-8
pub text-utf8 : (bytes : List ℕ) (n : ℕ) (rest : List ℕ) → bytes ≡ n ∷ rest → is_some (split_text bytes) ≡ true → IsUtf8 (take n rest)
text-utf8 bytes n rest is read =
    IsUtf8-from_is_utf8 (take n rest) (third (nat_le n 128) (nat_le n (length rest)) (is_utf8 (take n rest)) (take n rest, drop n rest) (subst (λ (t : List ℕ). is_some (split_text t) ≡ true) is read))

-- where all of two readings was read, the first one was
first-read : {A B : Type 0} (read : Option A) (next : A → Option B) → is_some (option_and_then next read) ≡ true → is_some read ≡ true
first-read (Some x) next e = refl
first-read None next e = absurd cc

-- where one more than some was read, the others were, and these are behind it
behind : (first : Capability) (others : Option (List Capability)) → is_some (option_map (λ list. first ∷ list) others) ≡ true
    → (is_some others ≡ true) × (list_in (option_map (λ list. first ∷ list) others) ≡ first ∷ list_in others)
behind first (Some list) e = (refl, refl)
behind first None e = absurd cc

-- what is left of one more than so many, once the first was taken off
after-one : (n : ℕ) (bytes : List ℕ) (first : Capability) (rest : List ℕ) → is_some (split_capabilities (suc n) bytes) ≡ true → split_capability bytes ≡ Some (first, rest)
    → (is_some (split_capabilities n rest) ≡ true) × (list_in (split_capabilities (suc n) bytes) ≡ first ∷ list_in (split_capabilities n rest))
after-one n bytes first rest read one =
    let both = behind first (split_capabilities n rest) (rw one at read) in
    (both.0, rw one both.1)

-- of some that were read the first one was
pub one-read : (n : ℕ) (bytes : List ℕ) → 0 < n → is_some (split_capabilities n bytes) ≡ true → is_some (split_capability bytes) ≡ true
one-read zero bytes some read = absurd (omega (arith, some))
one-read (suc n) bytes some read = first-read (split_capability bytes) _ read

-- what is left, once the first was taken off
pub taken : (n : ℕ) (bytes : List ℕ) (first : Capability) (rest : List ℕ) → 0 < n → is_some (split_capabilities n bytes) ≡ true → split_capability bytes ≡ Some (first, rest)
    → (is_some (split_capabilities (n - 1) rest) ≡ true) × (list_in (split_capabilities n bytes) ≡ first ∷ list_in (split_capabilities (n - 1) rest))
taken zero bytes first rest some read one = absurd (omega (arith, some))
taken (suc n) bytes first rest some read one =
    let less : suc n - 1 ≡ n = omega arith in
    rw less (after-one n bytes first rest read one)

-- where none is left, nothing is
pub none-left : (n : ℕ) (bytes : List ℕ) → n ≡ 0 → list_in (split_capabilities n bytes) ≡ []
none-left n bytes none = rw none refl
