-- The test for UTF-8 against the fact.
use Rattle.std.proofs.Common.{◌≡◌, ℕ, List, Bool, true, false, refl}
use Rattle.std.specs.Str.{IsUtf8, is_utf8}
use Rattle.std.proofs.lemmas.Str.{IsUtf8-from_is_utf8}

-- a test that can't hold doesn't
is_false : (b : Bool) → (b ≡ true → ⊥) → b ≡ false
is_false true not_so = absurd (not_so refl)
is_false false not_so = refl

-- bytes that aren't UTF-8 fail the test for it
pub is_utf8-refused : (bytes : List ℕ) → (IsUtf8 bytes → ⊥) → is_utf8 bytes ≡ false
is_utf8-refused bytes not_so = is_false (is_utf8 bytes) (λ (e : is_utf8 bytes ≡ true). not_so (IsUtf8-from_is_utf8 bytes e))
