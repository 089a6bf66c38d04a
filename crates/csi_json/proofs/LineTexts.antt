-- A line that is no text, or is one.
use Rattle.std.proofs.Common.{◌≡◌, ℕ, List, Bool, true, false, refl}
use Rattle.std.specs.Str.{IsUtf8, is_utf8}
use Rattle.std.proofs.lemmas.Str.{IsUtf8-from_is_utf8, is_utf8-from_IsUtf8}
use Rattle.serde_json.specs.Read.{read}
use Rattle.csi_json.specs.Public.Requests.{request_read, line_request}

-- what isn't true is false
is_false : (b : Bool) → (b ≡ true → ⊥) → b ≡ false
is_false true not_so = absurd (not_so refl)
is_false false not_so = refl

-- what is no UTF-8 is refused by the test
pub no_text : (bytes : List ℕ) → (IsUtf8 bytes → ⊥) → is_utf8 bytes ≡ false
no_text bytes not_so = is_false (is_utf8 bytes) (λ (e : is_utf8 bytes ≡ true). not_so (IsUtf8-from_is_utf8 bytes e))

-- a line that is a text says what the text says
pub read_line : (line text : List ℕ) → text ≡ line → IsUtf8 line → line_request line ≡ request_read (read text)
unfolding line_request
read_line line text same is = rw (is_utf8-from_IsUtf8 line is, same) refl
