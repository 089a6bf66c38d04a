-- What a full handle has.
use Rattle.std.specs.Prelude.{◌≡◌, Option, None, Some, is_some, true}
use Rattle.std.proofs.Common.{refl, sym}
use Rattle.std.proofs.lemmas.Bool.{true≢false}

-- where there is one, it is that
pub has_one : {A : Type 0} (held : Option A) → is_some held ≡ true → (one : A) × (held ≡ Some one)
has_one None h = absurd (true≢false (sym h))
has_one (Some one) h = (one, refl)
