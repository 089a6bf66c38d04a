-- The test whether two texts are the same is symmetric.
use Rattle.std.proofs.Common.{◌≡◌, List, ℕ, sym}
use Rattle.csi_types.proofs.Tests.{alike}
use Rattle.csi_types.proofs.Equality.{same_text-tells}
use Rattle.csi_types.specs.Model.Same.{same_text}

-- a test of texts, turned
pub text-turned : (a b : List ℕ) → same_text a b ≡ same_text b a
text-turned a b =
    alike (same_text a b) (same_text b a) (λ h. (same_text-tells b a).1 (sym ((same_text-tells a b).0 h))) (λ h. (same_text-tells a b).1 (sym ((same_text-tells b a).0 h)))
