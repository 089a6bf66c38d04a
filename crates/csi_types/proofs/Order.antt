-- The order of call numbers, as facts of whole numbers.
use Rattle.std.proofs.Common.{◌≡◌, ◌⊎◌, ◌<◌, true, arith}
use Rattle.std.proofs.lemmas.Bool.Decides.{nat_tests}
use Rattle.csi_types.specs.declared.number.Number.{Number}
use Rattle.csi_types.specs.Model.Number.{is_before}

-- by session first, then by call
pub before-parts : (a b : Number) → is_before a b ≡ true → (a.session < b.session) ⊎ ((a.session ≡ b.session) × (a.call < b.call))
before-parts a b h = grind (arith, nat_tests)

-- a number of an earlier session, or of the same one and with an earlier call, passes the test
pub before-from : (a b : Number) → (a.session < b.session) ⊎ ((a.session ≡ b.session) × (a.call < b.call)) → is_before a b ≡ true
before-from a b h = grind (arith, nat_tests)

-- a number before one that is before a third is before the third
pub before-trans : (a b c : Number) → is_before a b ≡ true → is_before b c ≡ true → is_before a c ≡ true
before-trans a b c h k = grind (arith, nat_tests)
