-- Numbers of one session, and of earlier ones.
use Rattle.csi_world.proofs.Words.{◌≡◌, ℕ, ◌<◌, ◌≤◌, ◌-◌, arith, Number, IsBefore}
use Rattle.csi_world.proofs.Lemmas.{nat_tests}
use Rattle.csi_world.proofs.HeardNumbers.{IsUpTo}

-- of two numbers of one session the later has the greater call
pub greater : (a b : Number) → IsBefore a b → a.session ≡ b.session → a.call < b.call
greater a b before same = grind (arith, nat_tests)

-- and it is of no earlier session
pub no-earlier : (a b : Number) → IsBefore a b → a.session ≤ b.session
no-earlier a b before = grind (arith, nat_tests)

-- a number of an earlier session comes before
pub session-before : (a b : Number) → a.session < b.session → IsBefore a b
session-before a b less = grind (arith, nat_tests)

-- a number after the last one's call, in its session or a later one, is none up to the last one
pub far : (last start number : Number) → last.session ≤ start.session → start.call ≡ last.call → IsBefore start number → start.session ≡ number.session → IsUpTo last number → ⊥
far last start number low same after of h = grind (arith, greater, no-earlier)

-- a session before one
pub earlier-one : (a b : ℕ) → a < b → b - 1 < b
earlier-one a b less = omega (arith, less)
