-- Counts of failures that stay.
use Rattle.std.proofs.Common.{◌≡◌, ◌∙◌, ℕ, List, ◌≤◌, Bool, false, not, length, ap, arith}
use Rattle.std.proofs.lemmas.Bool.Decides.{nat_tests}
use Rattle.std.specs.Prelude.{◌==◌, ◌&&◌}
use Rattle.csi_stores.specs.Public.Counting.{fault_count_after}

-- where some bytes were taken no failure is counted
pub taken-stays : (n : ℕ) (bytes : List ℕ) (old new : ℕ) → 1 ≤ n → new ≡ fault_count_after ((n == 0) && not (length bytes == 0)) old → new ≡ old
taken-stays n bytes old new some is =
    let taken : (n == 0) ≡ false = grind (arith, nat_tests) in
    is ∙ ap (λ (b : Bool). fault_count_after (b && not (length bytes == 0)) old) taken
