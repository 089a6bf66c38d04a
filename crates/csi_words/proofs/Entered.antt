-- What is entered, by the readers of its name and of its rows.
use Rattle.std.proofs.Common.{◌≡◌, ℕ, List}
use Rattle.std.specs.Prelude.{Option, Some, None, option_map}
use Rattle.clap.specs.Words.{Row}

-- the name and the rows of what is entered
abbrev pub both : {B : Type 0} → (B → List ℕ) → (B → List Row) → B → List ℕ × List Row
both name rows b = (name b, rows b)

-- a name and rows that were read of what is entered, each for itself, are read of it together
pub paired : {B : Type 0} (name : B → List ℕ) (rows : B → List Row) (entered : Option B) (n : List ℕ) (r : List Row) → Some n ≡ option_map name entered
    → Some r ≡ option_map (λ (p : List ℕ × List Row). p.1) (option_map (both name rows) entered) → option_map (both name rows) entered ≡ Some (n, r)
paired name rows None n r p q = cc
paired name rows (Some b) n r p q = cc
