-- The version of the library, as it is told. This profile's own.
use Rattle.std.specs.Prelude.{◌≡◌, ℕ, List, codes}
use Rattle.csi_embedded.specs.declared.ending.CallEnding.{CallEnding}
use Rattle.csi_embedded.specs.Public.Endings.{ending_number}
use Rattle.csi_embedded.specs.Public.Knowing.{Fills}

-- the version, which is that of the file VERSION at the top of the repository
abbrev pub version : List ℕ
version = codes "1.0.0"

-- it was told, or doesn't fit, and then it is said how many bytes it has
pub record TellsVersion (room count : ℕ) (bytes : List ℕ) (number : ℕ) : Type 0 where
  pub ending : CallEnding
  pub is : number ≡ ending_number ending
  pub fills : Fills version room count bytes ending
