-- A node that is lost, whose id was read. This profile's own.
use Rattle.std.specs.Prelude.{◌≡◌, ℕ, List, Option, Some, None, Result, Ok, Err}
use Rattle.csi_embedded.specs.declared.ending.CallEnding.{CallEnding}
use Rattle.csi_embedded.specs.declared.ending.CallEnding.TheVariants.{Empty}
use Rattle.csi_embedded.specs.declared.embedded.Embedded.{Embedded}
use Rattle.csi_embedded.specs.Public.Endings.{ending_number}
use Rattle.csi_embedded.specs.Public.Losing.{LosesOne}

-- the node that was read is lost; where none was, the call ends so, and all is as it was
abbrev pub LosesRead : Result (List ℕ) CallEnding → Embedded → Embedded → ℕ → CallEnding → Type 0
LosesRead (Ok node) old new fault ending = LosesOne node old new fault ending
LosesRead (Err why) old new fault ending = (ending ≡ why) × (new ≡ old)

-- the same of a handle
abbrev pub HandleLosesRead : Result (List ℕ) CallEnding → Option Embedded → Option Embedded → ℕ → CallEnding → Type 0
HandleLosesRead node (Some old) (Some new) fault ending = LosesRead node old new fault ending
HandleLosesRead node None None fault ending = ending ≡ Empty
HandleLosesRead node (Some old) None fault ending = ⊥
HandleLosesRead node None (Some new) fault ending = ⊥

-- and its number
pub record GivesLost (node : Result (List ℕ) CallEnding) (old new : Option Embedded) (fault number : ℕ) : Type 0 where
  pub ending : CallEnding
  pub is : number ≡ ending_number ending
  pub loses : HandleLosesRead node old new fault ending
