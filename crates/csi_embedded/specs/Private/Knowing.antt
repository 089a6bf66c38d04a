-- A handle's orchestrator that tells of what was read. This profile's own.
use Rattle.std.specs.Prelude.{◌≡◌, ℕ, Option, Some, None, Result, Ok, Err}
use Rattle.csi_orchestrator.specs.declared.thing.Thing.{Thing}
use Rattle.csi_embedded.specs.declared.ending.CallEnding.{CallEnding}
use Rattle.csi_embedded.specs.declared.ending.CallEnding.TheVariants.{Empty}
use Rattle.csi_embedded.specs.declared.embedded.Embedded.{Embedded}
use Rattle.csi_embedded.specs.Public.Endings.{ending_number}
use Rattle.csi_embedded.specs.Public.Knowing.{TellsThing}

-- of the thing that was read; where none was, the call ends so
abbrev pub TellsRead : Result Thing CallEnding → Embedded → ℕ → CallEnding → Type 0
TellsRead (Ok thing) embedded known ending = TellsThing (λ one. one ≡ thing) embedded known ending
TellsRead (Err why) embedded known ending = ending ≡ why

-- the same of a handle
abbrev pub HandleTellsRead : Result Thing CallEnding → Option Embedded → ℕ → CallEnding → Type 0
HandleTellsRead thing (Some embedded) known ending = TellsRead thing embedded known ending
HandleTellsRead thing None known ending = ending ≡ Empty

-- and its number
pub record GivesKnown (thing : Result Thing CallEnding) (handle : Option Embedded) (known number : ℕ) : Type 0 where
  pub ending : CallEnding
  pub is : number ≡ ending_number ending
  pub tells : HandleTellsRead thing handle known ending
