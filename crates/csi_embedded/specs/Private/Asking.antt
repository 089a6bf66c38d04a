-- What C hands over, read; and a handle that is asked what was read. This profile's own.
use Rattle.std.specs.Prelude.{◌≡◌, ◌⊎◌, ℕ, List, ◌++◌, Option, Some, None, Result, Ok, Err}
use Rattle.csi_types.specs.declared.capability.Capability.{Capability}
use Rattle.csi_types.specs.Public.Limits.{IsCapability}
use Rattle.csi_frames.specs.Public.Spelling.{capability}
use Rattle.csi_types.specs.Model.Frame.{Frame}
use Rattle.csi_orchestrator.specs.declared.fault.Heard.{Heard}
use Rattle.csi_orchestrator.specs.declared.fault.OrchFault.{OrchFault}
use Rattle.csi_orchestrator.specs.Model.Moves.{Comes, Hears}
use Rattle.csi_embedded.specs.declared.command.Command.{Command}
use Rattle.csi_embedded.specs.declared.ending.CallEnding.{CallEnding}
use Rattle.csi_embedded.specs.declared.ending.CallEnding.TheVariants.{Empty, NoMemory, BadName, OlderStore}
use Rattle.csi_embedded.specs.declared.embedded.Embedded.{Embedded}
use Rattle.csi_embedded.specs.Public.Asking.{command_input, AsksOne, Carries, EndsHeard}
use Rattle.csi_embedded.specs.Public.Calls.{Remains}
use Rattle.csi_embedded.specs.Public.Plugins.{IsStaleTo, IsTimelyTo}
use Rattle.csi_embedded.specs.Public.Endings.{ending_number}

-- why no capability was read from the front of the bytes: none is spelled there, or memory ran out
abbrev pub IsNoFront : List ℕ → CallEnding → Type 0
IsNoFront bytes NoMemory = Unit {0}
IsNoFront bytes BadName = (one : Capability) (rest : List ℕ) → IsCapability one → bytes ≡ capability one ++ rest → ⊥
IsNoFront bytes _ = ⊥

-- a frame came, which says of no open call that it was stale, and the call ended by what became of it
pub record IsHeardFrame (came : Frame) (old new : Embedded) (count : ℕ) (bytes : List ℕ) (fault : ℕ) (ending : CallEnding) : Type 0 where
  pub timely : IsTimelyTo came old.plugin
  pub told : Result Heard OrchFault
  pub carried : Carries Hears (Comes came) old told new
  pub ends : EndsHeard told count bytes fault ending

-- or memory ran out before it did, or it says so of one, and all is as it was
abbrev pub HearsFrame : Frame → Embedded → Embedded → ℕ → List ℕ → ℕ → CallEnding → Type 0
HearsFrame came old new count bytes fault ending = IsHeardFrame came old new count bytes fault ending ⊎ (((ending ≡ NoMemory) ⊎ ((ending ≡ OlderStore) × IsStaleTo came old.plugin)) × Remains old new)

-- what was read is asked; where nothing was, the call ends so, and all is as it was
abbrev pub AsksRead : Result Command CallEnding → Embedded → Embedded → ℕ → ℕ → List ℕ → ℕ → CallEnding → Type 0
AsksRead (Ok command) old new room count bytes fault ending = AsksOne (λ input. input ≡ command_input command) old new room count bytes fault ending
AsksRead (Err why) old new room count bytes fault ending = (ending ≡ why) × (new ≡ old)

-- the same of a handle
abbrev pub HandleAsksRead : Result Command CallEnding → Option Embedded → Option Embedded → ℕ → ℕ → List ℕ → ℕ → CallEnding → Type 0
HandleAsksRead command (Some old) (Some new) room count bytes fault ending = AsksRead command old new room count bytes fault ending
HandleAsksRead command None None room count bytes fault ending = ending ≡ Empty
HandleAsksRead command (Some old) None room count bytes fault ending = ⊥
HandleAsksRead command None (Some new) room count bytes fault ending = ⊥

-- and its number
pub record GivesAsked (command : Result Command CallEnding) (old new : Option Embedded) (room count : ℕ) (bytes : List ℕ) (fault number : ℕ) : Type 0 where
  pub ending : CallEnding
  pub is : number ≡ ending_number ending
  pub asks : HandleAsksRead command old new room count bytes fault ending
