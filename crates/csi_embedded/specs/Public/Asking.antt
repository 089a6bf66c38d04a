-- What an orchestrator of a handle is asked by C, and how such a call ends. This profile's own.
use Rattle.std.specs.Prelude.{◌≡◌, ◌≢◌, ◌⊎◌, ◌<◌, ◌≤◌, ℕ, Bool, false, List, length, Option, Some, None, Result, Ok, Err, OnOk, OnErr}
use Rattle.std.specs.List.{flat_map, AllByRecursion}
use Rattle.std.specs.Str.{IsUtf8}
use Rattle.csi_types.specs.declared.capability.Capability.{Capability}
use Rattle.csi_types.specs.Model.Frame.{Frame}
use Rattle.csi_types.specs.Public.Limits.{IsCapability}
use Rattle.csi_types.specs.Public.Text.{IsName, IsNodeId, IsTarget}
use Rattle.csi_frames.specs.Public.Spelling.{capability, Spells, BeginsWith}
use Rattle.csi_orchestrator.specs.declared.fault.Heard.{Heard}
use Rattle.csi_orchestrator.specs.declared.fault.Heard.TheVariants as heards
use Rattle.csi_orchestrator.specs.declared.fault.OrchFault.{OrchFault}
use Rattle.csi_orchestrator.specs.declared.fault.OrchFault.TheVariants as faults
use Rattle.csi_orchestrator.specs.Model.Moves.{Input, ToCreate, ToUse, ToStop, ToDelete, TimesOut, Comes, Answer, Sends, Hears}
use Rattle.csi_orchestrator.specs.Public.Refusals.{refusal_number}
use Rattle.csi_stores.specs.Public.Content.{all_changed}
use Rattle.csi_service.specs.Public.OrchestratorServices.{ServedOrchestrator, OrchestratorAnswers}
use Rattle.csi_embedded.specs.declared.command.Command.{Command}
use Rattle.csi_embedded.specs.declared.command.Command.TheVariants as commands
use Rattle.csi_embedded.specs.declared.ending.CallEnding.{CallEnding}
use Rattle.csi_embedded.specs.declared.ending.CallEnding.TheVariants.{Done, NoMemory, Empty, BadName, NoRoom, Refused, OtherKind, Met, Ignored, OlderStore}
use Rattle.csi_embedded.specs.declared.embedded.Embedded.{Embedded}
use Rattle.csi_embedded.specs.declared.plugin.HeldPlugin.TheVariants.{Orchestrator}
use Rattle.csi_embedded.specs.Public.Calls.{frame_front, told_changes, IsNoFrame, Remains}
use Rattle.csi_embedded.specs.Public.Endings.{ending_number}
use Rattle.csi_embedded.specs.Public.Plugins.{plugin_parts, is_orchestrator, IsStaleTo, IsTimelyTo}

-- ---- what C hands over

-- why these bytes are no text of this kind
abbrev pub IsNoText : (List ℕ → Type 0) → List ℕ → CallEnding → Type 0
IsNoText Is bytes NoMemory = Unit {0}
IsNoText Is bytes BadName = IsUtf8 bytes → Is bytes → ⊥
IsNoText Is bytes _ = ⊥

-- why nothing is handed over that is so: there is nothing, or memory ran out
abbrev pub HasNone : {X : Type 0} → (X → Type 0) → CallEnding → Type 0
HasNone Is NoMemory = Unit {0}
HasNone {X} Is BadName = (x : X) → Is x → ⊥
HasNone Is _ = ⊥

-- the bytes spell this capability, as a frame does
pub record SpellsCapability (bytes : List ℕ) (one : Capability) : Type 0 where
  pub fits : IsCapability one
  pub are : bytes ≡ capability one

-- the bytes spell these capabilities, one after another, at most eight
pub record SpellsCapabilities (bytes : List ℕ) (list : List Capability) : Type 0 where
  pub few : length list ≤ 8
  pub each : AllByRecursion IsCapability list
  pub are : bytes ≡ flat_map capability list

-- ---- what is asked

-- what a command or a timeout asks the orchestrator
abbrev pub command_input : Command → Input
command_input (commands.Create name required limit capabilities) = ToCreate name (record { required = required; limit = limit; capabilities = capabilities })
command_input (commands.Use name node target capability readonly) = ToUse name (record { node = node; target = target; capability = capability; readonly = readonly })
command_input (commands.Stop name node target) = ToStop name node target
command_input (commands.Delete name) = ToDelete name
command_input (commands.Timeout name) = TimesOut name

-- it is this, where what it is made of is within its limits
pub record IsOf {X : Type 0} (Fits : Type 0) (this it : X) : Type 0 where
  pub fits : Fits
  pub same : it ≡ this

-- to create the volume of a name, for the capabilities that the bytes spell
pub record AsksCreate (name : List ℕ) (required limit : ℕ) (bytes : List ℕ) (input : Input) : Type 0 where
  pub named : IsName name
  pub capabilities : List Capability
  pub spelled : SpellsCapabilities bytes capabilities
  pub same : input ≡ ToCreate name (record { required = required; limit = limit; capabilities = capabilities })

-- to use it at a target of a node, in the capability that the bytes spell
pub record AsksUse (name node target bytes : List ℕ) (readonly : Bool) (input : Input) : Type 0 where
  pub named : IsName name
  pub at_node : IsNodeId node
  pub at_target : IsTarget target
  pub capability : Capability
  pub spelled : SpellsCapability bytes capability
  pub same : input ≡ ToUse name (record { node = node; target = target; capability = capability; readonly = readonly })

-- to stop using it there
abbrev pub AsksStop : List ℕ → List ℕ → List ℕ → Input → Type 0
AsksStop name node target input = IsOf (IsName name × IsNodeId node × IsTarget target) (ToStop name node target) input

-- to delete it
abbrev pub AsksDelete : List ℕ → Input → Type 0
AsksDelete name input = IsOf (IsName name) (ToDelete name) input

-- its open call timed out
abbrev pub AsksTimeout : List ℕ → Input → Type 0
AsksTimeout name input = IsOf (IsName name) (TimesOut name) input

-- ---- what the orchestrator does

-- It answers so, as it is served: for every history that it shows. What it changed leads from the old record to the new one, and a refusal leaves
-- what the store has to be given.
pub record Carries {A : Type 0} (tells : A → Answer) (input : Input) (old : Embedded) (result : Result A OrchFault) (new : Embedded) : Type 0 where
  pub before : ServedOrchestrator
  pub after : ServedOrchestrator
  pub was : old.plugin ≡ Orchestrator before
  pub is : new.plugin ≡ Orchestrator after
  pub answered : OrchestratorAnswers tells before input result after
  pub changed : OnOk result (plugin_parts new.plugin ≡ all_changed (told_changes new) (plugin_parts old.plugin))
  pub stays : OnErr result (told_changes new ≡ told_changes old)

-- ---- how a call ends

-- a refusal, by its number; or memory ran out
abbrev pub EndsRefused : OrchFault → ℕ → CallEnding → Type 0
EndsRefused why number ending =
    ((ending ≡ NoMemory) × (why ≡ faults.NoMemory)) ⊎ ((ending ≡ Refused) × (why ≢ faults.NoMemory) × (number ≡ refusal_number why))

-- the frame that is to be sent, in these bytes, and how many there are: none where there is no frame
abbrev pub GivesFrame : Option Frame → ℕ → List ℕ → Type 0
GivesFrame (Some frame) count bytes = Spells frame bytes × (count ≡ length bytes)
GivesFrame None count bytes = count ≡ 0

-- of a command or a timeout: a frame is to be sent, or what is asked is so already, or it is refused
abbrev pub EndsAsked : Result (Option Frame) OrchFault → ℕ → List ℕ → ℕ → CallEnding → Type 0
EndsAsked (Ok (Some frame)) count bytes fault ending = (ending ≡ Done) × GivesFrame (Some frame) count bytes
EndsAsked (Ok None) count bytes fault ending = (ending ≡ Met) × GivesFrame None count bytes
EndsAsked (Err why) count bytes fault ending = EndsRefused why fault ending

-- of a frame that came: it is taken, and the next may be to be sent; or it is ignored, or refused
abbrev pub EndsHeard : Result Heard OrchFault → ℕ → List ℕ → ℕ → CallEnding → Type 0
EndsHeard (Ok (heards.Taken sent)) count bytes fault ending = (ending ≡ Done) × GivesFrame sent count bytes
EndsHeard (Ok heards.Ignored) count bytes fault ending = (ending ≡ Ignored) × GivesFrame None count bytes
EndsHeard (Err why) count bytes fault ending = EndsRefused why fault ending

-- a command or a timeout was asked that is so, and the call ended by what became of it
pub record IsAsked (Is : Input → Type 0) (old new : Embedded) (count : ℕ) (bytes : List ℕ) (fault : ℕ) (ending : CallEnding) : Type 0 where
  pub input : Input
  pub such : Is input
  pub told : Result (Option Frame) OrchFault
  pub carried : Carries Sends input old told new
  pub ends : EndsAsked told count bytes fault ending

-- why none was: there is too little room, or the handle has a plugin, or C handed over none that is so, or memory ran out
abbrev pub IsUnasked : (Input → Type 0) → Embedded → ℕ → CallEnding → Type 0
IsUnasked Is old room ending = ((ending ≡ NoRoom) × (room < 1284)) ⊎ (((ending ≡ OtherKind) × (is_orchestrator old.plugin ≡ false)) ⊎ HasNone Is ending)

-- one of these; where none was asked, all is as it was
abbrev pub AsksOne : (Input → Type 0) → Embedded → Embedded → ℕ → ℕ → List ℕ → ℕ → CallEnding → Type 0
AsksOne Is old new room count bytes fault ending = IsAsked Is old new count bytes fault ending ⊎ (IsUnasked Is old room ending × Remains old new)

-- the frame that the bytes begin with came, says of no open call that it was stale, and took so many of them, and the call ended by what became of it
pub record IsHeard (old : Embedded) (came : List ℕ) (used : ℕ) (new : Embedded) (count : ℕ) (bytes : List ℕ) (fault : ℕ) (ending : CallEnding) : Type 0 where
  pub frame : Frame
  pub begins : BeginsWith (frame_front came) frame used
  pub timely : IsTimelyTo frame old.plugin
  pub told : Result Heard OrchFault
  pub carried : Carries Hears (Comes frame) old told new
  pub ends : EndsHeard told count bytes fault ending

-- why none came: there is too little room, or the handle has a plugin, or there is no frame, or memory ran out
abbrev pub IsUnheard : Embedded → List ℕ → ℕ → CallEnding → Type 0
IsUnheard old came room ending =
    ((ending ≡ NoRoom) × (room < 1284)) ⊎ (((ending ≡ OtherKind) × (is_orchestrator old.plugin ≡ false)) ⊎ IsNoFrame (frame_front came) ending)

-- or the frame that the bytes begin with, and that took so many of them, says of an open call that it was stale
pub record IsOfOlder (old : Embedded) (came : List ℕ) (used : ℕ) (ending : CallEnding) : Type 0 where
  pub frame : Frame
  pub begins : BeginsWith (frame_front came) frame used
  pub stale : IsStaleTo frame old.plugin
  pub ends : ending ≡ OlderStore

-- one of these; where none came, or that one, all is as it was
abbrev pub HearsOne : Embedded → List ℕ → ℕ → Embedded → ℕ → ℕ → List ℕ → ℕ → CallEnding → Type 0
HearsOne old came used new room count bytes fault ending =
    IsHeard old came used new count bytes fault ending ⊎ ((IsUnheard old came room ending ⊎ IsOfOlder old came used ending) × Remains old new)

-- ---- the same of handles

-- an empty handle stays so; else its orchestrator was asked, or not
abbrev pub HandleAsks : (Input → Type 0) → Option Embedded → Option Embedded → ℕ → ℕ → List ℕ → ℕ → CallEnding → Type 0
HandleAsks Is (Some old) (Some new) room count bytes fault ending = AsksOne Is old new room count bytes fault ending
HandleAsks Is None None room count bytes fault ending = ending ≡ Empty
HandleAsks Is (Some old) None room count bytes fault ending = ⊥
HandleAsks Is None (Some new) room count bytes fault ending = ⊥

-- and the number is that of the ending
pub record HasAsked (Is : Input → Type 0) (old new : Option Embedded) (room count : ℕ) (bytes : List ℕ) (fault number : ℕ) : Type 0 where
  pub ending : CallEnding
  pub is : number ≡ ending_number ending
  pub asks : HandleAsks Is old new room count bytes fault ending

-- the same of a frame that came
abbrev pub HandleHears : List ℕ → Option Embedded → ℕ → Option Embedded → ℕ → ℕ → List ℕ → ℕ → CallEnding → Type 0
HandleHears came (Some old) used (Some new) room count bytes fault ending = HearsOne old came used new room count bytes fault ending
HandleHears came None used None room count bytes fault ending = ending ≡ Empty
HandleHears came (Some old) used None room count bytes fault ending = ⊥
HandleHears came None used (Some new) room count bytes fault ending = ⊥

-- and its number
pub record HasHeard (came : List ℕ) (old : Option Embedded) (used : ℕ) (new : Option Embedded) (room count : ℕ) (bytes : List ℕ) (fault number : ℕ) : Type 0 where
  pub ending : CallEnding
  pub is : number ≡ ending_number ending
  pub hears : HandleHears came old used new room count bytes fault ending
