-- What an orchestrator of a handle tells of a volume: whether things are so, as far as it knows, and what is wanted. This profile's own.
use Rattle.std.specs.Prelude.{◌≡◌, ◌⊎◌, ◌<◌, ℕ, List, length, slice_get, Option, Some, None, option_and_then}
use Rattle.csi_types.specs.Public.Text.{IsName, IsNodeId, IsTarget}
use Rattle.csi_orchestrator.specs.declared.row.Goal.{Goal}
use Rattle.csi_orchestrator.specs.declared.thing.Thing.{Thing}
use Rattle.csi_orchestrator.specs.declared.thing.Thing.TheVariants.{Exists, Attached, Staged, Published}
use Rattle.csi_orchestrator.specs.Model.History.{History}
use Rattle.csi_orchestrator.specs.Model.Readings as readings
use Rattle.csi_orchestrator.specs.Model.Shown.{RowShown, OrchestratorParts, Shows, orchestrator_view}
use Rattle.csi_orchestrator.specs.Public.Changed.{place_by_name}
use Rattle.csi_records.specs.Public.OrchestratorSpelling.{known_byte, goal_bytes}
use Rattle.csi_embedded.specs.declared.ending.CallEnding.{CallEnding}
use Rattle.csi_embedded.specs.declared.ending.CallEnding.TheVariants.{Done, Empty, NoRoom, NoMore, OtherKind}
use Rattle.csi_embedded.specs.declared.embedded.Embedded.{Embedded}
use Rattle.csi_embedded.specs.Public.Asking.{IsOf, HasNone}
use Rattle.csi_embedded.specs.Public.Endings.{ending_number}
use Rattle.csi_embedded.specs.Public.Plugins.{orchestrator_of}

-- ---- what it is asked of

-- that the volume of a name is there
abbrev pub AsksExists : List ℕ → Thing → Type 0
AsksExists name thing = IsOf (IsName name) (Exists name) thing

-- that it is attached to a node
abbrev pub AsksAttached : List ℕ → List ℕ → Thing → Type 0
AsksAttached name node thing = IsOf (IsName name × IsNodeId node) (Attached name node) thing

-- that it is staged there
abbrev pub AsksStaged : List ℕ → List ℕ → Thing → Type 0
AsksStaged name node thing = IsOf (IsName name × IsNodeId node) (Staged name node) thing

-- that it is published at a target there
abbrev pub AsksPublished : List ℕ → List ℕ → List ℕ → Thing → Type 0
AsksPublished name node target thing = IsOf (IsName name × IsNodeId node × IsTarget target) (Published name node target) thing

-- the bytes are these, or don't fit, and then it is said how many there are
abbrev pub Fills : List ℕ → ℕ → ℕ → List ℕ → CallEnding → Type 0
Fills whole room count bytes ending =
    ((ending ≡ Done) × (bytes ≡ whole) × (count ≡ length whole)) ⊎ ((ending ≡ NoRoom) × (count ≡ length whole) × (room < count))

-- the row of a name, if it has one
abbrev pub row_named : List ℕ → OrchestratorParts → Option RowShown
row_named name parts = option_and_then (slice_get parts.rows) (place_by_name name parts.rows)

-- what is wanted of the volume of a name, if it has a row
abbrev pub goal_named : List ℕ → OrchestratorParts → Option Goal
goal_named name parts = option_and_then (λ row. row.goal) (row_named name parts)

-- ---- what it tells

-- the handle has a plugin, or C handed over nothing that is so, or memory ran out
abbrev pub IsUntold : {X : Type 0} → (X → Type 0) → Embedded → CallEnding → Type 0
IsUntold Is embedded ending = ((ending ≡ OtherKind) × (orchestrator_of embedded.plugin ≡ None)) ⊎ HasNone Is ending

-- what it knows of a thing that is so, by its number: by its rows, and by every history that it shows
pub record Knows (Is : Thing → Type 0) (embedded : Embedded) (known : ℕ) (ending : CallEnding) : Type 0 where
  pub done : ending ≡ Done
  pub thing : Thing
  pub such : Is thing
  pub orchestrator : OrchestratorParts
  pub of_handle : orchestrator_of embedded.plugin ≡ Some orchestrator
  pub marked : known ≡ known_byte ((orchestrator_view orchestrator).marks thing)
  pub agrees : (history : History) → Shows orchestrator history → known ≡ known_byte (readings.known history thing)

-- that, or nothing
abbrev pub TellsThing : (Thing → Type 0) → Embedded → ℕ → CallEnding → Type 0
TellsThing Is embedded known ending = Knows Is embedded known ending ⊎ IsUntold Is embedded ending

-- what is wanted of the volume of a name that is so
pub record Wants (Is : List ℕ → Type 0) (embedded : Embedded) (room count : ℕ) (bytes : List ℕ) (ending : CallEnding) : Type 0 where
  pub name : List ℕ
  pub such : Is name
  pub orchestrator : OrchestratorParts
  pub of_handle : orchestrator_of embedded.plugin ≡ Some orchestrator
  pub fills : Fills (goal_bytes (goal_named name orchestrator)) room count bytes ending

-- that, or nothing
abbrev pub TellsGoal : (List ℕ → Type 0) → Embedded → ℕ → ℕ → List ℕ → CallEnding → Type 0
TellsGoal Is embedded room count bytes ending = Wants Is embedded room count bytes ending ⊎ IsUntold Is embedded ending

-- the name of a row, if there is one
abbrev pub NamesRow : Option RowShown → ℕ → ℕ → List ℕ → CallEnding → Type 0
NamesRow (Some row) room count bytes ending = Fills row.name room count bytes ending
NamesRow None room count bytes ending = ending ≡ NoMore

-- of the row at a place
abbrev pub NamesRowAt : ℕ → Option OrchestratorParts → ℕ → ℕ → List ℕ → CallEnding → Type 0
NamesRowAt place (Some orchestrator) room count bytes ending = NamesRow (slice_get orchestrator.rows place) room count bytes ending
NamesRowAt place None room count bytes ending = ending ≡ OtherKind

-- of the orchestrator, if it is one
abbrev pub TellsVolume : ℕ → Embedded → ℕ → ℕ → List ℕ → CallEnding → Type 0
TellsVolume place embedded room count bytes ending = NamesRowAt place (orchestrator_of embedded.plugin) room count bytes ending

-- ---- the same of handles

-- of a thing
abbrev pub HandleTellsThing : (Thing → Type 0) → Option Embedded → ℕ → CallEnding → Type 0
HandleTellsThing Is (Some embedded) known ending = TellsThing Is embedded known ending
HandleTellsThing Is None known ending = ending ≡ Empty

-- and the number is that of the ending
pub record HasKnown (Is : Thing → Type 0) (handle : Option Embedded) (known number : ℕ) : Type 0 where
  pub ending : CallEnding
  pub is : number ≡ ending_number ending
  pub tells : HandleTellsThing Is handle known ending

-- of what is wanted
abbrev pub HandleTellsGoal : List ℕ → Option Embedded → ℕ → ℕ → List ℕ → CallEnding → Type 0
HandleTellsGoal name (Some embedded) room count bytes ending = TellsGoal (λ one. IsOf (IsName name) name one) embedded room count bytes ending
HandleTellsGoal name None room count bytes ending = ending ≡ Empty

-- and its number
pub record HasGoal (name : List ℕ) (handle : Option Embedded) (room count : ℕ) (bytes : List ℕ) (number : ℕ) : Type 0 where
  pub ending : CallEnding
  pub is : number ≡ ending_number ending
  pub tells : HandleTellsGoal name handle room count bytes ending

-- of a name
abbrev pub HandleTellsVolume : ℕ → Option Embedded → ℕ → ℕ → List ℕ → CallEnding → Type 0
HandleTellsVolume place (Some embedded) room count bytes ending = TellsVolume place embedded room count bytes ending
HandleTellsVolume place None room count bytes ending = ending ≡ Empty

-- and its number
pub record HasVolume (place : ℕ) (handle : Option Embedded) (room count : ℕ) (bytes : List ℕ) (number : ℕ) : Type 0 where
  pub ending : CallEnding
  pub is : number ≡ ending_number ending
  pub tells : HandleTellsVolume place handle room count bytes ending
