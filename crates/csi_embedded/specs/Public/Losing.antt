-- An orchestrator of a handle that is told by C that a node is lost, and how that call ends. This profile's own.
use Rattle.std.specs.Prelude.{◌≡◌, ◌⊎◌, ℕ, false, List, Option, Some, None, Result, Ok, Err, OnOk, OnErr}
use Rattle.csi_types.specs.Public.Text.{IsNodeId}
use Rattle.csi_orchestrator.specs.declared.fault.OrchFault.{OrchFault}
use Rattle.csi_stores.specs.Public.Content.{all_changed}
use Rattle.csi_service.specs.Public.OrchestratorServices.{ServedOrchestrator, OrchestratorLoses}
use Rattle.csi_embedded.specs.declared.ending.CallEnding.{CallEnding}
use Rattle.csi_embedded.specs.declared.ending.CallEnding.TheVariants.{Done, NoMemory, Empty, OtherKind}
use Rattle.csi_embedded.specs.declared.embedded.Embedded.{Embedded}
use Rattle.csi_embedded.specs.declared.plugin.HeldPlugin.TheVariants.{Orchestrator}
use Rattle.csi_embedded.specs.Public.Asking.{EndsRefused}
use Rattle.csi_embedded.specs.Public.Calls.{told_changes, Remains}
use Rattle.csi_embedded.specs.Public.Making.{IsNoId}
use Rattle.csi_embedded.specs.Public.Endings.{ending_number}
use Rattle.csi_embedded.specs.Public.Plugins.{plugin_parts, is_orchestrator}

-- It loses the node, as it is served: for every history that it shows. What it changed leads from the old record to the new one, and a refusal leaves
-- what the store has to be given.
pub record LosesNode {A : Type 0} (node : List ℕ) (old : Embedded) (result : Result A OrchFault) (new : Embedded) : Type 0 where
  pub before : ServedOrchestrator
  pub after : ServedOrchestrator
  pub was : old.plugin ≡ Orchestrator before
  pub is : new.plugin ≡ Orchestrator after
  pub lost : OrchestratorLoses before node result after
  pub changed : OnOk result (plugin_parts new.plugin ≡ all_changed (told_changes new) (plugin_parts old.plugin))
  pub stays : OnErr result (told_changes new ≡ told_changes old)

-- it is done, or refused
abbrev pub EndsLost : {A : Type 0} → Result A OrchFault → ℕ → CallEnding → Type 0
EndsLost (Ok done) fault ending = ending ≡ Done
EndsLost (Err why) fault ending = EndsRefused why fault ending

-- the node was taken as lost, and the call ended by what became of it
pub record IsLost (node : List ℕ) (old new : Embedded) (fault : ℕ) (ending : CallEnding) : Type 0 where
  pub told : Result (Unit {0}) OrchFault
  pub lost : LosesNode node old told new
  pub ends : EndsLost told fault ending

-- why it wasn't: the handle has a plugin, or memory ran out
abbrev pub IsUnlost : Embedded → CallEnding → Type 0
IsUnlost old ending = ((ending ≡ OtherKind) × (is_orchestrator old.plugin ≡ false)) ⊎ (ending ≡ NoMemory)

-- one of these; where it wasn't, all is as it was
abbrev pub LosesOne : List ℕ → Embedded → Embedded → ℕ → CallEnding → Type 0
LosesOne node old new fault ending = IsLost node old new fault ending ⊎ (IsUnlost old ending × Remains old new)

-- the bytes are a node's id, and it was taken as lost or not; or they are none, and all is as it was
abbrev pub LosesNamed : List ℕ → Embedded → Embedded → ℕ → CallEnding → Type 0
LosesNamed bytes old new fault ending = (IsNodeId bytes × LosesOne bytes old new fault ending) ⊎ (IsNoId bytes ending × Remains old new)

-- an empty handle stays so
abbrev pub HandleLoses : List ℕ → Option Embedded → Option Embedded → ℕ → CallEnding → Type 0
HandleLoses bytes (Some old) (Some new) fault ending = LosesNamed bytes old new fault ending
HandleLoses bytes None None fault ending = ending ≡ Empty
HandleLoses bytes (Some old) None fault ending = ⊥
HandleLoses bytes None (Some new) fault ending = ⊥

-- and the number is that of the ending
pub record HasLost (bytes : List ℕ) (old new : Option Embedded) (fault number : ℕ) : Type 0 where
  pub ending : CallEnding
  pub is : number ≡ ending_number ending
  pub loses : HandleLoses bytes old new fault ending
