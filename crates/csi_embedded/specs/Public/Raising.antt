-- A session that is raised in the plugin of a handle, without a call. This profile's own.
use Rattle.std.specs.Prelude.{◌≡◌, ℕ, true, List, Option, Some, None}
use Rattle.csi_stores.specs.Public.Part.{StoredChange}
use Rattle.csi_stores.specs.Public.Content.{all_changed}
use Rattle.csi_service.specs.Public.Raising.{raise_changes, IsRaised}
use Rattle.csi_service.specs.Public.Services.{controller_view, node_view}
use Rattle.csi_embedded.specs.declared.ending.CallEnding.{CallEnding}
use Rattle.csi_embedded.specs.declared.ending.CallEnding.TheVariants.{Done, NoMemory, Empty, OtherKind}
use Rattle.csi_embedded.specs.declared.embedded.Embedded.{Embedded}
use Rattle.csi_embedded.specs.declared.plugin.HeldPlugin.{HeldPlugin}
use Rattle.csi_embedded.specs.declared.plugin.HeldPlugin.TheVariants.{Controller, Node, Orchestrator}
use Rattle.csi_embedded.specs.Public.Calls.{told_changes, Remains}
use Rattle.csi_embedded.specs.Public.Endings.{ending_number}
use Rattle.csi_embedded.specs.Public.Plugins.{plugin_parts, is_orchestrator}

-- the session was raised in the plugin, as if a call had begun it, where it is later than the greatest that came; and this is what its store has to be
-- given: the head, and what takes out the rows that are forgotten, or nothing
abbrev pub RaisesPlugin : ℕ → HeldPlugin → List StoredChange → HeldPlugin → Type 0
RaisesPlugin session (Controller old) changes (Controller new) =
    IsRaised controller_view session old.plugin new.plugin × (changes ≡ raise_changes controller_view session old.plugin)
RaisesPlugin session (Node old) changes (Node new) = IsRaised node_view session old.plugin new.plugin × (changes ≡ raise_changes node_view session old.plugin)
RaisesPlugin session (Controller old) changes (Node new) = ⊥
RaisesPlugin session (Controller old) changes (Orchestrator new) = ⊥
RaisesPlugin session (Node old) changes (Controller new) = ⊥
RaisesPlugin session (Node old) changes (Orchestrator new) = ⊥
RaisesPlugin session (Orchestrator old) changes new = ⊥

-- it was raised, and what the store has to be given leads from the old record to the new one
pub record IsRaisedIn (session : ℕ) (old new : Embedded) : Type 0 where
  pub raised : RaisesPlugin session old.plugin (told_changes new) new.plugin
  pub changed : plugin_parts new.plugin ≡ all_changed (told_changes new) (plugin_parts old.plugin)

-- it was raised; or all is as it was: memory ran out, or it is an orchestrator, in which none is
abbrev pub RaisesOne : ℕ → Embedded → Embedded → CallEnding → Type 0
RaisesOne session old new Done = IsRaisedIn session old new
RaisesOne session old new NoMemory = Remains old new
RaisesOne session old new OtherKind = (is_orchestrator old.plugin ≡ true) × Remains old new
RaisesOne session old new _ = ⊥

-- the same of a handle; an empty one stays so
abbrev pub HandleRaises : ℕ → Option Embedded → Option Embedded → CallEnding → Type 0
HandleRaises session (Some old) (Some new) ending = RaisesOne session old new ending
HandleRaises session None None ending = ending ≡ Empty
HandleRaises session (Some old) None ending = ⊥
HandleRaises session None (Some new) ending = ⊥

-- and the number is that of the ending
pub record HasRaised (session : ℕ) (old new : Option Embedded) (number : ℕ) : Type 0 where
  pub ending : CallEnding
  pub is : number ≡ ending_number ending
  pub raises : HandleRaises session old new ending
