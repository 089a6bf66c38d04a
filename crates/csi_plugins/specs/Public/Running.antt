-- What a plugin's process does: the plugin is opened from its store, and served. This profile's own.
use Rattle.std.specs.Prelude.{◌≡◌, ◌⊎◌, ℕ, List, Option, Some}
use Rattle.csi_types.specs.Model.Frame.{Frame}
use Rattle.csi_types.specs.Model.Config.{Config}
use Rattle.csi_stores.specs.Public.Part.{StoredPart}
use Rattle.csi_records.specs.Public.Spelling.{present, controller_head}
use Rattle.csi_stores.specs.declared.keep.KeepFault.{KeepFault}
use Rattle.csi_stores.specs.Public.Stores.{Store}
use Rattle.csi_service.specs.Public.Opening.{Records, controller_records, node_records, HasRecord, IsOpenFault, LeavesOpened}
use Rattle.csi_service.specs.Public.NodeOpening.{joined_head, IsOfEarlierSession}
use Rattle.csi_service.specs.Public.Services.{controller_service_parts, node_service_parts}
use Rattle.csi_service.specs.Public.StoreOpening.{StaysFor}
use Rattle.csi_streams.specs.declared.ending.Ending.{Ending}
use Rattle.csi_streams.specs.declared.ending.Ending.TheVariants as endings
use Rattle.csi_plugins.specs.declared.kind.AskedPlugin.{AskedPlugin}
use Rattle.csi_plugins.specs.declared.kind.AskedPlugin.TheVariants.{Controller, Node}
use Rattle.csi_plugins.specs.Public.Ending.{ending_of_store}
use Rattle.csi_plugins.specs.Public.Service.{Streams, IsServed}
use Rattle.csi_plugins.specs.Public.Serving.{IsControllerUnder, ControllerServes, IsNodeJoined, NodeServes}

-- the plugin couldn't be opened from its store: nothing was read nor written, and it ended by the refusal
pub record IsOpeningRefused {X : Type 0} (records : Records X) (before after : Store) (head : StoredPart) (io : Streams) (ending : Ending) : Type 0 where
  pub fault : KeepFault
  pub cause : IsOpenFault records before after head fault
  pub left : LeavesOpened records before after head
  pub untouched : io.untouched
  pub ends : ending ≡ ending_of_store fault

-- a core as it is to be was opened from the store, in which its record is in the present version then, and served over that store
pub record IsOpened {X C K : Type 0} (seen : K → Store) (records : Records X) (IsAsked : C → Type 0) (answers : C → Frame → Option Frame → C → Type 0) (parts_of : C → List StoredPart) (before after : K) (head : StoredPart) (io : Streams) (ending : Ending) : Type 0 where
  pub core : C
  pub asked : IsAsked core
  pub opened : K
  pub honest : (seen opened).honest → (seen before).honest
  pub found : HasRecord records parts_of (seen before) (seen opened) head core
  pub left : LeavesOpened records (seen before) (seen opened) head
  pub served : IsServed answers parts_of core (seen opened) (seen after) io ending

-- one or the other
abbrev pub Runs : {X C K : Type 0} → (K → Store) → Records X → (C → Type 0) → (C → Frame → Option Frame → C → Type 0) → (C → List StoredPart) → StoredPart → K → K → Streams → Ending → Type 0
Runs seen records IsAsked answers parts_of head before after io ending =
    IsOpeningRefused records (seen before) (seen after) head io ending ⊎ IsOpened seen records IsAsked answers parts_of before after head io ending

-- the process of the controller plugin under a configuration, over a store that is seen so
abbrev pub ControllerRuns : {K : Type 0} → (K → Store) → Config → K → K → Streams → Ending → Type 0
ControllerRuns seen config = Runs seen controller_records (IsControllerUnder config) ControllerServes controller_service_parts (controller_head present 1 (Some 0))

-- the store has the node's record of an earlier session than that of its joining: nothing was read nor written, and the store stays as it is
pub record IsEarlierRefused (id : List ℕ) (session : ℕ) (before after : Store) (io : Streams) (ending : Ending) : Type 0 where
  pub earlier : StaysFor (IsOfEarlierSession id session) before after
  pub untouched : io.untouched
  pub ends : ending ≡ endings.EarlierSession

-- the process of the plugin of the node of this id, which joined with this session
abbrev pub NodeRuns : {K : Type 0} → (K → Store) → List ℕ → ℕ → K → K → Streams → Ending → Type 0
NodeRuns seen id session before after io ending =
    IsEarlierRefused id session (seen before) (seen after) io ending
    ⊎ Runs seen (node_records id) (IsNodeJoined id session) NodeServes node_service_parts (joined_head id session) before after io ending

-- of either
abbrev pub PluginRuns : {K : Type 0} → (K → Store) → AskedPlugin → K → K → Streams → Ending → Type 0
PluginRuns seen (Controller config) = ControllerRuns seen config
PluginRuns seen (Node id session) = NodeRuns seen id session
