-- A controller, a node or an orchestrator: the parts of its record, what its last call changed, and how a plugin answers, as its service does.
-- This profile's own.
use Rattle.std.specs.Prelude.{◌≡◌, ℕ, Bool, true, false, List, map, Option, Some, None}
use Rattle.csi_types.specs.Model.Frame.{Frame}
use Rattle.csi_controller.specs.Model.Core.{Shows}
use Rattle.csi_controller.specs.Model.State.{ControllerState}
use Rattle.csi_controller.specs.Public.Views.{RecordParts}
use Rattle.csi_node.specs.Model.Record.{Shows as NodeShows}
use Rattle.csi_node.specs.Model.State.{NodeState}
use Rattle.csi_orchestrator.specs.Model.Shown.{OrchestratorParts}
use Rattle.csi_stores.specs.Public.Part.{StoredPart, StoredChange}
use Rattle.csi_records.specs.Public.Spelling.{present, controller_parts, volume_row, record_bytes}
use Rattle.csi_service.specs.Public.Services.{ControllerService, controller_service_parts, controller_service_changes, ControllerAnswers, NodeService, node_service_parts, node_service_changes, NodeServiceAnswers}
use Rattle.csi_service.specs.Public.OrchestratorServices.{ServedOrchestrator, orchestrator_service_parts, orchestrator_service_changes, IsToldStale, IsTimely}
use Rattle.csi_embedded.specs.declared.plugin.HeldPlugin.{HeldPlugin}
use Rattle.csi_embedded.specs.declared.plugin.HeldPlugin.TheVariants.{Controller, Node, Orchestrator}

-- whether it is an orchestrator
abbrev pub is_orchestrator : HeldPlugin → Bool
is_orchestrator (Controller service) = false
is_orchestrator (Node service) = false
is_orchestrator (Orchestrator service) = true

-- the orchestrator, if it is one
abbrev pub orchestrator_of : HeldPlugin → Option OrchestratorParts
orchestrator_of (Controller service) = None
orchestrator_of (Node service) = None
orchestrator_of (Orchestrator service) = Some service.orchestrator

-- the parts of its record
abbrev pub plugin_parts : HeldPlugin → List StoredPart
plugin_parts (Controller service) = controller_service_parts service
plugin_parts (Node service) = node_service_parts service
plugin_parts (Orchestrator service) = orchestrator_service_parts service

-- what its last call changed
abbrev pub plugin_changes : HeldPlugin → List StoredChange
plugin_changes (Controller service) = controller_service_changes service
plugin_changes (Node service) = node_service_changes service
plugin_changes (Orchestrator service) = orchestrator_service_changes service

-- a frame gets this reply, or none, and leads from one plugin to the other: reply and state are those of the fence over the plugin's table
abbrev pub PluginAnswers : HeldPlugin → Frame → Option Frame → HeldPlugin → Type 0
PluginAnswers (Controller old) frame reply (Controller new) = ControllerAnswers old frame reply new
PluginAnswers (Node old) frame reply (Node new) = NodeServiceAnswers old frame reply new
PluginAnswers (Controller old) frame reply (Node new) = ⊥
PluginAnswers (Node old) frame reply (Controller new) = ⊥
PluginAnswers (Controller old) frame reply (Orchestrator new) = ⊥
PluginAnswers (Node old) frame reply (Orchestrator new) = ⊥
PluginAnswers (Orchestrator old) frame reply new = ⊥

-- a frame says of an open call of the orchestrator that it was stale: its store is an older one
abbrev pub IsStaleTo : Frame → HeldPlugin → Type 0
IsStaleTo frame (Controller service) = ⊥
IsStaleTo frame (Node service) = ⊥
IsStaleTo frame (Orchestrator service) = IsToldStale frame service

-- it says so of none
abbrev pub IsTimelyTo : Frame → HeldPlugin → Type 0
IsTimelyTo frame (Controller service) = Unit {0}
IsTimelyTo frame (Node service) = Unit {0}
IsTimelyTo frame (Orchestrator service) = IsTimely frame service

-- ---- what a refusal leaves

-- a controller is as it was to its callers
pub record IsSameControllerService (old new : ControllerService) : Type 0 where
  pub config : new.plugin.config ≡ old.plugin.config
  pub shows : (state : ControllerState) → Shows old.plugin state → Shows new.plugin state
  pub parts : controller_service_parts new ≡ controller_service_parts old
  pub changes : controller_service_changes new ≡ controller_service_changes old

-- a node is as it was to its callers
pub record IsSameNodeService (old new : NodeService) : Type 0 where
  pub shows : (state : NodeState) → NodeShows old.plugin state → NodeShows new.plugin state
  pub parts : node_service_parts new ≡ node_service_parts old
  pub changes : node_service_changes new ≡ node_service_changes old

-- an orchestrator is as it was; its last call is another one, whose changes were told before
pub record IsSameOrchestratorService (old new : ServedOrchestrator) : Type 0 where
  pub orchestrator : new.orchestrator ≡ old.orchestrator

-- it is as it was: its state, its record, and what a plugin's last call changed
abbrev pub IsAsItWas : HeldPlugin → HeldPlugin → Type 0
IsAsItWas (Controller old) (Controller new) = IsSameControllerService old new
IsAsItWas (Node old) (Node new) = IsSameNodeService old new
IsAsItWas (Orchestrator old) (Orchestrator new) = IsSameOrchestratorService old new
IsAsItWas (Controller old) (Node new) = ⊥
IsAsItWas (Controller old) (Orchestrator new) = ⊥
IsAsItWas (Node old) (Controller new) = ⊥
IsAsItWas (Node old) (Orchestrator new) = ⊥
IsAsItWas (Orchestrator old) (Controller new) = ⊥
IsAsItWas (Orchestrator old) (Node new) = ⊥

-- ---- its record as bytes

-- a record of each state that the controller shows
pub record AreControllerRecordBytes (service : ControllerService) (bytes : List ℕ) : Type 0 where
  pub kept : RecordParts
  pub shows : (state : ControllerState) → Shows service.plugin state → Shows (record { config = service.plugin.config; next_id = kept.next_id; session = kept.session; rows = kept.rows }) state
  pub spelled : bytes ≡ record_bytes present (controller_parts present kept.next_id (Some kept.session) (map volume_row kept.rows))

-- the bytes of its whole record, in the present version
abbrev pub IsPluginRecord : HeldPlugin → List ℕ → Type 0
IsPluginRecord (Controller service) bytes = AreControllerRecordBytes service bytes
IsPluginRecord (Node service) bytes = bytes ≡ record_bytes present (node_service_parts service)
IsPluginRecord (Orchestrator service) bytes = bytes ≡ record_bytes present (orchestrator_service_parts service)
