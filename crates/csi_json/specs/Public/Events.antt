-- The events of a schedule, in JSON. This profile's own.
use Rattle.std.specs.Prelude.{ℕ, if◌then◌else◌, List, Option, Some, None, codes, bytes_eq}
use Rattle.serde_json.specs.Data.{Data}
use Rattle.serde_json.specs.Find.{get, as_str, as_bool}
use Rattle.csi_types.specs.declared.event.Event.{Event}
use Rattle.csi_types.specs.declared.event.Event.TheVariants as events
use Rattle.csi_json.specs.Public.Json.{◌>>=◌, number_of, name_of, node_id_of, target_of, sized_object, only_member, all_of}
use Rattle.csi_json.specs.Public.Capabilities.{capability_of, capabilities_of}
use Rattle.csi_json.specs.Public.Configs.{config_of}

-- a volume is asked for
unfoldable pub create_of : Data → Option Event
create_of d = do
  object ← sized_object 4 d
  name ← get (codes "name") object >>= name_of
  required ← get (codes "required") object >>= number_of
  limit ← get (codes "limit") object >>= number_of
  capabilities ← get (codes "capabilities") object >>= capabilities_of
  Some (events.Create name required limit capabilities)

-- a use is asked for
unfoldable pub use_of : Data → Option Event
use_of d = do
  object ← sized_object 5 d
  name ← get (codes "name") object >>= name_of
  node ← get (codes "node") object >>= node_id_of
  target ← get (codes "target") object >>= target_of
  capability ← get (codes "capability") object >>= capability_of
  readonly ← get (codes "readonly") object >>= as_bool
  Some (events.Use name node target capability readonly)

-- a stop is asked for
unfoldable pub stop_of : Data → Option Event
stop_of d = do
  object ← sized_object 3 d
  name ← get (codes "name") object >>= name_of
  node ← get (codes "node") object >>= node_id_of
  target ← get (codes "target") object >>= target_of
  Some (events.Stop name node target)

-- a delete is asked for
unfoldable pub delete_of : Data → Option Event
delete_of d = do
  name ← name_of d
  Some (events.Delete name)

-- the open call of a volume times out
unfoldable pub timeout_of : Data → Option Event
timeout_of d = do
  name ← name_of d
  Some (events.Timeout name)

-- the frame of a number is delivered
unfoldable pub deliver_of : Data → Option Event
deliver_of d = do
  number ← number_of d
  Some (events.Deliver number)

-- the orchestrator or the controller restarts, and keeps what it was given
unfoldable pub restart_of : Data → Option Event
restart_of d = do
  part ← as_str d
  if bytes_eq part (codes "orchestrator") then Some events.RestartOrchestrator
      else if bytes_eq part (codes "controller") then Some events.RestartController
      else None

-- a node restarts
unfoldable pub restart_node_of : Data → Option Event
restart_node_of d = do
  node ← node_id_of d
  Some (events.RestartNode node)

-- the controller restarts with a configuration
unfoldable pub restart_controller_of : Data → Option Event
restart_controller_of d = do
  config ← config_of d
  Some (events.RestartControllerWith config)

-- the orchestrator restarts with a list of nodes
unfoldable pub restart_orchestrator_of : Data → Option Event
restart_orchestrator_of d = do
  nodes ← all_of node_id_of d
  Some (events.RestartOrchestratorWith nodes)

-- a node joins
unfoldable pub join_of : Data → Option Event
join_of d = do
  node ← node_id_of d
  Some (events.Join node)

-- a node is lost. The operator promises: the machine is off for good, and its store never comes back; an emptied store is a lost node
unfoldable pub lose_of : Data → Option Event
lose_of d = do
  node ← node_id_of d
  Some (events.Lose node)

-- a volume is brought to rest, as far as deliveries do that
unfoldable pub settle_of : Data → Option Event
settle_of d = do
  name ← name_of d
  Some (events.Settle name)

-- an event by the key that it stands at
unfoldable pub event_at : List ℕ → Data → Option Event
event_at key d =
    if bytes_eq key (codes "create") then create_of d
    else if bytes_eq key (codes "use") then use_of d
    else if bytes_eq key (codes "stop") then stop_of d
    else if bytes_eq key (codes "delete") then delete_of d
    else if bytes_eq key (codes "timeout") then timeout_of d
    else if bytes_eq key (codes "deliver") then deliver_of d
    else if bytes_eq key (codes "restart") then restart_of d
    else if bytes_eq key (codes "restart_node") then restart_node_of d
    else if bytes_eq key (codes "restart_controller") then restart_controller_of d
    else if bytes_eq key (codes "restart_orchestrator") then restart_orchestrator_of d
    else if bytes_eq key (codes "join") then join_of d
    else if bytes_eq key (codes "lose") then lose_of d
    else if bytes_eq key (codes "settle") then settle_of d
    else None

-- an event: an object of one member, whose key says which
unfoldable pub event_of : Data → Option Event
event_of d = do
  only ← only_member d
  event_at only.0 only.1
