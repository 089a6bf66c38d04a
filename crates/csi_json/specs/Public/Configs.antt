-- A configuration, in JSON. This profile's own.
use Rattle.std.specs.Prelude.{ℕ, List, Option, Some, None, Result, Ok, Err, codes}
use Rattle.serde_json.specs.Data.{Data}
use Rattle.serde_json.specs.Read.{read}
use Rattle.serde_json.specs.Find.{get}
use Rattle.csi_types.specs.declared.config.NodeSlots.{NodeSlots}
use Rattle.csi_types.specs.declared.config.ConfigFault.{ConfigFault}
use Rattle.csi_types.specs.Model.Config.{Config}
use Rattle.csi_types.specs.Public.Config.{config_fault}
use Rattle.csi_json.specs.declared.fault.ScheduleFault.{ScheduleFault}
use Rattle.csi_json.specs.declared.fault.ScheduleFault.TheVariants.{NotJson, BadSchedule}
use Rattle.csi_json.specs.Public.Json.{◌>>=◌, number_of, node_id_of, sized_object, all_of}

-- a node of a configuration: an object of an id and a count of slots
unfoldable pub node_slots_of : Data → Option NodeSlots
node_slots_of d = do
  object ← sized_object 2 d
  id ← get (codes "id") object >>= node_id_of
  slots ← get (codes "slots") object >>= number_of
  Some (record { id = id; slots = slots })

-- a configuration that has no fault
abbrev pub faultless : Config → Option ConfigFault → Option Config
faultless config None = Some config
faultless config (Some fault) = None

-- a configuration: an object of the greatest capacity and the nodes
unfoldable pub config_of : Data → Option Config
config_of d = do
  object ← sized_object 2 d
  greatest ← get (codes "greatest") object >>= number_of
  nodes ← get (codes "nodes") object >>= all_of node_slots_of
  faultless (record { greatest = greatest; nodes = nodes }) (config_fault greatest nodes)

-- ---- a configuration alone

-- a configuration, or the fault that there is none
abbrev pub config_or_fault : Option Config → Result Config ScheduleFault
config_or_fault (Some config) = Ok config
config_or_fault None = Err (BadSchedule 0)

-- what is read of a text: a configuration, or why there is none
abbrev pub config_read : Option Data → Result Config ScheduleFault
config_read (Some d) = config_or_fault (config_of d)
config_read None = Err NotJson

-- the configuration that a text says, or its fault
abbrev pub text_config : List ℕ → Result Config ScheduleFault
text_config text = config_read (read text)
