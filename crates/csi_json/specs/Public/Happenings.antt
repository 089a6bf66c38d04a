-- What happens in a schedule, in JSON: events and recoveries. This profile's own.
use Rattle.std.specs.Prelude.{ℕ, if◌then◌else◌, List, Option, Some, None, option_map, codes, bytes_eq}
use Rattle.serde_json.specs.Data.{Data}
use Rattle.serde_json.specs.Find.{get}
use Rattle.csi_types.specs.declared.event.Event.{Event}
use Rattle.csi_json.specs.declared.happening.Recovery.{Recovery}
use Rattle.csi_json.specs.declared.happening.Happening.{Happening}
use Rattle.csi_json.specs.declared.happening.Happening.TheVariants.{Occurs, Recovers}
use Rattle.csi_json.specs.Public.Json.{◌>>=◌, number_of, node_id_of, sized_object, only_member, all_of}
use Rattle.csi_json.specs.Public.Events.{event_of}

-- a recovery: the nodes whose stores are given, the new orchestrator's list of nodes, and its session
unfoldable pub recovery_of : Data → Option Recovery
recovery_of d = do
  object ← sized_object 3 d
  given ← get (codes "given") object >>= all_of node_id_of
  nodes ← get (codes "nodes") object >>= all_of node_id_of
  session ← get (codes "session") object >>= number_of
  Some (record { given = given; nodes = nodes; session = session })

-- by the key that it stands at
unfoldable pub recovery_at : List ℕ → Data → Option Recovery
recovery_at key d = if bytes_eq key (codes "recover") then recovery_of d else None

-- an object of one member
unfoldable pub recovery_in : Data → Option Recovery
recovery_in d = do
  only ← only_member d
  recovery_at only.0 only.1

-- an event; what is none may be a recovery
abbrev pub happening_by : Option Event → Option Recovery → Option Happening
happening_by (Some event) recovery = Some (Occurs event)
happening_by None recovery = option_map Recovers recovery

-- what happens
abbrev pub happening_of : Data → Option Happening
happening_of d = happening_by (event_of d) (recovery_in d)
