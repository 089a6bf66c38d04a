-- A configuration, in JSON. This profile's own.
use Rattle.std.specs.Prelude.{List, Option, codes}
use Rattle.serde_json.specs.Data.{Data}
use Rattle.serde_json.specs.Find.{get}
use Rattle.csi_json.specs.Public.Json.{◌>>=◌, number_of, sized_object, list_of}

-- an object with two members, of which `greatest` is a number and `nodes` has nodes: those alone take memory
unfoldable pub nodes_in : Data → Option (List Data)
nodes_in d = do
  object ← sized_object 2 d
  greatest ← get (codes "greatest") object >>= number_of
  get (codes "nodes") object >>= list_of
