-- What is wanted of a volume, as a value of JSON: the command that asked for it, as a schedule has it. This profile's own.
use Rattle.std.specs.Prelude.{ℕ, List, Option, Some, None, codes}
use Rattle.serde_json.specs.Data.{Data, boolean, null, string, object, no_members, member}
use Rattle.csi_orchestrator.specs.declared.request.Arguments.{Arguments}
use Rattle.csi_orchestrator.specs.declared.request.Usage.{Usage}
use Rattle.csi_orchestrator.specs.Model.History.{Goal, Create, Use, Stop, Delete}
use Rattle.csi_reports.specs.Public.Entries.{entries, whole_number}
use Rattle.csi_reports.specs.Public.Records.{capability_entry}

-- a create
abbrev pub create_entry : List ℕ → Arguments → Data
create_entry name arguments =
    object (member (codes "capabilities") (entries capability_entry arguments.capabilities)
    (member (codes "limit") (whole_number arguments.limit)
    (member (codes "name") (string name)
    (member (codes "required") (whole_number arguments.required) no_members))))

-- a use
abbrev pub use_entry : List ℕ → Usage → Data
use_entry name usage =
    object (member (codes "capability") (capability_entry usage.capability)
    (member (codes "name") (string name)
    (member (codes "node") (string usage.node)
    (member (codes "readonly") (boolean usage.readonly)
    (member (codes "target") (string usage.target) no_members)))))

-- a stop
abbrev pub stop_entry : List ℕ → List ℕ → List ℕ → Data
stop_entry name node target =
    object (member (codes "name") (string name) (member (codes "node") (string node) (member (codes "target") (string target) no_members)))

-- an object of one member
abbrev pub one_member : List ℕ → Data → Data
one_member key value = object (member key value no_members)

-- what is wanted of the volume of a name
abbrev pub wanted_entry : List ℕ → Goal → Data
wanted_entry name (Create arguments) = one_member (codes "create") (create_entry name arguments)
wanted_entry name (Use usage) = one_member (codes "use") (use_entry name usage)
wanted_entry name (Stop node target) = one_member (codes "stop") (stop_entry name node target)
wanted_entry name Delete = one_member (codes "delete") (string name)

-- the same, or null where nothing is wanted
abbrev pub goal_entry : List ℕ → Option Goal → Data
goal_entry name None = null
goal_entry name (Some goal) = wanted_entry name goal
