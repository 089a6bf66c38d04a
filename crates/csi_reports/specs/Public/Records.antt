-- What a plugin's record has, as a value of JSON: an object with its keys in order. This profile's own.
use Rattle.std.specs.Prelude.{ℕ, Option, Some, None, codes}
use Rattle.serde_json.specs.Data.{Data, boolean, null, string, object, no_members, member}
use Rattle.csi_types.specs.declared.capability.Access.{Access}
use Rattle.csi_types.specs.declared.capability.Access.TheVariants.{Block, Mount}
use Rattle.csi_types.specs.declared.capability.Capability.{Capability}
use Rattle.csi_types.specs.declared.number.Number.{Number}
use Rattle.csi_types.specs.Model.Mode.{mode_number}
use Rattle.csi_controller.specs.declared.row.ControllerRow.{ControllerRow}
use Rattle.csi_controller.specs.declared.row.NodeHolding.{NodeHolding}
use Rattle.csi_controller.specs.Public.Views.{RecordParts}
use Rattle.csi_node.specs.declared.row.NodeRow.{NodeRow}
use Rattle.csi_node.specs.declared.row.NodeTarget.{NodeTarget}
use Rattle.csi_node.specs.Model.Record.{NodeParts}
use Rattle.csi_reports.specs.Public.Entries.{entries, whole_number}

-- as a schedule has it
abbrev pub capability_data : ℕ → Access → Data
capability_data mode Block = object (member (codes "access") (string (codes "block")) (member (codes "mode") (whole_number mode) no_members))
capability_data mode (Mount fs) = object (member (codes "access") (string (codes "mount")) (member (codes "fs") (string fs) (member (codes "mode") (whole_number mode) no_members)))

-- a capability
abbrev pub capability_entry : Capability → Data
capability_entry capability = capability_data (mode_number capability.mode) capability.access

-- a call's number
abbrev pub number_entry : Number → Data
number_entry last = object (member (codes "call") (whole_number last.call) (member (codes "session") (whole_number last.session) no_members))

-- ---- the controller's: volumes that were made, and where each is held

-- a node that a volume is attached to
abbrev pub holding_entry : NodeHolding → Data
holding_entry held =
    object (member (codes "capability") (capability_entry held.capability) (member (codes "node") (string held.node) (member (codes "readonly") (boolean held.readonly) no_members)))

-- a controller's row
abbrev pub made_entry : ControllerRow → Data
made_entry row =
    object (member (codes "attached") (entries holding_entry row.holdings.items) (member (codes "capabilities") (entries capability_entry row.capabilities) (member (codes "capacity") (whole_number row.capacity) (member (codes "id") (whole_number row.id) (member (codes "last") (number_entry row.last) (member (codes "live") (boolean row.live) (member (codes "name") (string row.name) no_members)))))))

-- a controller's record
abbrev pub controller_entry : RecordParts → Data
controller_entry kept =
    object (member (codes "next_id") (whole_number kept.next_id) (member (codes "plugin") (string (codes "controller")) (member (codes "session") (whole_number kept.session) (member (codes "volumes") (entries made_entry kept.rows) no_members))))

-- ---- a node's: volumes for which it answered a call, how each is staged and where it is published

-- a target that a volume is published at
abbrev pub target_entry : NodeTarget → Data
target_entry at = object (member (codes "readonly") (boolean at.readonly) (member (codes "target") (string at.target) no_members))

-- the capability with which a volume is staged, or null
abbrev pub staged_as : Option Capability → Data
staged_as None = null
staged_as (Some capability) = capability_entry capability

-- a node's row
abbrev pub answered_entry : NodeRow → Data
answered_entry row =
    object (member (codes "id") (whole_number row.id) (member (codes "last") (number_entry row.last) (member (codes "published") (entries target_entry row.targets.items) (member (codes "staged") (staged_as row.staged) no_members))))

-- a node's record
abbrev pub node_entry : NodeParts → Data
node_entry kept =
    object (member (codes "node") (string kept.id) (member (codes "plugin") (string (codes "node")) (member (codes "session") (whole_number kept.session) (member (codes "volumes") (entries answered_entry kept.rows) no_members))))
