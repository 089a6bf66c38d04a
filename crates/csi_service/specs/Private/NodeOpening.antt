-- What is made of the parts of a node's store before it is changed. This profile's own.
use Rattle.std.specs.Prelude.{◌≡◌, ℕ, List, []}
use Rattle.csi_node.specs.Model.Record.{parts}
use Rattle.csi_stores.specs.Public.Part.{StoredPart}
use Rattle.csi_records.specs.Public.Spelling.{present}
use Rattle.csi_service.specs.declared.node_opening.NodeMade.{NodeMade}
use Rattle.csi_service.specs.declared.node_opening.NodeMade.TheVariants.{Opened, EarlierSession}
use Rattle.csi_service.specs.Public.NodeOpening.{joined_head, IsOfEarlierSession}
use Rattle.csi_service.specs.Public.Opening.{node_records, OpensTo, plugin_rules}
use Rattle.csi_service.specs.Public.Plugins.{IsFrom}
use Rattle.csi_service.specs.Public.Services.{node_service_parts, node_service_changes, AreFitNodeRows}
use Rattle.csi_service.specs.Public.StoreOpening.{Opening}

-- a node, or why there is none, of the parts that were found
abbrev pub IsNodeMade : List ℕ → ℕ → List StoredPart → NodeMade → Type 0
IsNodeMade id session found (Opened service) = OpensTo (node_records id) (joined_head id session) found (node_service_parts service)
IsNodeMade id session found EarlierSession = IsOfEarlierSession id session found

-- the parts of the node are its record
abbrev pub IsMadeRecord : List ℕ → NodeMade → Type 0
IsMadeRecord id (Opened service) = (node_records id).are present (node_service_parts service)
IsMadeRecord id EarlierSession = Unit {0}

-- the node's parts are left; without one, those that were found
abbrev pub left_by : List StoredPart → NodeMade → List StoredPart
left_by found (Opened service) = node_service_parts service
left_by found EarlierSession = found

-- what opening a node's store gives
abbrev pub node_opening : List ℕ → ℕ → Opening NodeMade
node_opening id session =
    record { rules = plugin_rules (node_records id) (joined_head id session); makes = IsNodeMade id session; is = IsMadeRecord id; leaves = left_by }

-- the node is the one that was asked for, and heard of the session of its joining or of a later one; all in it is within its limits, and nothing is
-- to be told of it
abbrev pub IsNewlyMade : List ℕ → ℕ → NodeMade → Type 0
IsNewlyMade id session (Opened service) =
    (node_service_changes service ≡ []) × (service.plugin.id ≡ id) × IsFrom session service.plugin.session × AreFitNodeRows (parts service.plugin.rows)
IsNewlyMade id session EarlierSession = Unit {0}
