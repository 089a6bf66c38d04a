-- A controller's configuration. This profile's own: CSI leaves to a plugin what it can give and where it
-- can publish.
use Rattle.std.specs.Prelude.{ℕ, ◌==◌, List, [], ◌∷◌, length, Bool, false, ◌||◌, nat_lt, Option, Some, None, if◌then◌else◌}
use Rattle.std.specs.List.{list_any}
use Rattle.csi_types.specs.declared.capacity.TheConstants.{MAX_CAPACITY}
use Rattle.csi_types.specs.declared.config.NodeSlots.{NodeSlots}
use Rattle.csi_types.specs.declared.config.ConfigFault.{ConfigFault}
use Rattle.csi_types.specs.declared.config.ConfigFault.TheVariants.{BadGreatest, TooManyNodes, SameNode, BadSlots, NoMemory}
use Rattle.csi_types.specs.Model.Config.{has_node}

-- the greatest capacity is 0 or above 2^63 - 1
abbrev pub is_bad_greatest : ℕ → Bool
is_bad_greatest greatest = (greatest == 0) || nat_lt MAX_CAPACITY greatest

-- two nodes of the list have one id
abbrev pub has_same_node : List NodeSlots → Bool
has_same_node [] = false
has_same_node (node ∷ others) = has_node node.id others || has_same_node others

-- a node of the list has more than 4,096 slots
abbrev pub has_bad_slots : List NodeSlots → Bool
has_bad_slots nodes = list_any (λ node. nat_lt 4096 node.slots) nodes

-- the first fault of a configuration, if it has one
abbrev pub config_fault : ℕ → List NodeSlots → Option ConfigFault
config_fault greatest nodes =
    if is_bad_greatest greatest then Some BadGreatest
    else if nat_lt 64 (length nodes) then Some TooManyNodes
    else if has_same_node nodes then Some SameNode
    else if has_bad_slots nodes then Some BadSlots
    else None

-- the numbers of the faults
abbrev pub config_fault_number : ConfigFault → ℕ
config_fault_number BadGreatest = 1
config_fault_number TooManyNodes = 2
config_fault_number SameNode = 3
config_fault_number BadSlots = 4
config_fault_number NoMemory = 5
