-- The nodes that an orchestrator is asked for: those of a configuration. This profile's own.
use Rattle.std.specs.Prelude.{◌≡◌, ℕ, List, map, Ok}
use Rattle.std.specs.Str.{IsUtf8}
use Rattle.csi_types.specs.declared.config.NodeSlots.{NodeSlots}
use Rattle.csi_types.specs.Model.Config.{Config}
use Rattle.csi_json.specs.Public.Configs.{text_config}
use Rattle.csi_streams.specs.declared.ending.Ending.{Ending}
use Rattle.csi_streams.specs.declared.ending.Ending.TheVariants.{NotUtf8, ConfigRefused, Memory}

-- the ids of a configuration's nodes, in order
abbrev pub node_ids : List NodeSlots → List (List ℕ)
node_ids nodes = map (λ node. node.id) nodes

-- the text says a configuration, and these are its nodes' ids
abbrev pub AreNodesOfConfig : List ℕ → List (List ℕ) → Type 0
AreNodesOfConfig text ids = (config : Config) × (text_config text ≡ Ok config) × (ids ≡ node_ids config.nodes)

-- Why there are none: the bytes are no UTF-8, or a text that says no configuration; or memory ran out.
abbrev pub HasNoNodes : List ℕ → Ending → Type 0
HasNoNodes text NotUtf8 = IsUtf8 text → ⊥
HasNoNodes text ConfigRefused = IsUtf8 text × ((config : Config) → text_config text ≡ Ok config → ⊥)
HasNoNodes text Memory = Unit {0}
HasNoNodes text _ = ⊥
