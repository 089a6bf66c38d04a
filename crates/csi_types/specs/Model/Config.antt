-- A controller's configuration. This profile's own: CSI leaves to a plugin what it can give and where it
-- can publish.
use Rattle.std.specs.Prelude.{ℕ, List, Bool}
use Rattle.std.specs.List.{list_any}
use Rattle.csi_types.specs.declared.config.NodeSlots.{NodeSlots}
use Rattle.csi_types.specs.Model.Same.{same_text}

-- the greatest capacity in bytes that a volume gets, and the nodes at which volumes can be published,
-- each with the most volumes that it takes
pub record Config : Type 0 where
  pub greatest : ℕ
  pub nodes : List NodeSlots

-- a node of this id is in the list
abbrev pub has_node : List ℕ → List NodeSlots → Bool
has_node id nodes = list_any (λ node. same_text id node.id) nodes
