-- How many volumes are held at each configured node, as a table keeps it.
use Rattle.std.specs.Prelude.{◌≡◌, ℕ, ◌≤◌, List, length, Bool, Option, Some, position, count_by, false, slice_index}
use Rattle.std.specs.List.{list_any}
use Rattle.csi_types.specs.declared.config.NodeSlots.{NodeSlots}
use Rattle.csi_types.specs.Model.Same.{same_text}
use Rattle.csi_types.specs.Public.Config.{has_same_node}
use Rattle.csi_controller.specs.declared.row.NodeHolding.{NodeHolding}
use Rattle.csi_controller.specs.Public.OneRow.{RowShown}

-- the volume of the row is held at the node
abbrev pub is_held : List ℕ → RowShown → Bool
is_held node row = list_any (λ (held : NodeHolding). same_text held.node node) row.items

-- how many are
abbrev pub count_held : List ℕ → List RowShown → ℕ
count_held node rows = count_by (is_held node) rows

-- where the node is configured
abbrev pub place_of : List ℕ → List NodeSlots → Option ℕ
place_of node nodes = position (λ (entry : NodeSlots). same_text entry.id node) nodes

-- each configured node has its count, at its place
pub record AreCounted (nodes : List NodeSlots) (rows : List RowShown) (counts : List ℕ) : Type 0 where
  pub few : length nodes ≤ 64
  pub distinct : has_same_node nodes ≡ false
  pub fits : length nodes ≤ length counts
  pub each : (node : List ℕ) (place : ℕ) → place_of node nodes ≡ Some place → slice_index counts place ≡ count_held node rows
