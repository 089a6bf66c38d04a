-- How many volumes are held at each configured node, as a table keeps it.
use Rattle.std.specs.Prelude.{ℕ, ◌+◌, ◌%◌, ◌^◌, List, Bool, nat_le, Option, Some, None, find, false, if◌then◌else◌, slice_index, slice_set}
use Rattle.csi_types.specs.declared.config.NodeSlots.{NodeSlots}
use Rattle.csi_types.specs.Model.Same.{same_text}
use Rattle.csi_controller.specs.Public.Counts.{place_of}

-- the count that stands at a place, 0 at none
abbrev pub count_at_place : Option ℕ → List ℕ → ℕ
count_at_place None counts = 0
count_at_place (Some place) counts = slice_index counts place

-- a node that is configured so takes no more than so many volumes
abbrev pub is_full_with : ℕ → Option NodeSlots → Bool
is_full_with count None = false
is_full_with count (Some entry) = nat_le entry.slots count

-- by these counts the node is configured, and takes no more volumes
abbrev pub is_node_full : List NodeSlots → List ℕ → List ℕ → Bool
is_node_full nodes counts node = is_full_with (count_at_place (place_of node nodes) counts) (find (λ (entry : NodeSlots). same_text entry.id node) nodes)

-- one more or one less at a place, as 64 bits count
abbrev pub count_after : Bool → ℕ → ℕ
count_after is count = if is then (count + 1) % 2 ^ 64 else (count + 18446744073709551615) % 2 ^ 64

-- the counts after that, where the place is known
abbrev pub counted_at : Option ℕ → Bool → List ℕ → List ℕ
counted_at None is counts = counts
counted_at (Some place) is counts = slice_set counts place (count_after is (slice_index counts place))

-- the counts after a volume came to be held at a node, or ceased to be, if one did
abbrev pub recounted : List NodeSlots → Option (List ℕ × Bool) → List ℕ → List ℕ
recounted nodes None counts = counts
recounted nodes (Some (node, is)) counts = counted_at (place_of node nodes) is counts
