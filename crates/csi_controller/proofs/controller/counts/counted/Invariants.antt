-- The first nodes have their counts.
use Rattle.std.proofs.Common.{◌≡◌, ◌<◌, ℕ, List, length, slice_index}
use Rattle.std.specs.Prelude.{Some}
use Rattle.std.specs.Prelude.{map}
use Rattle.csi_controller.specs.Public.Counts.{place_of, count_held}
use Rattle.csi_controller.specs.Public.OneRow.{row_shown}
use Rattle.csi_controller.proofs.controller.counts.counted.Given as goal

abbrev pub invariant-loop-place : goal.invariant-loop-place
invariant-loop-place l = (length l.counts ≡ 64) × ((node : List ℕ) (place : ℕ) → place_of node l.nodes ≡ Some place → place < l.place → slice_index l.counts place ≡ count_held node (map row_shown l.rows))
