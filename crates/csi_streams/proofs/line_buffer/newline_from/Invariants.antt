use Rattle.std.proofs.Common.{◌≢◌, ◌<◌, ◌≤◌, ℕ, slice_index}
use Rattle.csi_streams.proofs.line_buffer.newline_from.Given as goal

-- no newline stands in front of the place
abbrev pub invariant-loop-at : goal.invariant-loop-at
invariant-loop-at l = (k : ℕ) → l.from ≤ k → k < l.at → slice_index l.bytes k ≢ 10
