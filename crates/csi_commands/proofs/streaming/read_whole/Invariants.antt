-- What was read is there, and the reader hasn't failed.
use Rattle.std.proofs.Common.{◌≡◌, ◌-◌, ◌^◌, length}
use Rattle.csi_commands.specs.Private.Streaming.{HasRead}
use Rattle.csi_commands.proofs.streaming.read_whole.Given as goal

abbrev pub invariant-pieces : goal.invariant-pieces
invariant-pieces g l = HasRead (g.R.Read.remaining l.fn.input.inner) (g.R.Read.remaining l.input.inner) l.fn.bytes.items l.bytes.items × (l.input.faults ≡ l.fn.input.faults)

abbrev pub decreases-pieces : goal.decreases-pieces
decreases-pieces g l = 2 ^ 64 - length l.bytes.items
