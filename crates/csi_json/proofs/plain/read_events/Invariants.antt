-- The items before those that are left were read as these events.
use Rattle.std.proofs.Common.{length}
use Rattle.csi_json.proofs.EventTokens.{ReadSoFar}
use Rattle.csi_json.proofs.plain.read_events.Given as goal

abbrev pub invariant-loop-alloc : goal.invariant-loop-alloc
invariant-loop-alloc l = ReadSoFar l.initial.reader l.reader l.list.items

abbrev pub decreases-loop-alloc : goal.decreases-loop-alloc
decreases-loop-alloc l = length l.reader
