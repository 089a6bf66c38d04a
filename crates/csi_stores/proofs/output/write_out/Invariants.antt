use Rattle.std.proofs.Common.{◌≡◌, ◌≤◌, ◌++◌, List, ℕ, length}
use Rattle.std.specs.Io.KnownBytes.{Appends}
use Rattle.csi_stores.proofs.output.write_out.Given as goal

-- a front was written, and the rest is still to come
abbrev pub invariant-loop-rest : goal.invariant-loop-rest
invariant-loop-rest g l = record {
  front : List ℕ;
  parts : l.fn.bytes ≡ front ++ l.rest;
  appended : Appends (g.W.Write.contents l.fn.writer.inner) (g.W.Write.contents l.writer.inner) front;
  faults : l.fn.writer.faults ≤ l.writer.faults;
  quiet : l.writer.faults ≡ l.fn.writer.faults;
}

-- what is still to come
abbrev pub decreases-loop-rest : goal.decreases-loop-rest
decreases-loop-rest g l = length l.rest
