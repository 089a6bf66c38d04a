use Rattle.std.proofs.Common.{◌≡◌, take}
use Rattle.csi_embedded.specs.Public.Recovering.{had_by}
use Rattle.csi_embedded.specs.Private.Recovering.{HaveRecords}
use Rattle.csi_embedded.proofs.recovering.node_records.Given as goal

-- the handles have what they had, and the first ones' records are there
abbrev pub invariant-loop-index : goal.invariant-loop-index
invariant-loop-index l = (had_by l.nodes ≡ had_by l.initial.nodes) × HaveRecords (take l.index (had_by l.initial.nodes)) l.given.items
