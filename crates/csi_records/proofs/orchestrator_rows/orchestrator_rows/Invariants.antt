use Rattle.csi_records.proofs.KeyedRows.{ReadSoFar}
use Rattle.csi_records.proofs.orchestrator_rows.orchestrator_rows.Given as goal

-- the parts so far are rows under their places
abbrev pub invariant-loop-part : goal.invariant-loop-part
invariant-loop-part l = ReadSoFar l.version l.rows.items l.parts l.part-index
