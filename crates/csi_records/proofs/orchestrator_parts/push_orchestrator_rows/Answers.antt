use Rattle.std.proofs.Common.{◌+◌, arith}
use Rattle.csi_orchestrator.specs.Public.Shown.{row_shown}
use Rattle.csi_records.specs.Public.Spelling.{present}
use Rattle.csi_records.specs.Public.OrchestratorRows.{IsOrchestratorRow}
use Rattle.csi_records.proofs.KeyedRows.{one_more_keyed}
use Rattle.csi_records.proofs.WritingPieces.{one_more_fit}
use Rattle.csi_records.proofs.orchestrator_parts.push_orchestrator_rows.Goals as goal

pub loop-index-preserved : goal.loop-index-preserved
loop-index-preserved c =
    record {
      so_far = one_more_keyed c.args.rows.now c.loop-index.index c.index-rows-index.result (c.loop-index.index + 1) _ _ _ (omega arith) c.index-rows-index.is (omega arith) c.loop-index.invariant.so_far c.in_ok-push_orchestrator_row.ensures.pushed;
      each = one_more_fit row_shown (IsOrchestratorRow present) c.args.rows.now c.loop-index.index c.index-rows-index.result (omega arith) c.index-rows-index.is c.loop-index.invariant.each c.in_ok-push_orchestrator_row.ensures.fits;
    }
