use Rattle.std.proofs.Common.{suc, ◌+◌, length, map, arith}
use Rattle.std.proofs.lemmas.List.{length-map}
use Rattle.csi_orchestrator.specs.Public.Shown.{row_shown}
use Rattle.csi_stores.specs.Public.Part.{stored_in}
use Rattle.csi_records.specs.Public.OrchestratorSpelling.{orchestrator_part}
use Rattle.csi_records.specs.Private.Stopping.{IsRowUnder}
use Rattle.csi_records.proofs.KeyedRows.{keyed_rows, one_more_read}
use Rattle.csi_records.proofs.Layouts.{stops-here}
use Rattle.csi_records.proofs.orchestrator_rows.orchestrator_rows.Goals as goal

pub loop-part-preserved : goal.loop-part-preserved
loop-part-preserved c =
    rw c.in_ok-push-in-Ok.ensures.items (one_more_read c.args.version c.loop-part.rows.items c.in-Ok.row c.args.parts.now c.loop-part.part-index c.part-item.result (c.len.result + 1) c.loop-part-test.true c.part-item.is
    (omega (arith, c.len.ensures)) c.loop-part.invariant c.in-Ok.ensures.row.0 c.in-Ok.ensures.row.1)

pub returns-in-Err-Bad : goal.returns-in-Err-Bad
returns-in-Err-Bad c =
    let rows = c.loop-part.rows.items in
    record {
      fit = c.loop-part.invariant.fit;
      stops =
          stops-here (orchestrator_part c.args.version) (IsRowUnder c.args.version (suc (length (map row_shown rows)))) stored_in c.args.parts.now c.loop-part.part-index c.part-item.result (keyed_rows rows)
          c.loop-part-test.true c.part-item.is c.loop-part.invariant.are
          (λ keyed under same. c.in-Err-Bad.ensures.bad (cc) keyed (record { under = omega (arith, under.under, length-map rows row_shown, c.len.ensures); is = under.is }) same);
    }
