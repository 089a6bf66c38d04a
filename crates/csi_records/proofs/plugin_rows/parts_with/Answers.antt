use Rattle.csi_records.specs.Public.Spelling.{present}
use Rattle.csi_records.proofs.WritingPieces.{one_more_put, one_more_fit}
use Rattle.csi_records.proofs.plugin_rows.parts_with.Goals as goal

pub loop-row-preserved : goal.loop-row-preserved
loop-row-preserved g c =
    record {
      so_far = one_more_put g.T.Row.shown (g.T.Row.row_part present) c.args.rows.now c.loop-row.row-index c.row-item.result _ _ _ c.loop-row-test.true c.row-item.is c.loop-row.invariant.so_far c.in_ok-push.ensures.pushed;
      each = one_more_fit g.T.Row.shown (g.T.Row.is_row present) c.args.rows.now c.loop-row.row-index c.row-item.result c.loop-row-test.true c.row-item.is c.loop-row.invariant.each c.in_ok-push.ensures.fits;
    }
