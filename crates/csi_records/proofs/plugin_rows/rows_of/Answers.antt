use Rattle.csi_stores.specs.Public.Part.{stored_in}
use Rattle.csi_records.proofs.Layouts.{stops-here}
use Rattle.csi_records.proofs.plugin_rows.rows_of.Goals as goal

pub returns-in-Err-Bad : goal.returns-in-Err-Bad
returns-in-Err-Bad g c =
    record {
      fit = c.loop-part.invariant.fit;
      stops =
          stops-here (g.T.Row.row_part c.args.version) (g.T.Row.is_row c.args.version) stored_in c.args.parts.now c.loop-part.part-index c.part-item.result _ c.loop-part-test.true c.part-item.is c.loop-part.invariant.are
          (λ row fits same. c.in-Err-Bad.ensures.bad (cc) row fits same);
    }
