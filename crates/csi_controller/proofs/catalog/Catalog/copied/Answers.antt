-- Copies of a record's rows are a record's.
use Rattle.csi_controller.proofs.Copies.{sound-copies}
use Rattle.csi_controller.proofs.catalog.Catalog.copied.Goals as goal

pub of_rows-requires : goal.of_rows-requires
of_rows-requires c = sound-copies c.args.next_id c.args.rows.now c.in_ok-copies.copies.items c.in_ok-copies.ensures c.requires
