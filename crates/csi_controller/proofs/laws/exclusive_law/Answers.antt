-- By the rules of each row.
use Rattle.csi_types.proofs.Each.{each-weaker}
use Rattle.csi_controller.specs.Public.Core.{IsSoundRow}
use Rattle.csi_controller.specs.Public.Exclusive.{IsRowExclusive}
use Rattle.csi_controller.proofs.Exclusive.{row-exclusive}
use Rattle.csi_controller.proofs.laws.exclusive_law.Goals as goal

pub returns : goal.returns
returns c =
    let parts = c.args.controller.now in
    each-weaker (IsSoundRow parts.next_id) IsRowExclusive parts.rows (row-exclusive parts.next_id) c.sound_law.ensures.each
