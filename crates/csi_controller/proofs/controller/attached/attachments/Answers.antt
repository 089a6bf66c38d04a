-- One more row.
use Rattle.std.proofs.Common.{◌≡◌, ◌<◌, ◌++◌, List, get_or, length, ◌∙◌, ap, arith}
use Rattle.csi_controller.specs.Model.Shown.{holdings_in_row}
use Rattle.csi_types.specs.declared.holding.Holding.{Holding}
use Rattle.csi_controller.proofs.Attached.{one_more_row}
use Rattle.csi_controller.proofs.controller.attached.attachments.Goals as goal

pub loop-row-preserved : goal.loop-row-preserved
loop-row-preserved c =
    let rows = c.args.rows.now in
    let row = c.row-item.result in
    let inside : c.loop-row.row-index < length rows = omega arith in
    let is : row ≡ get_or rows c.loop-row.row-index row = c.row-item.is in
    c.in_ok-add_holdings.ensures ∙ ap (λ (all : List Holding). all ++ holdings_in_row row) c.loop-row.invariant ∙ one_more_row rows c.loop-row.row-index row inside is
