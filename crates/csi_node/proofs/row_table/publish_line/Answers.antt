use Rattle.std.proofs.Common.{◌∙◌, ap, sym}
use Rattle.csi_types.specs.Public.Lent.{lent_capability}
use Rattle.csi_node.specs.Model.OneRow.{node_row_shown}
use Rattle.csi_node.specs.Public.Plan.{told_in}
use Rattle.csi_node.proofs.OneRow.{publish-row}
use Rattle.csi_node.proofs.row_table.publish_line.Goals as goal

pub returns-in-Some : goal.returns-in-Some
returns-in-Some c =
    c.publish_staged_line.ensures
    ∙ ap told_in (sym (publish-row (node_row_shown c.args.row.now) c.in-Some.staged c.args.target.now (lent_capability c.args.capability.now) c.args.readonly c.in-Some.is (sym c.is_absolute.ensures ∙ c.if-not-is_absolute.false)))
