use Rattle.std.proofs.Common.{◌∙◌, List, ap, sym}
use Rattle.csi_node.specs.declared.row.NodeTarget.{NodeTarget}
use Rattle.csi_node.specs.Model.OneRow.{node_row_shown}
use Rattle.csi_node.specs.Public.OneRow.{target_among}
use Rattle.csi_node.specs.Private.OneRow.{unpublish_by_row}
use Rattle.csi_node.specs.Public.Plan.{told_in}
use Rattle.csi_node.proofs.OneRow.{unpublish-row}
use Rattle.csi_node.proofs.row_table.unpublish_line.Goals as goal

pub returns-in-None : goal.returns-in-None
returns-in-None c =
    ap told_in
    (sym (unpublish-row (node_row_shown c.args.row.now) c.args.target.now c.requires.rules.targets.unstaged
    ∙ ap (unpublish_by_row c.args.row.now.id c.args.target.now) (ap (λ (targets : List NodeTarget). target_among targets c.args.target.now) (sym c.as_slice.ensures.value) ∙ sym c.in-None.ensures)))

pub returns-in-Some : goal.returns-in-Some
returns-in-Some c =
    ap told_in
    (sym (unpublish-row (node_row_shown c.args.row.now) c.args.target.now c.requires.rules.targets.unstaged
    ∙ ap (unpublish_by_row c.args.row.now.id c.args.target.now) (ap (λ (targets : List NodeTarget). target_among targets c.args.target.now) (sym c.as_slice.ensures.value) ∙ sym c.in-Some.ensures)))
