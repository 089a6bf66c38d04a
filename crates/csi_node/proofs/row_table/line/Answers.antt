use Rattle.std.proofs.Common.{◌≡◌, ◌∙◌, ap, sym}
use Rattle.csi_node.specs.Model.OneRow.{node_row_shown}
use Rattle.csi_node.specs.Model.Table.{unstage}
use Rattle.csi_node.specs.Public.Plan.{told_in}
use Rattle.csi_node.proofs.OneRow.{published_of-alone}
use Rattle.csi_node.proofs.row_table.line.Goals as goal

pub returns-in-NodeUnstageVolume : goal.returns-in-NodeUnstageVolume
returns-in-NodeUnstageVolume c =
    let volume = rw c.in-NodeUnstageVolume.is at c.requires.volume in
    let id : c.in-NodeUnstageVolume.id.number ≡ c.args.row.now.id = cc in
    rw (c.in-NodeUnstageVolume.is, id) (c.unstage_line.ensures ∙ ap told_in (ap (unstage c.args.row.now.id) (sym (published_of-alone (node_row_shown c.args.row.now)))))
