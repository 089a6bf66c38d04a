use Rattle.std.proofs.Common.{◌∙◌, map, sym}
use Rattle.csi_types.specs.Public.Lent.{lent_call}
use Rattle.csi_node.specs.Model.OneRow.{node_row_shown}
use Rattle.csi_node.proofs.RowsTold.{none-at}
use Rattle.csi_node.proofs.table.NodeTableTable.find.Goals as goal

pub returns-in-None : goal.returns-in-None
returns-in-None c = none-at (lent_call c.args.call.now) (map node_row_shown c.args.rows.now) (sym c.volume_of.ensures ∙ c.in-None.is)
