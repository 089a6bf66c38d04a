use Rattle.std.proofs.Common.{sym, subst}
use Rattle.std.proofs.lemmas.Result.{on_ok_weaker}
use Rattle.csi_types.specs.Public.Lent.{lent_call}
use Rattle.csi_node.specs.Model.OneRow.{node_row_shown}
use Rattle.csi_node.specs.Public.OneRow.{IsSoundRow}
use Rattle.csi_node.proofs.RowsTold.{sound-changed, volume-from}
use Rattle.csi_node.proofs.table.NodeTableTable.change.Goals as goal

pub returns-clause-sound : goal.returns-clause-sound
returns-clause-sound c =
    let row = node_row_shown c.args.row.now in
    let call = lent_call c.args.call.now in
    on_ok_weaker c.change.result
    (λ is. subst IsSoundRow (sym is) (sound-changed row call c.requires.sound (volume-from call row.id c.requires.own) c.requires.done.2)) c.change.ensures.ok
