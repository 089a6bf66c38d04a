-- A row that is made is the first of its volume.
use Rattle.std.proofs.Common.{◌≡◌, ◌∙◌, arith, rules, sym}
use Rattle.csi_types.specs.Public.Lent.{lent_call}
use Rattle.csi_node.specs.Model.OneRow.{node_row_shown}
use Rattle.csi_node.proofs.RowsTold.{is-made}
use Rattle.csi_node.proofs.table.NodeTableTable.absent.Goals as goal

pub returns-clause-told : goal.returns-clause-told
returns-clause-told c = λ rows many.
    let same : c.in_ok-reply.reply ≡ c.in_ok-row.row.reply = search rules in
    is-made c.args.self.now.id rows c.in-Some.id c.args.number (lent_call c.args.call.now) (node_row_shown c.in_ok-row.row) c.in_ok-reply.reply (omega (arith, many, c.if-count-ge-MAX_ROWS.false))
    (sym c.volume_of.ensures ∙ c.in-Some.is) c.requires.party c.in_ok-row.ensures same
