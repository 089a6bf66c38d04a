use Rattle.std.proofs.Common.{rules}
use Rattle.csi_embedded.specs.Public.Making.{IsReadNode, IsNoReadNode}
use Rattle.csi_embedded.proofs.Handles.{full-made, put-made}
use Rattle.csi_embedded.proofs.exports.tufayon_node_from_record.Goals as goal

pub returns-then-is_full : goal.returns-then-is_full
returns-then-is_full c = full-made (IsReadNode c.args.id.now 0 c.args.bytes.now) (IsNoReadNode c.args.id.now 0 c.args.bytes.now) c.args.plugin.now.held.embedded c.number.result (search rules) c.number.ensures

pub returns : goal.returns
returns c = put-made (IsReadNode c.args.id.now 0 c.args.bytes.now) (IsNoReadNode c.args.id.now 0 c.args.bytes.now) c.args.plugin.now.held.embedded c.put.new.plugin.held.embedded c.put.result c.read_node.result (search rules) c.read_node.ensures.made c.read_node.ensures.refused tt c.put.ensures
