use Rattle.std.proofs.Common.{rules}
use Rattle.csi_embedded.specs.Public.Making.{IsNewNode, EndsDone, IsNoId}
use Rattle.csi_embedded.proofs.Handles.{full-made, put-made}
use Rattle.csi_embedded.proofs.exports.tufayon_node_new.Goals as goal

pub returns-then-is_full : goal.returns-then-is_full
returns-then-is_full c = full-made (λ made ending. IsNewNode c.args.id.now 0 made × EndsDone ending) (IsNoId c.args.id.now) c.args.plugin.now.held.embedded c.number.result (search rules) c.number.ensures

pub returns : goal.returns
returns c = put-made (λ made ending. IsNewNode c.args.id.now 0 made × EndsDone ending) (IsNoId c.args.id.now) c.args.plugin.now.held.embedded c.put.new.plugin.held.embedded c.put.result c.new_node.result (search rules) c.new_node.ensures.made c.new_node.ensures.refused tt c.put.ensures
