-- Each item that is read goes on the list; the first that isn't ends the reading.
use Rattle.std.proofs.Common.{Vec, Global}
use Rattle.csi_types.specs.declared.config.NodeSlots.{NodeSlots}
use Rattle.std.proofs.lemmas.Result.{err_from_is_err_and}
use Rattle.csi_json.specs.Public.Configs.{node_slots_of}
use Rattle.csi_json.proofs.ReadLists.{goes_on, refuses, wants}
use Rattle.csi_json.proofs.lists.read_nodes.Goals as goal

pub returns-in_err-push_node-clause-read : goal.returns-in_err-push_node-clause-read
returns-in_err-push_node-clause-read c =
    let p = err_from_is_err_and c.from_residual.result c.from_residual.ensures.1 in
    rw (p.1, p.2)
    (refuses {B = Vec NodeSlots Global} (λ list. list.items) node_slots_of c.args.items.now c.loop-item.item-index c.item-item.result c.loop-item.list.items c.push_node.new.list.items c.in_err-push_node.field-0.0 c.loop-item-test.true c.item-item.is c.in_err-push_node.ensures c.loop-item.invariant)

pub returns-in_err-push_node-clause-memory : goal.returns-in_err-push_node-clause-memory
returns-in_err-push_node-clause-memory c = wants c.from_residual.result c.args.items.now c.loop-item.item-index c.loop-item-test.true

pub loop-item-preserved : goal.loop-item-preserved
loop-item-preserved c =
    goes_on node_slots_of c.args.items.now c.loop-item.item-index c.item-item.result c.loop-item.list.items c.push_node.new.list.items c.loop-item-test.true c.item-item.is c.in_ok-push_node.ensures c.loop-item.invariant
