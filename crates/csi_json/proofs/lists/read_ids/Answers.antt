-- Each item that is read goes on the list; the first that isn't ends the reading.
use Rattle.std.proofs.Common.{ℕ, List, Vec, Global}
use Rattle.csi_json.specs.Public.Json.{node_id_of}
use Rattle.std.proofs.lemmas.Result.{err_from_is_err_and}
use Rattle.csi_json.proofs.ReadLists.{goes_on, refuses}
use Rattle.csi_json.proofs.lists.read_ids.Goals as goal

pub returns-in_err-push_id : goal.returns-in_err-push_id
returns-in_err-push_id c =
    let p = err_from_is_err_and c.from_residual.result c.from_residual.ensures.1 in
    rw (p.1, p.2)
    (refuses {B = Vec (List ℕ) Global} (λ list. list.items) node_id_of c.args.items.now c.loop-item.item-index c.item-item.result c.loop-item.list.items c.push_id.new.list.items c.in_err-push_id.field-0.0 c.loop-item-test.true c.item-item.is c.in_err-push_id.ensures c.loop-item.invariant)

pub loop-item-preserved : goal.loop-item-preserved
loop-item-preserved c =
    goes_on node_id_of c.args.items.now c.loop-item.item-index c.item-item.result c.loop-item.list.items c.push_id.new.list.items c.loop-item-test.true c.item-item.is c.in_ok-push_id.ensures c.loop-item.invariant
