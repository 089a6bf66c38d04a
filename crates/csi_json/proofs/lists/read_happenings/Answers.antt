-- Each item that is read goes on the list; the first that isn't ends the reading.
use Rattle.csi_json.specs.Public.Happenings.{happening_of}
use Rattle.csi_json.proofs.ReadLists.{goes_on}
use Rattle.csi_json.proofs.ReadHappenings.{faulty}
use Rattle.csi_json.proofs.lists.read_happenings.Goals as goal

pub returns-in-Err-clause-fault : goal.returns-in-Err-clause-fault
returns-in-Err-clause-fault c =
    rw c.fault_at.ensures
    (faulty c.args.items.now c.loop-index.index c.index-items-index.result c.loop-index.list.items c.push_happening.new.list.items c.in-Err.flaw c.loop-index-test.true c.index-items-index.is c.in-Err.ensures c.loop-index.invariant)

pub loop-index-preserved : goal.loop-index-preserved
loop-index-preserved c =
    goes_on happening_of c.args.items.now c.loop-index.index c.index-items-index.result c.loop-index.list.items c.push_happening.new.list.items c.loop-index-test.true c.index-items-index.is c.in_default.ensures c.loop-index.invariant
