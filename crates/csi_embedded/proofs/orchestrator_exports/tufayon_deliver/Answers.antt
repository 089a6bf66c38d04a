use Rattle.std.proofs.Common.{◌≡◌, rules}
use Rattle.std.specs.Prelude.{Some}
use Rattle.csi_embedded.proofs.Asked.{empty-heard}
use Rattle.csi_embedded.proofs.HeardHandles.{handle-heard}
use Rattle.csi_embedded.proofs.orchestrator_exports.tufayon_deliver.Goals as goal

pub returns-in-Some : goal.returns-in-Some
returns-in-Some c =
    let was : Some c.deref_mut.result.now ≡ c.args.orchestrator.now.held.embedded = search rules in
    let is : c.of.result.held.embedded ≡ Some c.hear-ending.new.embedded = search rules in
    handle-heard c.args.came.now c.deref_mut.result.now c.hear-ending.new.embedded c.args.orchestrator.now.held.embedded c.of.result.held.embedded _ _ _ _ _ c.number.result c.hear-ending.result was is c.number.ensures c.hear-ending.ensures

pub returns-in-None : goal.returns-in-None
returns-in-None c =
    empty-heard c.args.came.now c.args.orchestrator.now.held.embedded c.take.new.self.held.embedded _ _ _ _ _ c.number-in-None.result c.in-None.ensures.taken c.in-None.ensures.left c.number-in-None.ensures
