use Rattle.std.proofs.Common.{rules}
use Rattle.csi_embedded.specs.Public.Making.{EndsDone}
use Rattle.csi_embedded.specs.Public.Recovering.{had_by, IsRecovered, IsNotRecovered}
use Rattle.csi_embedded.proofs.Handles.{full-made, put-made}
use Rattle.csi_embedded.proofs.recovery_exports.tufayon_orchestrator_recovered.Goals as goal

pub returns-then-is_full-clause-made : goal.returns-then-is_full-clause-made
returns-then-is_full-clause-made c =
    full-made (λ made ending. IsRecovered c.args.config.now c.args.session c.args.controller.now.held.embedded (had_by c.args.nodes.now) made × EndsDone ending)
    (IsNotRecovered c.args.config.now c.args.session c.args.controller.now.held.embedded (had_by c.args.nodes.now) c.args.place.now) c.args.orchestrator.now.held.embedded c.number.result (search rules) c.number.ensures

pub returns-clause-made : goal.returns-clause-made
returns-clause-made c =
    put-made (λ made ending. IsRecovered c.args.config.now c.args.session c.args.controller.now.held.embedded (had_by c.args.nodes.now) made × EndsDone ending)
    (IsNotRecovered c.args.config.now c.args.session c.args.controller.now.held.embedded (had_by c.args.nodes.now) c.recovered_orchestrator-made.new.place) c.args.orchestrator.now.held.embedded c.put.new.plugin.held.embedded c.put.result
    c.recovered_orchestrator-made.result (search rules) c.recovered_orchestrator-made.ensures.made c.recovered_orchestrator-made.ensures.refused tt c.put.ensures
