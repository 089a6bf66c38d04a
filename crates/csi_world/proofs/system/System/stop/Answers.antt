-- The command comes to the orchestrator.
use Rattle.std.proofs.Common.{◌≡◌, rules, sym, ap}
use Rattle.csi_orchestrator.specs.Model.Moves.{ToStop, Sends}
use Rattle.csi_world.specs.Model.After.{orchestrated}
use Rattle.csi_world.specs.Public.System.{world_parts}
use Rattle.csi_world.proofs.SystemInputs.{input-becomes}
use Rattle.csi_world.proofs.system.System.stop.Goals as goal

pub returns : goal.returns
returns c =
    let node : c.in_ok-node.node ≡ c.args.node.now = search rules in
    let target : c.in_ok-target.target ≡ c.args.target.now = search rules in
    input-becomes c.form_law.ensures Sends (world_parts c.args.self.now) c.stop-answer.new.self c.settled.new.frames.items
    (ToStop c.args.name.now c.in_ok-node.node c.in_ok-target.target) _ c.stop-answer.result c.settled.result
    (λ world agrees. ap (orchestrated world) (λ i. ToStop c.args.name.now (sym node i) (sym target i)))
    c.stop-answer.ensures.ok c.stop-answer.ensures.err c.stop-answer.ensures.stays c.settled.ensures
