-- The command comes to the orchestrator.
use Rattle.std.proofs.Common.{◌≡◌, rules, sym, ap}
use Rattle.csi_orchestrator.specs.Model.Moves.{ToUse, Sends}
use Rattle.csi_world.specs.Model.After.{orchestrated}
use Rattle.csi_world.specs.Public.System.{world_parts}
use Rattle.csi_world.proofs.SystemInputs.{input-becomes}
use Rattle.csi_world.proofs.system.System.use_at.Goals as goal

pub returns : goal.returns
returns c =
    let node : c.in_ok-node.node ≡ c.args.node.now = search rules in
    let target : c.in_ok-target.target ≡ c.args.target.now = search rules in
    let capability : c.in_ok-capability.capability ≡ c.args.capability.now = search rules in
    input-becomes c.form_law.ensures Sends (world_parts c.args.self.now) c.use_at-answer.new.self c.settled.new.frames.items
    (ToUse c.args.name.now (record { node = c.in_ok-node.node; target = c.in_ok-target.target; capability = c.in_ok-capability.capability; readonly = c.args.readonly })) _ c.use_at-answer.result
    c.settled.result
    (λ world agrees. ap (orchestrated world) (λ i. ToUse c.args.name.now (record { node = sym node i; target = sym target i; capability = sym capability i; readonly = c.args.readonly })))
    c.use_at-answer.ensures.ok c.use_at-answer.ensures.err c.use_at-answer.ensures.stays c.settled.ensures
