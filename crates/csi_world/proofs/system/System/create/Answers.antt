-- The request comes to the orchestrator.
use Rattle.std.proofs.Common.{◌≡◌, rules, sym, ap}
use Rattle.csi_orchestrator.specs.Model.Moves.{ToCreate, Sends}
use Rattle.csi_world.specs.Model.After.{orchestrated}
use Rattle.csi_world.specs.Public.System.{world_parts}
use Rattle.csi_world.proofs.SystemInputs.{input-becomes}
use Rattle.csi_world.proofs.system.System.create.Goals as goal

pub returns-in-Ok : goal.returns-in-Ok
returns-in-Ok c =
    let name : c.in_ok-name.name ≡ c.args.name.now = search rules in
    let capabilities : c.in-Ok.capabilities ≡ c.args.capabilities.now = search rules in
    input-becomes c.form_law.ensures Sends (world_parts c.args.self.now) c.create-answer.new.self c.settled.new.frames.items
    (ToCreate c.in_ok-name.name (record { required = c.args.required; limit = c.args.limit; capabilities = c.in-Ok.capabilities })) _ c.create-answer.result c.settled.result
    (λ world agrees. ap (orchestrated world) (λ i. ToCreate (sym name i) (record { required = c.args.required; limit = c.args.limit; capabilities = sym capabilities i })))
    c.create-answer.ensures.ok c.create-answer.ensures.err c.create-answer.ensures.stays c.settled.ensures
