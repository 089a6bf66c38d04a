-- The frame comes to the orchestrator.
use Rattle.csi_world.proofs.Words.{refl, Comes, Hears}
use Rattle.csi_world.specs.Public.System.{world_parts}
use Rattle.csi_world.proofs.SystemInputs.{input-becomes}
use Rattle.csi_world.proofs.system.System.hear.Goals as goal

pub returns-clause-does : goal.returns-clause-does
returns-clause-does c =
    input-becomes c.form_law.ensures Hears (world_parts c.args.self.now) c.deliver.new.self c.settled_reply.new.frames.items (Comes c.args.frame.now) _ c.deliver.result c.settled_reply.result
    (λ world agrees. refl) c.deliver.ensures.ok c.deliver.ensures.err c.deliver.ensures.stays c.settled_reply.ensures
