-- The command comes to the orchestrator.
use Rattle.std.proofs.Common.{refl}
use Rattle.csi_orchestrator.specs.Model.Moves.{ToDelete, Sends}
use Rattle.csi_world.specs.Public.System.{world_parts}
use Rattle.csi_world.proofs.SystemInputs.{input-becomes}
use Rattle.csi_world.proofs.system.System.delete.Goals as goal

pub returns : goal.returns
returns c =
    input-becomes c.form_law.ensures Sends (world_parts c.args.self.now) c.delete.new.self c.settled.new.frames.items (ToDelete c.args.name.now) _ c.delete.result c.settled.result
    (λ world agrees. refl) c.delete.ensures.ok c.delete.ensures.err c.delete.ensures.stays c.settled.ensures
