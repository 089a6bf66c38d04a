-- The restart comes to the orchestrator.
use Rattle.std.proofs.Common.{refl}
use Rattle.csi_orchestrator.specs.Model.Moves.{Restarts, Restarted}
use Rattle.csi_world.specs.Public.System.{world_parts}
use Rattle.csi_world.proofs.SystemInputs.{input-becomes}
use Rattle.csi_world.proofs.system.System.begin_session.Goals as goal

pub returns : goal.returns
returns c =
    input-becomes c.form_law.ensures (λ done. Restarted) (world_parts c.args.self.now) c.restart.new.self c.args.self.now.frames.items
    (Restarts c.args.nodes.items) _ c.restart.result c.settled_restart.result
    (λ world agrees. refl) c.restart.ensures.ok c.restart.ensures.err c.restart.ensures.stays (c.settled_restart.ensures c.args.self.now.frames.items)
