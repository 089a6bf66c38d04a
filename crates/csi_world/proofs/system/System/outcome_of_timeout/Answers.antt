-- It comes to the orchestrator.
use Rattle.std.proofs.Common.{refl}
use Rattle.csi_orchestrator.specs.Model.Moves.{TimesOut, Sends}
use Rattle.csi_world.specs.Public.System.{world_parts}
use Rattle.csi_world.proofs.SystemInputs.{input-becomes}
use Rattle.csi_world.proofs.system.System.outcome_of_timeout.Goals as goal

pub returns-clause-does : goal.returns-clause-does
returns-clause-does c =
    input-becomes c.form_law.ensures Sends (world_parts c.args.self.now) c.timeout.new.self c.settled.new.frames.items (TimesOut c.args.name.now) _ c.timeout.result c.settled.result
    (λ world agrees. refl) c.timeout.ensures.ok c.timeout.ensures.err c.timeout.ensures.stays c.settled.ensures
