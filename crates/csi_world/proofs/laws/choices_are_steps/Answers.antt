-- The choice is the step's.
use Rattle.std.proofs.Common.{refl}
use Rattle.csi_world.proofs.laws.choices_are_steps.Goals as goal

pub returns : goal.returns
returns c world choice may = record { choice = choice; may = may; becomes = refl }
