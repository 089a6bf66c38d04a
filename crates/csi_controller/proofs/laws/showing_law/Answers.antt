-- By the rules of the rows.
use Rattle.std.proofs.Common.{arith}
use Rattle.csi_controller.proofs.ShowingLaw.{shows-a_state}
use Rattle.csi_controller.proofs.laws.showing_law.Goals as goal

pub returns : goal.returns
returns c = shows-a_state c.args.controller.now c.sound_law.ensures (omega arith)
