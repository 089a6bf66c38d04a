use Rattle.std.proofs.Common.{rules}
use Rattle.csi_controller.proofs.controller.Controller.new.Goals as goal

pub returns-clause-empty : goal.returns-clause-empty
returns-clause-empty c = search rules
