-- Whichever call of session 2 came.
use Rattle.csi_node.proofs.ForgottenRows.{forgotten_row}
use Rattle.csi_node.proofs.worked.forgotten.Goals as goal

pub returns : goal.returns
returns c = forgotten_row
