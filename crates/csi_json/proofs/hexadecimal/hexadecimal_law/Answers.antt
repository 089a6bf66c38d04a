-- Both ways, text by text.
use Rattle.csi_json.proofs.HexTexts.{read-again, read-only}
use Rattle.csi_json.proofs.hexadecimal.hexadecimal_law.Goals as goal

pub returns-clause-again : goal.returns-clause-again
returns-clause-again c = read-again

pub returns-clause-only : goal.returns-clause-only
returns-clause-only c = read-only
