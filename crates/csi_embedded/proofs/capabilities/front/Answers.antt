use Rattle.csi_embedded.proofs.SpelledCapabilities.{none-front}
use Rattle.csi_embedded.proofs.capabilities.front.Goals as goal

pub returns-in-Err-clause-none : goal.returns-in-Err-clause-none
returns-in-Err-clause-none c = none-front c.args.fields.now.bytes.now c.in-Err.field-0 c.in-Err.ensures
