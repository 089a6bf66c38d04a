use Rattle.std.proofs.Common.{rules}
use Rattle.csi_streams.proofs.shown.ShownReplyDisplay.fmt.Goals as goal

pub returns-clause-writes : goal.returns-clause-writes
returns-clause-writes g c = search rules
