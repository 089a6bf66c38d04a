use Rattle.std.proofs.Common.{rules}
use Rattle.csi_streams.proofs.answers.append.Goals as goal

pub returns-clause-ok : goal.returns-clause-ok
returns-clause-ok c = search rules
