use Rattle.std.proofs.Common.{rules}
use Rattle.csi_sqlite.proofs.sqlite_keep.refused.Goals as goal

pub returns-clause-counted : goal.returns-clause-counted
returns-clause-counted c = search rules
