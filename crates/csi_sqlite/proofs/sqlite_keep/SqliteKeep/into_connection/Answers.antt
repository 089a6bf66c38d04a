use Rattle.std.proofs.Common.{rules}
use Rattle.csi_sqlite.proofs.sqlite_keep.SqliteKeep.into_connection.Goals as goal

pub returns : goal.returns
returns c = search rules
