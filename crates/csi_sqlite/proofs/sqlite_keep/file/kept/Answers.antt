-- What SQLite answered to the statement that makes the table, over the database as it is let go.
use Rattle.std.proofs.Common.{inr}
use Rattle.csi_sqlite.proofs.sqlite_keep.file.kept.Goals as goal

pub returns-in-Err-clause-told : goal.returns-in-Err-clause-told
returns-in-Err-clause-told g c = inr (record { after = c.in-Err._connection; told = c.in-Err.ensures.device })
