use Rattle.csi_sqlite.proofs.sqlite_keep.file.SqliteKeep+FileStore+D.close.Goals as goal

pub returns-in-Err-clause-told : goal.returns-in-Err-clause-told
returns-in-Err-clause-told g c = (c.in-Err._store, c.in-Err.ensures.told)
