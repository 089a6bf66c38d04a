-- The last commit is what the connection shows, and so what the files have.
use Rattle.sqlite.specs.Files.{file_state}
use Rattle.csi_sqlite.proofs.Closed.{stored_in}
use Rattle.csi_sqlite.proofs.sqlite_keep.file.SqliteKeep+FileStore+D.close_files.Goals as goal

pub returns-in-Ok-clause-whole : goal.returns-in-Ok-clause-whole
returns-in-Ok-clause-whole g c clean content holds =
    let copied = c.in-Ok.ensures.copied clean in
    let parts = stored_in (file_state c.args.self.connection) content holds in
    record {
      seen = record { db = _; parts = parts; holds = copied.seen };
      left = λ image may. record { db = _; parts = parts; holds = copied.left image may };
    }

pub returns-in-Err-clause-left : goal.returns-in-Err-clause-left
returns-in-Err-clause-left g c db may = c.in-Err.ensures.err.0.quiet.outcomes db may

pub returns-in-Err-2-clause-left : goal.returns-in-Err-2-clause-left
returns-in-Err-2-clause-left g c db may = c.in-Err.ensures.err.0.quiet.outcomes db may

pub returns-in-Err-2-clause-told : goal.returns-in-Err-2-clause-told
returns-in-Err-2-clause-told g c clean = (
  c.in-Err.error,
  λ memory. let told = c.is_memory.ensures.1 memory in absurd (let no = c.if-is_memory.false in cc),
  c.in-Err.ensures.err.1 clean,
)
