-- The connection is what SQLite found in the files, or it refused them.
use Rattle.std.proofs.Common.{inl, inr, refl}
use Rattle.sqlite.specs.Files.{FailsToOpenFiles}
use Rattle.csi_sqlite.proofs.Refusals.{told_of_copies}
use Rattle.csi_sqlite.proofs.sqlite_keep.found.judge.Goals as goal

pub returns-else-files_listed_other-clause-taken : goal.returns-else-files_listed_other-clause-taken
returns-else-files_listed_other-clause-taken g c = (c.in-Ok.connection, c.in-Ok.ensures.found, λ other. let told = c.files_listed_other.ensures.1 other in absurd (let no = c.if-files_listed_other.false in cc))

pub returns-then-files_listed_other-clause-told : goal.returns-then-files_listed_other-clause-told
returns-then-files_listed_other-clause-told g c =
    inr (record { connection = c.in-Ok.connection; found = c.in-Ok.ensures.found; other = c.files_listed_other.ensures.0 c.if-files_listed_other.true; device = refl })

pub returns-in-Err-clause-told : goal.returns-in-Err-clause-told
returns-in-Err-clause-told g c =
    inl (record {
      rest = c.in-Err._left;
      told = λ clean. told_of_copies (FailsToOpenFiles c.args.files c.in-Err._left) c.in-Err.error c.told_of_copies.result c.told_of_copies.ensures.memory c.told_of_copies.ensures.cause (c.in-Err.ensures.cause clean);
    })
