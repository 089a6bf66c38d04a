-- The table was there, so the connection is the one that was opened; what the files held is what it has. Else SQLite refused, or the table isn't there.
use Rattle.std.proofs.Common.{◌≡◌, ◌∙◌, inl, inr, refl, sym, ap, subst}
use Rattle.std.proofs.lemmas.Result.{IfOk-weaker, IfErr-weaker}
use Rattle.sqlite_trees.specs.Tree.{Trees}
use Rattle.sqlite.specs.Effect.{Database}
use Rattle.sqlite.specs.State.{HasCleanDisk}
use Rattle.sqlite.specs.Files.{file_state, Finds, FailsToOpenFiles}
use Rattle.csi_sqlite.specs.Public.Tables.{StoresParts}
use Rattle.csi_sqlite.proofs.Refusals.{told_of_copies}
use Rattle.csi_sqlite.proofs.sqlite_keep.found.SqliteKeep+FileStore+D.find.Goals as goal

pub returns-clause-finds : goal.returns-clause-finds
returns-clause-finds g c =
    IfOk-weaker c.kept_files.result _ _ (λ keep same clean. subst (Finds c.args.files) (sym same) (c.in-Ok.ensures.found (subst (λ it. HasCleanDisk (file_state it)) same clean))) (c.kept_files.ensures.there refl)

pub returns-clause-found : goal.returns-clause-found
returns-clause-found g c =
    IfOk-weaker c.kept_files.result _ _ (λ keep found clean db content held stored.
    let was = c.in-Ok.connection in
    let early : HasCleanDisk (file_state was) = found.0.honest clean in
    let opened = (c.in-Ok.ensures.opened early).0 in
    let trees : (file_state was).now.trees ≡ db = ap (λ (d : Database). d.trees) opened.clean ∙ (c.in-Ok.ensures.found early).holds db held in
    found.1 clean content opened.is_open (subst (λ (t : Trees). StoresParts t content) (sym trees) stored)) c.kept_files.ensures.found

pub returns-in-Err-clause-told : goal.returns-in-Err-clause-told
returns-in-Err-clause-told g c =
    inl (record {
      rest = c.in-Err._left;
      told = λ clean. told_of_copies (FailsToOpenFiles c.args.files c.in-Err._left) c.in-Err.error c.told_of_copies.result c.told_of_copies.ensures.memory c.told_of_copies.ensures.cause (c.in-Err.ensures.cause clean);
    })

pub returns-clause-told : goal.returns-clause-told
returns-clause-told g c =
    IfErr-weaker c.kept_files.result _ _ (λ fault refused. inr (record { connection = c.in-Ok.connection; found = c.in-Ok.ensures.found; refused = refused })) c.kept_files.ensures.told
