-- What the file held is what the connection has, and so what the keeper finds.
use Rattle.std.proofs.Common.{◌≡◌, ◌∙◌, sym, ap, subst}
use Rattle.std.proofs.lemmas.Result.{IfOk-weaker}
use Rattle.sqlite_trees.specs.Tree.{Trees}
use Rattle.sqlite.specs.Effect.{Database}
use Rattle.sqlite.specs.State.{HasCleanDisk}
use Rattle.sqlite.specs.Files.{file_state}
use Rattle.csi_sqlite.specs.Public.Tables.{StoresParts}
use Rattle.csi_sqlite.proofs.Blank.{blank_opened}
use Rattle.csi_sqlite.proofs.sqlite_keep.file.SqliteKeep+FileStore+FileFrom+S.open_file.Goals as goal

pub returns-clause-found : goal.returns-clause-found
returns-clause-found g c =
    IfOk-weaker c.kept_files.result _ _ (λ keep found clean db content held stored.
    let was = c.in-Ok.connection in
    let early : HasCleanDisk (file_state was) = found.0.honest clean in
    let opened = (c.in-Ok.ensures.opened early).0 in
    let trees : (file_state was).now.trees ≡ db = ap (λ (d : Database). d.trees) opened.clean ∙ (c.in-Ok.ensures.found early).holds db held in
    found.1 clean content opened.is_open (subst (λ (t : Trees). StoresParts t content) (sym trees) stored)) c.kept_files.ensures.found

pub returns-clause-blank : goal.returns-clause-blank
returns-clause-blank g c =
    IfOk-weaker c.kept_files.result _ _ (λ keep found clean none.
    let was = c.in-Ok.connection in
    let early : HasCleanDisk (file_state was) = found.0.honest clean in
    found.2 clean (blank_opened _ (file_state was) none (c.in-Ok.ensures.found early) (c.in-Ok.ensures.opened early).0)) c.kept_files.ensures.found
