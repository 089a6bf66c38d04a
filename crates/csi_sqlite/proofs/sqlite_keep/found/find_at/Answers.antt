-- It is what is found in the copies.
use Rattle.std.proofs.lemmas.Result.{IfOk-weaker}
use Rattle.csi_sqlite.proofs.sqlite_keep.found.find_at.Goals as goal

pub returns-clause-finds : goal.returns-clause-finds
returns-clause-finds g c = IfOk-weaker c.find.result _ _ (λ keep found. (c.in_ok-files.files, found)) c.find.ensures.finds
