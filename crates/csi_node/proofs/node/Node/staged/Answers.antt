use Rattle.std.proofs.lemmas.Result.{IfOk-weaker}
use Rattle.std.specs.Prelude.{map}
use Rattle.csi_node.specs.Public.Views.{staged_shown}
use Rattle.csi_node.proofs.Readers.{lists-staged}
use Rattle.csi_node.proofs.node.Node.staged.Goals as goal

pub returns-clause-shows : goal.returns-clause-shows
returns-clause-shows c = λ state shows.
    IfOk-weaker c.staged_in.result _ _
    (λ list is. lists-staged c.args.self.now.rows state (map staged_shown list.items) c.rows.ensures.rules shows.shows (rw c.rows.ensures.value at is)) c.staged_in.ensures
