use Rattle.std.proofs.lemmas.Result.{IfOk-weaker}
use Rattle.std.specs.Prelude.{map}
use Rattle.csi_node.specs.Public.Views.{published_shown}
use Rattle.csi_node.proofs.Readers.{lists-published}
use Rattle.csi_node.proofs.node.Node.published.Goals as goal

pub returns-clause-shows : goal.returns-clause-shows
returns-clause-shows c = λ state shows.
    IfOk-weaker c.published_in.result _ _
    (λ list is. lists-published c.args.self.now.rows state (map published_shown list.items) c.rows.ensures.rules shows.shows (rw c.rows.ensures.value at is)) c.published_in.ensures
