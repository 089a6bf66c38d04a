-- What the second one's files hold is what it has, and so alone.
use Rattle.csi_stores.specs.Public.Stores.Found.{Parts}
use Rattle.csi_sqlite.proofs.sqlite_keep.SqliteKeep.reopened_law.Goals as goal

pub returns : goal.returns
returns g c left now faults rises image content finds over = (
  record { db = finds.db; may = finds.may; stored = finds.stored },
  λ clean. c.settled_law.ensures now rises clean (Parts content) (over finds.db content finds.holds finds.stored),
)
