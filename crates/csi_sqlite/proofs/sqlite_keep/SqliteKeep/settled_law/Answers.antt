-- While the database is open, a crash leaves what was committed.
use Rattle.sqlite.specs.Held.{state}
use Rattle.csi_sqlite.proofs.FoundAgain.{still_open, only_found}
use Rattle.csi_sqlite.proofs.sqlite_keep.SqliteKeep.settled_law.Goals as goal

pub returns : goal.returns
returns g c = λ connection faults honest found has.
    let is_open = still_open (state g.S.Store connection) faults found has in
    only_found (state g.S.Store connection) faults found has (g.met.S.Store.stays connection.store is_open) (λ db may. g.met.S.Store.settled connection.store db is_open may)
