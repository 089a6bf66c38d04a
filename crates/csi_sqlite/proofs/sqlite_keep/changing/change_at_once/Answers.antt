use Rattle.std.proofs.Common.{rules}
use Rattle.csi_sqlite.proofs.sqlite_keep.changing.change_at_once.Goals as goal

pub returns : goal.returns
returns g c = record { clean = search rules; done = search rules; crash = search rules; refused = search rules; outside = search rules }
