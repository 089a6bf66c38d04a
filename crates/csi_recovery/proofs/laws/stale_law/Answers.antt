-- By the plugins' laws.
use Rattle.csi_recovery.proofs.NeverStale.{never-stale}
use Rattle.csi_recovery.proofs.laws.stale_law.Goals as goal

pub returns : goal.returns
returns c = never-stale (record { controller = c.delivery_law.ensures; node = c.delivery_law-2.ensures; publishing = c.safety_law.ensures })
