-- By the plugins' laws.
use Rattle.csi_recovery.proofs.RecoverySafety.{recovery-safe}
use Rattle.csi_recovery.proofs.laws.recovery_law.Goals as goal

pub returns : goal.returns
returns c = recovery-safe (record { controller = c.delivery_law.ensures; node = c.delivery_law-2.ensures; publishing = c.safety_law.ensures })
