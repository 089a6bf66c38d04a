-- A controller's rows once a session was raised are those that a call of it leaves.
use Rattle.std.proofs.Common.{refl}
use Rattle.std.specs.Prelude.{None}
use Rattle.csi_service.proofs.ControllerRows.{controller-changes}
use Rattle.csi_service.proofs.controller_service.ControllerPlugin.raise.Goals as goal

pub returns : goal.returns
returns c =
    let told = c.raise.ensures in
    record {
      own = told.config;
      first = told.changes.next_id refl;
      shows = told.state;
      changes = controller-changes None (record { session = c.args.session; call = 0 }) c.args.self.now c.raise.new.self told.changes;
    }
