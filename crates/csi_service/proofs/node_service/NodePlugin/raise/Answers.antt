-- A node's rows once a session was raised are those that a call of it leaves.
use Rattle.std.proofs.Common.{refl}
use Rattle.std.specs.Prelude.{None}
use Rattle.csi_service.proofs.NodeRows.{node-changes}
use Rattle.csi_service.proofs.node_service.NodePlugin.raise.Goals as goal

pub returns : goal.returns
returns c =
    let told = c.raise.ensures in
    record {
      own = told.id;
      first = refl;
      shows = told.state;
      changes = node-changes None (record { session = c.args.session; call = 0 }) c.args.self.now c.raise.new.self told.changes;
    }
