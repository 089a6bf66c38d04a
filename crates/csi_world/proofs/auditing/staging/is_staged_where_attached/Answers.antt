-- By what is listed.
use Rattle.csi_world.proofs.PartsSafe.{staged-told}
use Rattle.csi_world.proofs.auditing.staging.is_staged_where_attached.Goals as goal

pub returns : goal.returns
returns c world is = staged-told (record { rows = c.args.rows.now; nodes = c.args.nodes.now }) world is c.are_attached.result c.are_attached.ensures
