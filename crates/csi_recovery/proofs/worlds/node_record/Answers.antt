-- The record is of the node.
use Rattle.csi_recovery.proofs.worlds.node_record.Goals as goal

pub returns-in-Ok : goal.returns-in-Ok
returns-in-Ok c = record { id = c.in-Ok.ensures.id; shown = c.in-Ok.ensures.shows }
