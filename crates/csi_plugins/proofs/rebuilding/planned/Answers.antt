-- The parts of what was made, and its line.
use Rattle.csi_plugins.proofs.RebuiltStores.{put-controller}
use Rattle.csi_plugins.proofs.rebuilding.planned.Goals as goal

pub returns-clause-planned : goal.returns-clause-planned
returns-clause-planned c = record {
  made = c.in_ok-made.made;
  is_made = c.in_ok-made.ensures.made;
  of_new = c.in_ok-new.ensures.changes;
  makes = put-controller c.in_ok-made.made c.in_ok-new.ensures.parts;
  told = c.in_ok-line.ensures;
}
