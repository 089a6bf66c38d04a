-- The store as it was opened stands between.
use Rattle.std.proofs.Common.{inr}
use Rattle.csi_plugins.proofs.running.run_node.Goals as goal

pub returns-in-Ok-clause-runs : goal.returns-in-Ok-clause-runs
returns-in-Ok-clause-runs g c = inr (inr (record {
  core = c.in-Ok.core;
  asked = (c.in-Ok.ensures.id, c.in-Ok.ensures.session, c.in-Ok.ensures.fit);
  opened = c.open.new.keep;
  honest = c.in-Ok.ensures.honest;
  found = c.in-Ok.ensures.opened;
  left = c.in-Ok.ensures.left;
  served = c.served.ensures.serves;
}))
