-- Those of the first ones were added.
use Rattle.csi_world.proofs.Words.{◌≡◌, ◌++◌, take, flat_map, published_thing}
use Rattle.csi_world.proofs.auditing.things.add_all_published.Given as goal

abbrev pub invariant-loop-entry : goal.invariant-loop-entry
invariant-loop-entry l = l.things.items ≡ l.fn.things.items ++ flat_map (published_thing l.rows l.node) (take l.entry-index l.list)
