-- Those of the first ones were added.
use Rattle.csi_world.proofs.Words.{◌≡◌, ◌++◌, take, flat_map, things_of}
use Rattle.csi_world.proofs.auditing.things.add_rows.Given as goal

abbrev pub invariant-loop-row : goal.invariant-loop-row
invariant-loop-row l = l.things.items ≡ l.fn.things.items ++ flat_map things_of (take l.row-index l.rows)
