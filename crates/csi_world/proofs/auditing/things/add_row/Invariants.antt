-- Whether it exists was added, and where it is attached by the first holdings.
use Rattle.csi_world.proofs.Words.{◌≡◌, ◌++◌, take, map, exists_thing, attached_thing}
use Rattle.csi_world.proofs.auditing.things.add_row.Given as goal

abbrev pub invariant-loop-held : goal.invariant-loop-held
invariant-loop-held l = l.things.items ≡ l.fn.things.items ++ (exists_thing l.row ++ map (attached_thing l.row.name) (take l.held-index l.row.holdings.items))
