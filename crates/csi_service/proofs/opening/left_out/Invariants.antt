use Rattle.std.proofs.Common.{◌≡◌, map, take}
use Rattle.csi_stores.specs.Public.Part.{all_stored_in, part_change, take_all}
use Rattle.csi_service.specs.Private.Opening.{left_out}
use Rattle.csi_service.proofs.opening.left_out.Given as goal

-- the parts so far that are left out are taken out
abbrev pub invariant-loop-part : goal.invariant-loop-part
invariant-loop-part l = map part_change l.removals.items ≡ take_all (left_out (all_stored_in (take l.part-index l.found)) (all_stored_in l.parts))
