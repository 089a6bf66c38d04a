use Rattle.std.proofs.Common.{◌≡◌, drop, map}
use Rattle.csi_stores.specs.Public.Content.{all_changed}
use Rattle.csi_stores.specs.Public.Part.{part_change}
use Rattle.csi_stores.specs.Public.Memory.{all_stored}
use Rattle.csi_stores.proofs.entries.change_all.Given as goal

-- what is left to do leads where all of it leads
abbrev pub invariant-loop-part : goal.invariant-loop-part
invariant-loop-part l = all_changed (map part_change (drop l.part-index l.parts)) (all_stored l.entries.items) ≡ all_changed (map part_change l.parts) (all_stored l.fn.entries.items)
