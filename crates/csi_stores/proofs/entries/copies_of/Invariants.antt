use Rattle.std.proofs.Common.{◌≡◌, take}
use Rattle.csi_stores.specs.Public.Memory.{all_stored}
use Rattle.csi_stores.proofs.entries.copies_of.Given as goal

-- the entries so far were copied
abbrev pub invariant-loop-entry : goal.invariant-loop-entry
invariant-loop-entry l = all_stored l.copies.items ≡ all_stored (take l.entry-index l.entries)
