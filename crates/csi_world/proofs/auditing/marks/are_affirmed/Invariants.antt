-- The first entries are affirmed.
use Rattle.csi_world.proofs.Words.{◌≡◌, List, map, take, true, list_all, Thing, is_entry_listed, is_affirmed}
use Rattle.csi_world.proofs.auditing.marks.are_affirmed.Given as goal

abbrev pub invariant-loop-place : goal.invariant-loop-place
invariant-loop-place l = (things : List Thing) → l.marks ≡ map (is_entry_listed things) l.noted → list_all (is_affirmed things) (take l.place l.noted) ≡ true
