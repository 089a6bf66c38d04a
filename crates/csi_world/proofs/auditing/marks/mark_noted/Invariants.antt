-- Something is noted of the first things, and their entries are marked.
use Rattle.csi_world.proofs.Words.{◌≡◌, map, take, true, list_all, is_entry_listed, is_noted}
use Rattle.csi_world.proofs.auditing.marks.mark_noted.Given as goal

abbrev pub invariant-loop-thing : goal.invariant-loop-thing
invariant-loop-thing l =
    (list_all (is_noted l.noted) (take l.thing-index l.things) ≡ true) × (l.marks ≡ map (is_entry_listed (take l.thing-index l.things)) l.noted)
