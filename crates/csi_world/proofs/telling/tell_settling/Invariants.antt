-- So many deliveries were told.
use Rattle.csi_world.proofs.ToldEvents.{HasTold}
use Rattle.csi_world.proofs.telling.tell_settling.Given as goal

abbrev pub invariant-loop-number : goal.invariant-loop-number
invariant-loop-number l = HasTold l.fn.told.items l.name l.first l.number l.told.items
