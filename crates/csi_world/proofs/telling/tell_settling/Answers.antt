-- One delivery more.
use Rattle.csi_world.proofs.ToldEvents.{told-more}
use Rattle.csi_world.proofs.telling.tell_settling.Goals as goal

pub loop-number-preserved : goal.loop-number-preserved
loop-number-preserved c =
    told-more c.args.told.now.items c.loop-number.told.items c.push-in-loop-number.new.self.items c.args.name.now c.args.first c.loop-number.number c.in_ok-push-2.ensures.items c.loop-number.invariant
