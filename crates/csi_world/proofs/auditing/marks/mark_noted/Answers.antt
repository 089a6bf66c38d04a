-- One thing more.
use Rattle.std.proofs.Common.{sym, ◌∙◌}
use Rattle.csi_world.proofs.MarksMade.{none-noted, marked-more}
use Rattle.csi_world.proofs.auditing.marks.mark_noted.Goals as goal

pub returns-in-None-clause-all : goal.returns-in-None-clause-all
returns-in-None-clause-all c =
    sym (none-noted c.args.things.now c.args.noted.now c.loop-thing.thing-index c.thing-item.result c.loop-thing-test.true c.thing-item.is (sym c.place_of_noted.ensures ∙ c.in-None.is))

pub loop-thing-preserved : goal.loop-thing-preserved
loop-thing-preserved c =
    marked-more c.args.things.now c.args.noted.now c.loop-thing.marks c.loop-thing.thing-index c.in-Some.place c.thing-item.result c.requires.ordered c.loop-thing-test.true c.thing-item.is
    (sym c.place_of_noted.ensures ∙ c.in-Some.is) c.loop-thing.invariant.0 c.loop-thing.invariant.1
