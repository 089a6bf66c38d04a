use Rattle.csi_commands.proofs.Streams.{answers_so, shows_so, told_so}
use Rattle.csi_commands.proofs.streaming.stream.Goals as goal

pub returns-in-Answer-clause-streams : goal.returns-in-Answer-clause-streams
returns-in-Answer-clause-streams g c =
    rw (c.in-Answer.is, c.ended.ensures)
    (answers_so g.D.Draws.draws (g.R.Read.remaining c.args.input.now.inner) (g.R.Read.remaining c.answer_from.new.reader.inner) (g.W.Write.contents c.args.out.now.inner) (g.W.Write.contents c.answer_from.new.writer.inner) c.answer_from.result c.answer_from.ensures.streams)

pub returns-in-Answer-clause-device : goal.returns-in-Answer-clause-device
returns-in-Answer-clause-device g c =
    rw c.ended.ensures (told_so c.args.input.now.faults c.answer_from.new.reader.faults c.args.out.now.faults c.answer_from.new.writer.faults c.answer_from.result c.answer_from.ensures.reader c.answer_from.ensures.writer)

pub returns-in-Show-clause-streams : goal.returns-in-Show-clause-streams
returns-in-Show-clause-streams g c =
    rw (c.in-Show.is, c.ended-in-Show.ensures)
    (shows_so g.D.Draws.draws (g.R.Read.remaining c.args.input.now.inner) (g.R.Read.remaining c.show_from.new.reader.inner) (g.W.Write.contents c.args.out.now.inner) (g.W.Write.contents c.show_from.new.writer.inner) c.show_from.result c.show_from.ensures.streams)

pub returns-in-Show-clause-device : goal.returns-in-Show-clause-device
returns-in-Show-clause-device g c =
    rw c.ended-in-Show.ensures (told_so c.args.input.now.faults c.show_from.new.reader.faults c.args.out.now.faults c.show_from.new.writer.faults c.show_from.result c.show_from.ensures.reader c.show_from.ensures.writer)
