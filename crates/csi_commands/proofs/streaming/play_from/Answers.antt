-- What was read is a schedule, and what it gives is written.
use Rattle.csi_commands.proofs.Streams.{read_in, plays_so}
use Rattle.csi_commands.proofs.streaming.play_from.Goals as goal

pub returns-in-Ok-play-clause-streams : goal.returns-in-Ok-play-clause-streams
returns-in-Ok-play-clause-streams g c =
    let remaining = g.R.Read.remaining in
    let contents = g.W.Write.contents in
    rw c.written.ensures
    (plays_so g.D.Draws.draws c.args.command (remaining c.args.input.now.inner) (remaining c.read_whole.new.input.inner) (contents c.args.out.now.inner) (contents c.write_out.new.writer.inner) c.deref.result.now c.new-given.result.items c.play.new.out.items c.deref-in-Ok-play.result.now c.write_out.result
    (read_in (remaining c.args.input.now.inner) (remaining c.read_whole.new.input.inner) c.new-bytes.result.items c.read_whole.new.bytes.items c.deref.result.now c.new-bytes.ensures.items c.deref.ensures.value c.in-Ok.ensures.0)
    c.in-Ok.ensures.1 c.new-given.ensures.items c.deref-in-Ok-play.ensures.value c.in-Ok-play.ensures.ok c.write_out.ensures.ok c.write_out.ensures.err)
