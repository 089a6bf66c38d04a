use Rattle.std.proofs.Common.{arith, sym}
use Rattle.csi_streams.proofs.Streams.{frames_of}
use Rattle.csi_streams.proofs.ShownLines.{lines-none}
use Rattle.csi_streams.proofs.showing.show.Goals as goal

pub handle_slice-requires-clause-gave : goal.handle_slice-requires-clause-gave
handle_slice-requires-clause-gave c = sym lines-none

pub returns-in-Ok-clause-stream : goal.returns-in-Ok-clause-stream
returns-in-Ok-clause-stream c = frames_of c.args.input.now (λ i. omega (arith, c.type_inv.input i))

pub returns-in-Err-clause-stream : goal.returns-in-Err-clause-stream
returns-in-Err-clause-stream c = frames_of c.args.input.now (λ i. omega (arith, c.type_inv.input i))
