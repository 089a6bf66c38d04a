use Rattle.std.proofs.Common.{arith}
use Rattle.csi_streams.proofs.Answered.{answered-none}
use Rattle.csi_streams.proofs.Streams.{frames_of}
use Rattle.std.proofs.Common.{sym}
use Rattle.csi_streams.proofs.answers.answer.Goals as goal

pub handle_slice-requires-clause-gave : goal.handle_slice-requires-clause-gave
handle_slice-requires-clause-gave c = sym answered-none

pub returns-clause-stream : goal.returns-clause-stream
returns-clause-stream c = frames_of c.args.input.now (λ i. omega (arith, c.type_inv.input i))
