use Rattle.std.proofs.Common.{ap, arith}
use Rattle.csi_frames.specs.Public.Borrowed.{lent_borrowed_frame}
use Rattle.csi_frames.specs.Public.Reading.{whole_frame}
use Rattle.csi_frames.proofs.Whole.{all_of-err, rest-within}
use Rattle.csi_frames.proofs.body.whole_body.Goals as goal

pub returns-in-Err-clause-within : goal.returns-in-Err-clause-within
returns-in-Err-clause-within c =
    (all_of-err c.args.bytes.now c.in-Err.stop (λ i. omega (arith, c.type_inv.bytes i)) (ap whole_frame c.in-Err.ensures)).within

pub returns-in-Ok-2-clause-within : goal.returns-in-Ok-2-clause-within
returns-in-Ok-2-clause-within c =
    rw c.stop.ensures (rest-within c.args.bytes.now (lent_borrowed_frame c.in-Ok-2.field-0, c.frame_at.new.fields.bytes.now) (λ i. omega (arith, c.type_inv.bytes i)) c.in-Ok-2.ensures)
