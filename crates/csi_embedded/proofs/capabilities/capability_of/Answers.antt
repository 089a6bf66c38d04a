use Rattle.std.proofs.Common.{arith}
use Rattle.csi_frames.specs.Public.Bytes.{AreBytes}
use Rattle.csi_embedded.proofs.SpelledCapabilities.{empty-is, some-left, one-spelled, one-missed, one-none}
use Rattle.csi_embedded.proofs.capabilities.capability_of.Goals as goal

pub returns-in-Err-clause-none : goal.returns-in-Err-clause-none
returns-in-Err-clause-none c = one-none c.args.bytes.now c.in-Err.ending c.in-Err.ensures.none

pub returns-then-not-is_empty-clause-none : goal.returns-then-not-is_empty-clause-none
returns-then-not-is_empty-clause-none c =
    one-missed c.args.bytes.now c.in-Ok.one c.front.new.fields.bytes.now c.in-Ok.ensures.read (some-left _ c.is_empty.result c.is_empty.ensures c.if-not-is_empty.true)

pub returns-clause-spelled : goal.returns-clause-spelled
returns-clause-spelled c =
    let fits : AreBytes c.args.bytes.now = λ i. omega (arith, c.type_inv.bytes i) in
    one-spelled c.args.bytes.now c.in-Ok.one c.front.new.fields.bytes.now fits c.in-Ok.ensures.read (empty-is _ c.is_empty.result c.is_empty.ensures c.if-not-is_empty.false)
