use Rattle.std.proofs.Common.{arith}
use Rattle.std.proofs.lemmas.Grind.{common_steps}
use Rattle.csi_stores.specs.Public.Part.{stored_in}
use Rattle.csi_records.proofs.WritingPieces.{one_more_part, part_at}
use Rattle.csi_records.proofs.writing.bytes_of.Goals as goal

pub put_part-requires : goal.put_part-requires
put_part-requires c = part_at c.args.parts.now c.loop-part.part-index c.part-item.result c.requires.each c.loop-part-test.true c.part-item.is

pub loop-part-preserved : goal.loop-part-preserved
loop-part-preserved c = one_more_part stored_in c.args.parts.now c.loop-part.part-index c.part-item.result _ _ _ c.loop-part-test.true c.part-item.is c.loop-part.invariant c.in_ok-put_part.ensures

pub returns : goal.returns
returns c = grind (arith, common_steps)
