use Rattle.std.proofs.Common.{rules}
use Rattle.csi_stores.proofs.counted.CountedWrite.write.Goals as goal

pub returns : goal.returns
returns c = search rules
