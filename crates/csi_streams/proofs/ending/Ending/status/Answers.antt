use Rattle.std.proofs.Common.{rules}
use Rattle.csi_streams.proofs.ending.Ending.status.Goals as goal

pub returns-in-FrameFault : goal.returns-in-FrameFault
returns-in-FrameFault c = search rules
