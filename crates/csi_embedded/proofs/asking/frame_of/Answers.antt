use Rattle.csi_embedded.proofs.Asked.{short-frame}
use Rattle.csi_embedded.proofs.asking.frame_of.Goals as goal

pub returns-in-Short-clause-none : goal.returns-in-Short-clause-none
returns-in-Short-clause-none c = short-frame c.args.bytes.now c.in-Err.fault c.in-Err.ensures.fault c.in-Short.is
