use Rattle.csi_frames.specs.Public.Lent.{lent_frame}
use Rattle.csi_frames.proofs.Splitting.{read-fits}
use Rattle.csi_frames.proofs.frame_ref.FrameRef.to_frame.Goals as goal

pub frame-requires : goal.frame-requires
frame-requires c = read-fits (lent_frame c.args.self.now) c.args.self.now.spelled c.args.self.now.read

pub returns-clause-limits : goal.returns-clause-limits
returns-clause-limits c = read-fits (lent_frame c.args.self.now) c.args.self.now.spelled c.args.self.now.read
