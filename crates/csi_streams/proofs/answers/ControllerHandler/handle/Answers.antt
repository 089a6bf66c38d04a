use Rattle.csi_frames.specs.Public.Lent.{lent_frame}
use Rattle.csi_streams.proofs.Answered.{answered_none}
use Rattle.csi_streams.proofs.answers.ControllerHandler.handle.Goals as goal

pub returns-in-None-clause-ok : goal.returns-in-None-clause-ok
returns-in-None-clause-ok c = λ frames has here.
    answered_none frames (lent_frame c.args.frame.now) c.args.self.now c.args.out.now.items has c.in-None.ensures.value
