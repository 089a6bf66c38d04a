use Rattle.std.proofs.Common.{subst}
use Rattle.csi_types.specs.Public.Lent.{lent_call}
use Rattle.csi_types.specs.Public.Limits.{IsBody}
use Rattle.csi_frames.specs.declared.borrowed.BodyRef.{BodyRef}
use Rattle.csi_frames.specs.Public.Borrowed.{lent_body}
use Rattle.csi_frames.specs.Public.Lent.{lent_frame}
use Rattle.csi_frames.proofs.FitTexts.{fit-texts}
use Rattle.csi_frames.proofs.Splitting.{read-fits}
use Rattle.csi_frames.proofs.frame_ref.FrameRef.call.Goals as goal

pub returns-in-Call-clause-texts : goal.returns-in-Call-clause-texts
returns-in-Call-clause-texts c =
    fit-texts (lent_call c.in-Call.call) (subst (λ (b : BodyRef). IsBody (lent_body b)) c.in-Call.is (read-fits (lent_frame c.args.self.now) c.args.self.now.spelled c.args.self.now.read).body_fits)

pub returns-in-Call-clause-limits : goal.returns-in-Call-clause-limits
returns-in-Call-clause-limits c = read-fits (lent_frame c.args.self.now) c.args.self.now.spelled c.args.self.now.read

pub returns-in-Reply-clause-limits : goal.returns-in-Reply-clause-limits
returns-in-Reply-clause-limits c = read-fits (lent_frame c.args.self.now) c.args.self.now.spelled c.args.self.now.read
