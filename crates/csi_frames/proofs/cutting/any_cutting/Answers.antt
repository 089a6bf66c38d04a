use Rattle.csi_frames.proofs.Streams.{given_are}
use Rattle.csi_frames.proofs.cutting.any_cutting.Goals as goal

pub returns : goal.returns
returns c = given_are
