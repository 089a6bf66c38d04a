use Rattle.std.proofs.Common.{refl}
use Rattle.std.specs.Fmt.{digits}
use Rattle.csi_frames.specs.Public.Spelling.{spelling, frame_body}
use Rattle.csi_streams.specs.Public.FrameLines.{lines}
use Rattle.csi_streams.proofs.worked.publishing.Goals as goal

pub returns : goal.returns
unfolding lines spelling frame_body digits
returns c = record { shown = refl }
