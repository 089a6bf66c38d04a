use Rattle.std.proofs.Common.{rules}
use Rattle.csi_frames.specs.Public.Reading.{first_frame}
use Rattle.csi_frames.proofs.body.first_frame.Goals as goal

pub returns-then-bytes-size : goal.returns-then-bytes-size
unfolding first_frame
returns-then-bytes-size c = search rules

pub returns-in-Ok : goal.returns-in-Ok
unfolding first_frame
returns-in-Ok c = search rules

pub returns-in-Err : goal.returns-in-Err
unfolding first_frame
returns-in-Err c = search rules
