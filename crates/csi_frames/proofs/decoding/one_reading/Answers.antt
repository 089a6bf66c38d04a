use Rattle.csi_frames.proofs.Verdicts.{one_reading_of}
use Rattle.csi_frames.proofs.decoding.one_reading.Goals as goal

pub returns : goal.returns
returns c = one_reading_of
