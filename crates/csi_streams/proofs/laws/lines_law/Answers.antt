use Rattle.csi_streams.proofs.LineStreams.{lines_of, one_way}
use Rattle.csi_streams.proofs.laws.lines_law.Goals as goal

pub returns : goal.returns
returns c = record { some = lines_of; one = one_way }
