use Rattle.std.proofs.Common.{rules}
use Rattle.csi_frames.proofs.version.Version.has_mode.Goals as goal

pub returns-in-One-SingleNodeSingleWriter : goal.returns-in-One-SingleNodeSingleWriter
returns-in-One-SingleNodeSingleWriter c = search rules
