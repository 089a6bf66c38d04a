use Rattle.std.proofs.Common.{rules}
use Rattle.csi_embedded.proofs.Fullness.{has_one}
use Rattle.csi_embedded.proofs.handle.Handle.take.Goals as goal

-- src/handle.rt:51:14
pub open-requires : goal.open-requires
open-requires c = has_one c.replace-held.result.held.embedded (search rules)
