use Rattle.std.proofs.Common.{rules}
use Rattle.csi_types.proofs.capability.CapabilityList.as_slice.Goals as goal

pub returns : goal.returns
returns c = search rules
