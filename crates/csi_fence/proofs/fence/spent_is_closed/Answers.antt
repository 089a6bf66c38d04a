-- What is before the earlier one is before the later one.
use Rattle.csi_fence.proofs.Spent.{spent-earlier}
use Rattle.csi_fence.proofs.fence.spent_is_closed.Goals as goal

pub returns : goal.returns
returns c = spent-earlier
