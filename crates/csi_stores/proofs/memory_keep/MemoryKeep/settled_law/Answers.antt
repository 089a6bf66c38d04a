-- What is found again is what is there.
use Rattle.csi_stores.proofs.MemoryStores.{settled}
use Rattle.csi_stores.proofs.memory_keep.MemoryKeep.settled_law.Goals as goal

pub returns : goal.returns
returns c = λ memory honest found has. settled memory found has
