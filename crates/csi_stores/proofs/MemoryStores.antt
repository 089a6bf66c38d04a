-- What opening a store in memory again finds.
use Rattle.std.proofs.Common.{◌∙◌, ap, sym}
use Rattle.csi_stores.specs.Public.Stores.{Found, Parts, Foreign, Unlisted, Has, IsOnly}
use Rattle.csi_stores.specs.Public.Memory.{Memory, memory_store}

-- what it has is found, and nothing else
pub settled : (memory : Memory) (found : Found) → Has (memory_store memory) found → IsOnly (memory_store memory) found
settled memory (Parts content) has = record { there = has; left = ap Parts (sym has); alone = λ other is. is ∙ ap Parts has }
settled memory (Foreign place) has = absurd has
settled memory Unlisted has = absurd has
