-- Which calls a plugin carries out, by their numbers. This profile's own: CSI's spec.md, "Concurrency", asks that a plugin
-- bear calls that come twice, late or at once.
-- A change of what a plugin remembers touches these definitions, `Fenced`, and `State` of each plugin.
use Rattle.std.specs.Prelude.{Option, IsTrue}
use Rattle.csi_types.specs.declared.number.Number.{Number}
use Rattle.csi_types.specs.Model.Number.{IsBefore}
use Rattle.csi_fence.specs.Model.Fence.{is_spent}

-- the same, as a fact
abbrev pub IsSpent : Option Number → Number → Type 0
IsSpent last number = IsTrue (is_spent last number)

-- a number before a spent one is spent
abbrev pub SpentIsClosed : Type 0
SpentIsClosed = (last : Option Number) (earlier later : Number) → IsBefore earlier later → IsSpent last later → IsSpent last earlier
