-- Which calls a plugin carries out, by their numbers. This profile's own: CSI's spec.md, "Concurrency", asks that a plugin
-- bear calls that come twice, late or at once.
-- A change of what a plugin remembers touches these definitions, `Fenced`, and `State` of each plugin.
use Rattle.std.specs.Prelude.{◌≡◌, Option}
use Rattle.csi_types.specs.declared.number.Number.{Number}
use Rattle.csi_fence.specs.declared.fence.Verdict.TheVariants.{Fresh}
use Rattle.csi_fence.specs.Model.Fence.{verdict_of}

-- the number comes after the last one
abbrev pub IsFresh : Option Number → Number → Type 0
IsFresh last number = verdict_of last number ≡ Fresh
