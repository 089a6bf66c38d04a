-- What a controller keeps by itself, whatever frames come: CSI's spec.md, "CreateVolume" (`AccessMode`) and "Volume
-- Lifecycle".
use Rattle.std.specs.Prelude.{◌≡◌}
use Rattle.csi_types.specs.declared.holding.Holding.{Holding}
use Rattle.csi_types.specs.Model.Holding.{AreApart}

-- they are apart, if they are holdings of one volume
abbrev pub AreExclusive : Holding → Holding → Type 0
AreExclusive a b = a.volume ≡ b.volume → AreApart a b
