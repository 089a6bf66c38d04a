-- What is so of the holdings of every controller, said of its rows: CSI's spec.md, "CreateVolume" (`AccessMode`)
-- and "ControllerPublishVolume".
use Rattle.std.specs.Prelude.{◌≡◌, [], false}
use Rattle.csi_types.specs.Model.Members.{EachTwo}
use Rattle.csi_types.specs.Model.Holding.{AreApart}
use Rattle.csi_controller.specs.declared.row.ControllerRow.{ControllerRow}
use Rattle.csi_controller.specs.Model.Shown.{holdings_in_row}

-- any two holdings of a row are apart, and a volume that was deleted is held nowhere
pub record IsRowExclusive (row : ControllerRow) : Type 0 where
  pub apart : EachTwo AreApart (holdings_in_row row)
  pub live : row.live ≡ false → row.holdings.items ≡ []
