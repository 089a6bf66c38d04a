-- What is left passes exactly where the whole list does.
use Rattle.std.proofs.Common.{◌≡◌, drop}
use Rattle.std.specs.List.{list_all}
use Rattle.csi_recovery.specs.Private.Walks.{fits_row}
use Rattle.csi_recovery.proofs.agreeing.fits.Given as goal

abbrev pub invariant-loop-row : goal.invariant-loop-row
invariant-loop-row l = list_all (fits_row l.rows l.node) (drop l.row-index l.own) ≡ list_all (fits_row l.rows l.node) l.own
