-- How often a record's volumes are attached.
use Rattle.std.proofs.Common.{◌≤◌, ◌*◌, ℕ, List, [], ◌∷◌, length, arith}
use Rattle.std.specs.List.{AllByRecursion}
use Rattle.csi_controller.specs.declared.row.ControllerRow.{ControllerRow}
use Rattle.csi_controller.specs.Public.Core.{IsSoundRow, AreSoundRows}
use Rattle.csi_reports.specs.Public.Rebuildings.{attachments_of}

-- at most 64 times for each
each-few : (n : ℕ) (rows : List ControllerRow) → AllByRecursion (IsSoundRow n) rows → attachments_of rows ≤ 64 * length rows
each-few n [] all = omega arith
each-few n (row ∷ rows) all = let own = all.0.limit in let rest = each-few n rows all.1 in omega (arith, own, rest)

-- and so few in all
pub attached-few : (n : ℕ) (rows : List ControllerRow) → AreSoundRows n rows → attachments_of rows ≤ 262144
attached-few n rows sound = let few = each-few n rows sound.each in let limit = sound.limit in omega (arith, few, limit)
