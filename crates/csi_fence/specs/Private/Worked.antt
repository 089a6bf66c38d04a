-- Worked examples of the fence, which the checker computes.
use Rattle.std.specs.Prelude.{◌≡◌, true, false, Some, None}
use Rattle.csi_types.specs.Public.Worked.{number}
use Rattle.csi_fence.specs.declared.fence.Verdict.TheVariants.{Stale, Repeated, Fresh}
use Rattle.csi_fence.specs.Model.Fence.{verdict_of, is_over, begins}

-- by the last number that was answered for a volume, whatever its session
pub record VerdictRows : Type 0 where
  pub no_row : verdict_of None (number 1 1) ≡ Fresh
  pub later : verdict_of (Some (number 1 9)) (number 2 1) ≡ Fresh
  pub same : verdict_of (Some (number 1 9)) (number 1 9) ≡ Repeated
  pub earlier : verdict_of (Some (number 2 1)) (number 1 9) ≡ Stale

-- by the greatest session that came, whatever the volume
pub record SessionRows : Type 0 where
  pub first : begins 0 (number 1 1) ≡ true
  pub same : begins 2 (number 2 9) ≡ false
  pub not_over : is_over 2 (number 2 1) ≡ false
  pub earlier : is_over 2 (number 1 9) ≡ true
