-- The sessions of a record's rows.
use Rattle.std.proofs.Common.{◌≡◌, ◌⊎◌, ◌≤◌, ◌+◌, ℕ, length, Bool, true, false, List, refl, inl, inr}
use Rattle.std.specs.Prelude.{◌==◌, count_by}
use Rattle.std.proofs.lemmas.Bool.{eq-eqb}
use Rattle.csi_types.proofs.Counts.{count-either}
use Rattle.csi_types.proofs.Members.{each_of}
use Rattle.csi_controller.specs.declared.row.ControllerRow.{ControllerRow}
use Rattle.csi_controller.specs.Public.Core.{IsCurrentRow, IsCurrent}

-- each row is of a live volume, or its last call is of the session, so there are no more than these
pub few-rows : (session : ℕ) (rows : List ControllerRow) → IsCurrent session rows
    → length rows ≤ count_by (λ (row : ControllerRow). row.live) rows + count_by (λ (row : ControllerRow). row.last.session == session) rows
few-rows session rows current =
    count-either (λ (row : ControllerRow). row.live) (λ (row : ControllerRow). row.last.session == session) rows
    (λ row among. by row (each_of (IsCurrentRow session) rows row current among) row.live refl)
  where
    by : (row : ControllerRow) → IsCurrentRow session row → (b : Bool) → row.live ≡ b → (row.live ≡ true) ⊎ ((row.last.session == session) ≡ true)
    by row own true live = inl live
    by row own false dead = inr (eq-eqb row.last.session session (own.gone dead))
