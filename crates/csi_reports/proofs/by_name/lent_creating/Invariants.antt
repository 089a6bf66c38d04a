-- The names of the rows before this one are lent.
use Rattle.std.proofs.Common.{◌≡◌, ℕ, List, map, take}
use Rattle.std.specs.Borrow.{Bor}
use Rattle.csi_orchestrator.specs.Public.Shown.{row_shown}
use Rattle.csi_reports.specs.Public.ByName.{creating_names}
use Rattle.csi_reports.proofs.by_name.lent_creating.Given as goal

abbrev pub invariant-loop-row : goal.invariant-loop-row
invariant-loop-row l = map (λ (name : Bor (List ℕ)). name.now) l.lent.items ≡ creating_names (map row_shown (take l.row-index l.rows))
