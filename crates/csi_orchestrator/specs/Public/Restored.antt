-- Which rows an orchestrator has, and may be given back, once its open calls were given up: the rules that its type keeps of each. `rows_law` says
-- that each orchestrator keeps them, `records_law` that whatever rows keep them are told by a history. This profile's own.
use Rattle.std.specs.Prelude.{◌≡◌, ℕ, ◌≤◌, List, length, false, None}
use Rattle.std.specs.List.{AllByRecursion}
use Rattle.csi_types.specs.Model.Members.{EachTwo}
use Rattle.csi_types.specs.Model.Same.{same_text}
use Rattle.csi_orchestrator.specs.Model.Shown.{RowShown}
use Rattle.csi_orchestrator.specs.Public.Bounds.{AreWithin}
use Rattle.csi_orchestrator.specs.Public.RowRules.{IsSoundRow}
use Rattle.csi_orchestrator.specs.Public.Steady.{IsSteadyRow}

-- the rules of one row: it has no open call; its entries are apart, and what is wanted may be wanted; how its goal, tries, id, marks and entries go
-- together; and its entries are few, with targets only at these nodes
pub record IsRestorable (nodes : List (List ℕ)) (row : RowShown) : Type 0 where
  pub quiet : row.open_call ≡ None
  pub sound : IsSoundRow row
  pub steady : IsSteadyRow row
  pub within : AreWithin nodes row

-- and of all: few enough, and one for each name
pub record AreRestorable (nodes : List (List ℕ)) (rows : List RowShown) : Type 0 where
  pub few : length rows ≤ 4096
  pub names : EachTwo (λ (a b : RowShown). same_text a.name b.name ≡ false) rows
  pub each : AllByRecursion (IsRestorable nodes) rows
