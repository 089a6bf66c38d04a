-- What becomes of an orchestrator's rows where a session begins. This profile's own.
use Rattle.std.specs.Prelude.{ℕ, List, Bool, false, Option, Some}
use Rattle.csi_types.specs.Model.Same.{same_text}
use Rattle.csi_orchestrator.specs.declared.row.Goal.{Goal}
use Rattle.csi_orchestrator.specs.declared.row.Goal.TheVariants.{Use}

-- what is wanted is a use at the node
abbrev pub is_use_at : List ℕ → Option Goal → Bool
is_use_at node (Some (Use usage)) = same_text usage.node node
is_use_at node goal = false
