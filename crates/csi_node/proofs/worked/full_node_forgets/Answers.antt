-- No row stays where nothing is staged, and the rest is computed.
use Rattle.std.proofs.Common.{◌≡◌, List, [], ◌∷◌, refl, ap}
use Rattle.std.specs.Prelude.{filter, is_some, codes}
use Rattle.csi_types.specs.declared.call.Call.TheVariants.{NodeUnstageVolume}
use Rattle.csi_fence.specs.Model.Fenced as fence
use Rattle.csi_node.specs.Model.State.{NodeState, AnsweredVolume, staged_of}
use Rattle.csi_node.specs.Model.Fenced.{kept_for, node_at}
use Rattle.csi_node.proofs.worked.full_node_forgets.Goals as goal

-- a node with these rows, nothing of which is staged
abbrev unstaged : List AnsweredVolume → NodeState
unstaged rows = record { rows = rows; session = 2; staged = []; published = [] }

-- no row of a volume that is staged
none_stay : (rows : List AnsweredVolume) → filter (λ (row : AnsweredVolume). is_some (staged_of row.id (unstaged rows))) rows ≡ []
none_stay rows = by rows
  where
    by : (list : List AnsweredVolume) → filter (λ (row : AnsweredVolume). is_some (staged_of row.id (unstaged rows))) list ≡ []
    by [] = refl
    by (row ∷ list) = by list

pub returns : goal.returns
returns c rows id full =
    ap
    (λ (stay : List AnsweredVolume). fence.fenced_call (node_at (codes "n1")) (unstaged stay) (record { session = 2; call = 1 }) (NodeUnstageVolume id) (kept_for (NodeUnstageVolume id) (unstaged stay)))
    (none_stay rows)
