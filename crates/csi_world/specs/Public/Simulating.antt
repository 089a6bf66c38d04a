-- What each part of a simulated world does with an event. This profile's own.
use Rattle.std.specs.Prelude.{◌≡◌, ℕ, zero, suc, List, [], ◌∷◌, slice_get, Bool, false, ◌||◌, Option, Some, None}
use Rattle.std.specs.List.{list_any}
use Rattle.csi_types.specs.Public.Config.{config_fault}
use Rattle.csi_types.specs.Model.Frame.{Frame}
use Rattle.csi_types.specs.Model.Same.{same_text}
use Rattle.csi_node.specs.Model.Record.{NodeParts}
use Rattle.csi_node.specs.Model.Record.{Shows as NodeShows}
use Rattle.csi_node.specs.Model.State.{NodeState}
use Rattle.csi_world.specs.Model.Simulated.{WorldParts, ShowsWorld}
use Rattle.csi_world.specs.Model.World.{World}

-- the frame of a number, from 1
abbrev pub numbered : List Frame → ℕ → Option Frame
numbered frames zero = None
numbered frames (suc place) = slice_get frames place

-- two of the nodes are of one id
abbrev pub has_same_id : List NodeParts → Bool
has_same_id [] = false
has_same_id (node ∷ others) = list_any (λ other. same_text node.id other.id) others || has_same_id others

-- no two of its nodes are of one id, and its configuration has no fault
pub record IsSoundWorld (shown : WorldParts) : Type 0 where
  pub apart : has_same_id shown.nodes ≡ false
  pub fit : config_fault (shown.config).greatest (shown.config).nodes ≡ None

-- there is a world that it shows, as of each that events lead to
pub record IsOfWorld (shown : WorldParts) : Type 0 where
  pub world : World
  pub shows : ShowsWorld shown world

-- what is shown of a node is this state, if there is one
abbrev pub ShowsNode : Option NodeParts → Option NodeState → Type 0
ShowsNode None None = Unit {0}
ShowsNode None (Some state) = ⊥
ShowsNode (Some parts) None = ⊥
ShowsNode (Some parts) (Some state) = NodeShows parts state
