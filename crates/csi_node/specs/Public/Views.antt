-- What a node's lists of stagings and targets show. This profile's own.
use Rattle.std.specs.Prelude.{◌≡◌, ℕ, ◌==◌, ◌<◌, ◌≤◌, List, filter}
use Rattle.csi_types.specs.Model.Members.{EachTwo}
use Rattle.csi_node.specs.declared.entries.Staged.{Staged}
use Rattle.csi_node.specs.declared.entries.Published.{Published}
use Rattle.csi_node.specs.Model.State.{NodeState, StagedVolume, PublishedVolume, published_of}

-- a staging
abbrev pub staged_shown : Staged → StagedVolume
staged_shown staged = record { volume = staged.id; capability = staged.capability }

-- a publication
abbrev pub published_shown : Published → PublishedVolume
published_shown published = record { volume = published.id; target = published.target; capability = published.capability; readonly = published.readonly }

-- the first has the lower id
abbrev pub IsStagedBefore : StagedVolume → StagedVolume → Type 0
IsStagedBefore a b = a.volume < b.volume

-- the first hasn't the higher id
abbrev pub IsPublishedBefore : PublishedVolume → PublishedVolume → Type 0
IsPublishedBefore a b = a.volume ≤ b.volume

-- the list has what the state has staged, each volume once, by rising id
pub record ListsStaged (list : List StagedVolume) (state : NodeState) : Type 0 where
  pub items : (id : ℕ) → filter (λ staged. staged.volume == id) list ≡ filter (λ staged. staged.volume == id) state.staged
  pub rising : EachTwo IsStagedBefore list

-- the list has what the state has published, each target once, by rising id and then in the order in which the
-- volume was published
pub record ListsPublished (list : List PublishedVolume) (state : NodeState) : Type 0 where
  pub items : (id : ℕ) → filter (λ published. published.volume == id) list ≡ published_of id state
  pub rising : EachTwo IsPublishedBefore list
