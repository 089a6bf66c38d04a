-- What a node keeps by itself, whatever frames come: CSI's spec.md, "Volume Lifecycle", and "NodePublishVolume" on
-- several targets.
use Rattle.std.specs.Prelude.{◌≡◌, ◌⊎◌, ◌≤◌, ◌+◌, ◌==◌, ℕ, false, List, length, count_by, Some, is_some, IsSome}
use Rattle.csi_types.specs.Model.Frame.{Frame}
use Rattle.csi_types.specs.Model.Members.{IsAmong, EachTwo}
use Rattle.csi_types.specs.Model.Sharing.{allows_one_target}
use Rattle.csi_node.specs.Model.State.{NodeState, AnsweredVolume, PublishedVolume, joined_node, staged_of}
use Rattle.csi_node.specs.Public.Fenced.{after_frames}

-- at two targets, if they are of one volume, neither is in a mode that allows one target
pub record AllowTwo (a b : PublishedVolume) : Type 0 where
  pub first : a.volume ≡ b.volume → allows_one_target a.capability.mode ≡ false
  pub second : a.volume ≡ b.volume → allows_one_target b.capability.mode ≡ false

-- what is published is staged in its capability, and a mode that allows one target has at most one
pub record IsPublishedRight (state : NodeState) : Type 0 where
  pub staged : (published : PublishedVolume) → IsAmong published state.published → staged_of published.volume state ≡ Some published.capability
  pub targets : EachTwo AllowTwo state.published

-- what a node remembers: each row of a volume that isn't staged has its last call in the greatest session that came, none has one in a
-- later session, and so there are at most as many rows as are of staged volumes and as have their last call in that session
pub record Remembers (state : NodeState) : Type 0 where
  pub each : (row : AnsweredVolume) → IsAmong row state.rows → IsSome (staged_of row.id state) ⊎ (row.kept.number.session ≡ state.session)
  pub before : (row : AnsweredVolume) → IsAmong row state.rows → row.kept.number.session ≤ state.session
  pub few : length state.rows ≤ count_by (λ row. is_some (staged_of row.id state)) state.rows + count_by (λ row. row.kept.number.session == state.session) state.rows

-- in every state that frames lead to, at every node, whichever session it joined with
abbrev pub NodeSessionsLaw : Type 0
NodeSessionsLaw = (node : List ℕ) (session : ℕ) (frames : List Frame) → Remembers (after_frames node (joined_node session) frames)

-- in every state that frames lead to, at every node, whichever session it joined with
abbrev pub NodeSafetyLaw : Type 0
NodeSafetyLaw = (node : List ℕ) (session : ℕ) (frames : List Frame) → IsPublishedRight (after_frames node (joined_node session) frames)
