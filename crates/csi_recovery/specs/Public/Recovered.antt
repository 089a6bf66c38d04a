-- An orchestrator that is made of what its plugins keep, after its own store was lost. This profile's own.
use Rattle.std.specs.Prelude.{◌≡◌, ℕ, ◌<◌, List, [], ◌∷◌, map, filter, find, Bool, true, false, Option, Some, None, option_map, codes}
use Rattle.csi_types.specs.Model.Members.{IsAmong, EachTwo}
use Rattle.csi_types.specs.declared.holding.Holding.{Holding}
use Rattle.csi_types.specs.declared.capability.Capability.{Capability}
use Rattle.csi_types.specs.Model.Same.{same_text}
use Rattle.csi_controller.specs.Model.State.{Volume, ControllerState, holdings_of}
use Rattle.csi_node.specs.Model.State.{NodeState, StagedVolume, PublishedVolume, staged_of, published_of}
use Rattle.csi_orchestrator.specs.declared.row.Goal.{Goal}
use Rattle.csi_orchestrator.specs.declared.row.Goal.TheVariants.{Stop}
use Rattle.csi_orchestrator.specs.declared.row.TargetEntry.{TargetEntry}
use Rattle.csi_orchestrator.specs.declared.thing.Known.{Known}
use Rattle.csi_orchestrator.specs.declared.thing.Known.TheVariants.{Yes, No, Maybe}
use Rattle.csi_orchestrator.specs.Model.Shown.{NodeEntryShown, RowShown, OrchestratorParts}
use Rattle.csi_orchestrator.specs.Public.Restored.{AreRestorable}

-- a node whose store was given, and what it knows; a node whose store isn't given is lost
pub record GivenNode : Type 0 where
  pub id : List ℕ
  pub state : NodeState

-- what a node knows, if its store was given
abbrev pub given_state : List GivenNode → List ℕ → Option NodeState
given_state given id = option_map (λ node. node.state) (find (λ node. same_text node.id id) given)

-- the target of the stop that undoes what was staged and is published nowhere: the root, where nothing is published
abbrev pub root : List ℕ
root = codes "/"

-- a target at which the volume is published
abbrev pub target_of : PublishedVolume → TargetEntry
target_of published = record { target = published.target; published = Yes }

-- the entry of a node at which the volume is attached, by how it is staged there and where it is published: what is staged and published
-- nowhere is a use or a stop cut short, and may be staged; what isn't staged is left, as of a node that was lost
abbrev pub entry_by : Holding → Option Capability → List PublishedVolume → NodeEntryShown
entry_by holding None published =
    record { node = holding.node; capability = holding.capability; readonly = holding.readonly; attached = Yes; staged = No; target_entries = [] }
entry_by holding (Some capability) [] =
    record {
      node = holding.node;
      capability = holding.capability;
      readonly = holding.readonly;
      attached = Yes;
      staged = Maybe;
      target_entries = (record { target = root; published = No }) ∷ [];
    }
entry_by holding (Some capability) (published ∷ others) =
    record {
      node = holding.node;
      capability = holding.capability;
      readonly = holding.readonly;
      attached = Yes;
      staged = Yes;
      target_entries = map target_of (published ∷ others);
    }

-- by what its node knows, if that was given
abbrev pub entry_at : Holding → Option NodeState → NodeEntryShown
entry_at holding None = entry_by holding None []
entry_at holding (Some state) = entry_by holding (staged_of holding.volume state) (published_of holding.volume state)

-- the entry of a holding
abbrev pub entry_of : List GivenNode → Holding → NodeEntryShown
entry_of given holding = entry_at holding (given_state given holding.node)

-- it is neither known to be so nor not to be so
abbrev pub is_maybe : Known → Bool
is_maybe Yes = false
is_maybe No = false
is_maybe Maybe = true

-- the goal that undoes what may be staged, if anything is to be undone
abbrev pub undoing : Option NodeEntryShown → Option Goal
undoing None = None
undoing (Some entry) = Some (Stop entry.node root)

-- such a goal counts as tried once, and is wanted on the next start
abbrev pub tries_for : Option Goal → ℕ
tries_for None = 0
tries_for (Some goal) = 1

-- the row with these entries
abbrev pub row_with : Volume → List NodeEntryShown → RowShown
row_with volume entries =
    let goal : Option Goal = undoing (find (λ entry. is_maybe entry.staged) entries) in
    record {
      name = volume.name;
      arguments = record { required = volume.capacity; limit = 0; capabilities = volume.capabilities };
      id = Some volume.id;
      exists = Yes;
      goal = goal;
      open_call = None;
      tries = tries_for goal;
      node_entries = entries;
    }

-- the row of a live volume: it is made, with the capacity that it has and no limit, and has an entry for each of its holdings, in their order
abbrev pub recovered_row : ControllerState → List GivenNode → Volume → RowShown
recovered_row controller given volume = row_with volume (map (entry_of given) (holdings_of volume.id controller))

-- the rows, by rising id
abbrev pub recovered_rows : ControllerState → List GivenNode → List RowShown
recovered_rows controller given = map (recovered_row controller given) (filter (λ volume. volume.is_live) controller.volumes)

-- the orchestrator with this list of nodes, before the first call of this session
abbrev pub recovered : List (List ℕ) → ℕ → ControllerState → List GivenNode → OrchestratorParts
recovered nodes session controller given = record { nodes = nodes; last = record { session = session; call = 0 }; rows = recovered_rows controller given }

-- a volume is attached at a node so
pub record IsHeldAs (controller : ControllerState) (volume : ℕ) (node : List ℕ) (capability : Capability) : Type 0 where
  pub holding : Holding
  pub is_held : IsAmong holding controller.holdings
  pub of_volume : holding.volume ≡ volume
  pub at_node : holding.node ≡ node
  pub same_capability : holding.capability ≡ capability

-- the stores agree, as after every run of one orchestrator: what is staged at a node is attached there in that capability, and what is
-- published has the flag of its attachment
pub record Agree (controller : ControllerState) (node : GivenNode) : Type 0 where
  pub staged : (staged : StagedVolume) → IsAmong staged node.state.staged → IsHeldAs controller staged.volume node.id staged.capability
  pub published : (published : PublishedVolume) (holding : Holding) → IsAmong published node.state.published → IsAmong holding controller.holdings
      → holding.volume ≡ published.volume → holding.node ≡ node.id → holding.readonly ≡ published.readonly

-- nothing is refused: no two stores are of one node, they agree, the session is later than each of theirs, and the rows are ones that an
-- orchestrator's record may have: what is staged and published nowhere is so at one node of its volume at most, a node with something
-- staged is listed, and there is room
pub record MayRecover (nodes : List (List ℕ)) (session : ℕ) (controller : ControllerState) (given : List GivenNode) : Type 0 where
  pub apart : EachTwo (λ (a b : GivenNode). same_text a.id b.id ≡ false) given
  pub agree : (node : GivenNode) → IsAmong node given → Agree controller node
  pub after_controller : controller.session < session
  pub after_nodes : (node : GivenNode) → IsAmong node given → node.state.session < session
  pub rows : AreRestorable nodes (recovered_rows controller given)
