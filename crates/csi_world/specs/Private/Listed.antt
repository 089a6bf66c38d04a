-- What an audit lists of the plugins, as a world of its own, and which worlds are like it. This profile's own.
use Rattle.std.specs.Prelude.{◌≡◌, ℕ, ◌==◌, List, [], ◌∷◌, ◌++◌, map, filter, find, Bool, false, not, ◌&&◌, ◌||◌, Option, Some, None, if◌then◌else◌}
use Rattle.std.specs.List.{list_any, list_all, flat_map}
use Rattle.csi_types.specs.Public.Places.{AtMostOne}
use Rattle.csi_types.specs.declared.capability.Capability.{Capability}
use Rattle.csi_types.specs.Model.Same.{same_text, same_capability}
use Rattle.csi_controller.specs.declared.row.ControllerRow.{ControllerRow}
use Rattle.csi_controller.specs.declared.row.NodeHolding.{NodeHolding}
use Rattle.csi_controller.specs.Public.Core.{AreRisingRows}
use Rattle.csi_controller.specs.Model.Shown.{volume_of_row, holdings_in}
use Rattle.csi_controller.specs.Model.State.{holdings_of}
use Rattle.csi_node.specs.declared.entries.Staged.{Staged}
use Rattle.csi_node.specs.declared.entries.Published.{Published}
use Rattle.csi_node.specs.Model.Record.{NodeParts}
use Rattle.csi_node.specs.Public.Safe.{IsPublishedRight}
use Rattle.csi_node.specs.Model.Record.{Shows as NodeShows}
use Rattle.csi_node.specs.Model.State.{NodeState, published_of}
use Rattle.csi_node.specs.Public.Views.{staged_shown, published_shown}
use Rattle.csi_orchestrator.specs.declared.thing.Thing.{Thing}
use Rattle.csi_orchestrator.specs.declared.thing.Thing.TheVariants.{Exists, Attached, Staged as StagedAt, Published as PublishedAt}
use Rattle.csi_orchestrator.specs.declared.thing.Known.{Known}
use Rattle.csi_orchestrator.specs.Model.Thing.{is_yes, same_thing}
use Rattle.csi_world.specs.declared.auditing.lists.NodeLists.{NodeLists}
use Rattle.csi_world.specs.Model.World.{NodeAt, World}
use Rattle.csi_world.specs.Model.Safe.{IsExclusive, IsPublishedWhereStaged, IsAttachedWhileLive}

-- a node as it is listed
abbrev pub node_listed : NodeLists → NodeAt
node_listed node =
    record {
      id = node.id;
      state = record { rows = []; session = 0; staged = map staged_shown node.staged.items; published = map published_shown node.published.items };
    }

-- the same node, with the same staged and published of each volume; how those of different volumes are mixed may differ
pub record IsNodeAlike (listed node : NodeAt) : Type 0 where
  pub id : listed.id ≡ node.id
  pub staged : (id : ℕ) → filter (λ staged. staged.volume == id) (listed.state).staged ≡ filter (λ staged. staged.volume == id) (node.state).staged
  pub published : (id : ℕ) → published_of id listed.state ≡ published_of id node.state

-- node by node
abbrev pub AreNodesAlike : List NodeAt → List NodeAt → Type 0
AreNodesAlike [] [] = Unit {0}
AreNodesAlike [] (node ∷ nodes) = ⊥
AreNodesAlike (listed ∷ others) [] = ⊥
AreNodesAlike (listed ∷ others) (node ∷ nodes) = IsNodeAlike listed node × AreNodesAlike others nodes

-- no text comes twice
abbrev pub AreDistinctTexts : List (List ℕ) → Type 0
AreDistinctTexts [] = Unit {0}
AreDistinctTexts (x ∷ xs) = (list_any (same_text x) xs ≡ false) × AreDistinctTexts xs

-- rows by rising id, of which at most one has a name
pub record AreRowsApart (rows : List ControllerRow) : Type 0 where
  pub rising : AreRisingRows rows
  pub names : (name : List ℕ) → AtMostOne (λ (row : ControllerRow). same_text row.name name) rows

-- what an audit lists of the plugins: the controller's rows, and each node
pub record Lists : Type 0 where
  pub rows : List ControllerRow
  pub nodes : List NodeLists

-- it is the list of this world: the same volumes, each with its holdings, and the same nodes, whose ids differ
pub record IsListed (lists : Lists) (world : World) : Type 0 where
  pub volumes : map volume_of_row lists.rows ≡ world.controller.volumes
  pub holdings : (id : ℕ) → holdings_in (find (λ row. row.id == id) lists.rows) ≡ holdings_of id world.controller
  pub nodes : AreNodesAlike (map node_listed lists.nodes) world.nodes
  pub apart : AreDistinctTexts (map (λ node. node.id) world.nodes)

-- the list is of this node
pub record IsListOf (parts : NodeParts) (listed : NodeAt) : Type 0 where
  pub id : listed.id ≡ parts.id
  pub shows : (node : NodeAt) → NodeShows parts node.state → parts.id ≡ node.id → IsNodeAlike listed node

-- node by node
abbrev pub AreListsOf : List NodeParts → List NodeAt → Type 0
AreListsOf [] [] = Unit {0}
AreListsOf [] (listed ∷ others) = ⊥
AreListsOf (parts ∷ others) [] = ⊥
AreListsOf (parts ∷ nodes) (listed ∷ others) = IsListOf parts listed × AreListsOf nodes others

-- in every state that the node shows, what is published is staged
abbrev pub IsPublishing : NodeParts → Type 0
IsPublishing parts = (state : NodeState) → NodeShows parts state → IsPublishedRight state

-- what the plugins' own contracts keep
pub record ArePluginsSafe (world : World) : Type 0 where
  pub exclusive : IsExclusive world
  pub published_where_staged : IsPublishedWhereStaged world
  pub attached_while_live : IsAttachedWhileLive world

-- the holding is at this node, with this capability
abbrev pub is_held_as : List ℕ → Capability → NodeHolding → Bool
is_held_as node capability held = same_text held.node node && same_capability held.capability capability

-- the row's volume is held so, if there is a row
abbrev pub is_row_held : List ℕ → Capability → Option ControllerRow → Bool
is_row_held node capability None = false
is_row_held node capability (Some row) = list_any (is_held_as node capability) row.holdings.items

-- the row of an id
abbrev pub controller_row_with_id : ℕ → List ControllerRow → Option ControllerRow
controller_row_with_id id rows = find (λ row. row.id == id) rows

-- each thing that is staged at a listed node is attached so
abbrev pub is_staged_right : List ControllerRow → List ℕ → Staged → Bool
is_staged_right rows node staged = is_row_held node staged.capability (controller_row_with_id staged.id rows)

-- so it is at this node
abbrev pub is_node_attached : List ControllerRow → NodeLists → Bool
is_node_attached rows node = list_all (is_staged_right rows node.id) node.staged.items

-- what holds of a volume at the controller
abbrev pub exists_thing : ControllerRow → List Thing
exists_thing row = if row.live then Exists row.name ∷ [] else []

-- an attachment, as a thing
abbrev pub attached_thing : List ℕ → NodeHolding → Thing
attached_thing name held = Attached name held.node

-- the volume's existence and its attachments
abbrev pub things_of : ControllerRow → List Thing
things_of row = exists_thing row ++ map (attached_thing row.name) row.holdings.items

-- what holds at a node of the volumes that the controller has
abbrev pub staged_things : List ℕ → Option ControllerRow → List Thing
staged_things node None = []
staged_things node (Some row) = StagedAt row.name node ∷ []

-- a staging, if the controller has its volume
abbrev pub staged_thing : List ControllerRow → List ℕ → Staged → List Thing
staged_thing rows node staged = staged_things node (controller_row_with_id staged.id rows)

-- a publication at this target, if the controller has its volume
abbrev pub published_things : List ℕ → List ℕ → Option ControllerRow → List Thing
published_things node target None = []
published_things node target (Some row) = PublishedAt row.name node target ∷ []

-- the same, by the volume's id
abbrev pub published_thing : List ControllerRow → List ℕ → Published → List Thing
published_thing rows node published = published_things node published.target (controller_row_with_id published.id rows)

-- all that holds at this node
abbrev pub things_at : List ControllerRow → NodeLists → List Thing
things_at rows node = flat_map (staged_thing rows node.id) node.staged.items ++ flat_map (published_thing rows node.id) node.published.items

-- everything that holds, by what is listed
abbrev pub things_listed : List ControllerRow → List NodeLists → List Thing
things_listed rows nodes = flat_map things_of rows ++ flat_map (things_at rows) nodes

-- the thing is in the list
abbrev pub is_listed : List Thing → Thing → Bool
is_listed things thing = list_any (same_thing thing) things

-- the entry's thing is in the list
abbrev pub is_entry_listed : List Thing → Thing × Known → Bool
is_entry_listed things entry = is_listed things entry.0

-- the entry is of the thing
abbrev pub is_entry_of : Thing → Thing × Known → Bool
is_entry_of thing entry = same_thing thing entry.0

-- something is noted of the thing
abbrev pub is_noted : List (Thing × Known) → Thing → Bool
is_noted noted thing = list_any (is_entry_of thing) noted

-- where it is known that the thing is so, it is in the list
abbrev pub is_affirmed : List Thing → Thing × Known → Bool
is_affirmed things entry = not (is_yes entry.1) || is_entry_listed things entry
