-- A world whose orchestrator is made of what its plugins keep, after its own store was lost. This profile's own.
use Rattle.std.specs.Prelude.{ℕ, List, map, filter, Bool}
use Rattle.std.specs.List.{list_any}
use Rattle.csi_types.specs.Model.Same.{same_text}
use Rattle.csi_controller.specs.Public.Raised as controller
use Rattle.csi_node.specs.Public.Raised as node
use Rattle.csi_orchestrator.specs.Model.History.{History}
use Rattle.csi_world.specs.Model.World.{NodeAt, World}

-- the node's store is given
abbrev pub is_given : List (List ℕ) → NodeAt → Bool
is_given given at = list_any (same_text at.id) given

-- a node whose session is raised
abbrev pub raised_at : ℕ → NodeAt → NodeAt
raised_at session at = record at { state = node.raised session at.state }

-- the world after a recovery: each frame that was ever sent is under way still; the plugins' sessions are raised; the nodes whose stores
-- aren't given are no more; and the orchestrator has this history
abbrev pub recovered_world : ℕ → List (List ℕ) → History → World → World
recovered_world session given history world =
    record {
      config = world.config;
      frames = world.frames;
      controller = controller.raised session world.controller;
      nodes = map (raised_at session) (filter (is_given given) world.nodes);
      history = history;
    }
