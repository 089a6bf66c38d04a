-- What a system shows.
use Rattle.csi_world.specs.declared.system.System.{System}
use Rattle.csi_world.specs.Model.Simulated.{WorldParts}

-- its parts, each as it is shown
abbrev pub world_parts : System → WorldParts
world_parts system =
    record {
      config = system.config;
      frames = system.frames.items;
      outcomes = system.outcomes.items;
      controller = system.controller;
      nodes = system.nodes.items;
      orchestrator = system.orchestrator;
    }
