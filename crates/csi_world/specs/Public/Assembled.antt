-- A world that is made of its parts. This profile's own.
use Rattle.std.specs.Prelude.{List, []}
use Rattle.csi_types.specs.Model.Config.{Config}
use Rattle.csi_controller.specs.Public.Views.{RecordParts}
use Rattle.csi_node.specs.Model.Record.{NodeParts}
use Rattle.csi_orchestrator.specs.Model.Shown.{OrchestratorParts}
use Rattle.csi_world.specs.Model.Simulated.{WorldParts}

-- no frame was sent and no event came; the plugins are as their records have them
abbrev pub assembled : Config → RecordParts → List NodeParts → OrchestratorParts → WorldParts
assembled config controller nodes orchestrator =
    record {
      config = config;
      frames = [];
      outcomes = [];
      controller = record { config = config; next_id = controller.next_id; session = controller.session; rows = controller.rows };
      nodes = nodes;
      orchestrator = orchestrator;
    }
