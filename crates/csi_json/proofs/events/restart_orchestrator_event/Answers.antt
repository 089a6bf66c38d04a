use Rattle.std.proofs.Common.{rules}
use Rattle.csi_json.specs.Public.Events.{restart_orchestrator_of}
use Rattle.csi_json.proofs.events.restart_orchestrator_event.Goals as goal

pub returns : goal.returns
unfolding restart_orchestrator_of
returns c = search rules
