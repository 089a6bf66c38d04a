use Rattle.std.proofs.Common.{rules}
use Rattle.csi_json.specs.Public.Events.{create_of}
use Rattle.csi_json.proofs.events.create_event.Goals as goal

pub returns : goal.returns
unfolding create_of
returns c = search rules
