use Rattle.std.proofs.Common.{rules}
use Rattle.csi_json.specs.Public.Events.{event_at}
use Rattle.csi_json.proofs.events.event_at.Goals as goal

pub returns-in-timeout : goal.returns-in-timeout
unfolding event_at
returns-in-timeout c = search rules

pub returns-in-lose : goal.returns-in-lose
unfolding event_at
returns-in-lose c = search rules
