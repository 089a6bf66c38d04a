-- What an orchestrator answers to each input, and what it does then. This profile's own.
use Rattle.std.specs.Prelude.{Result, Ok, Err}
use Rattle.csi_orchestrator.specs.declared.fault.OrchFault.{OrchFault}
use Rattle.csi_orchestrator.specs.Model.History.{History, with_items}
use Rattle.csi_orchestrator.specs.Model.Moves.{Moved}

-- the history after an input
abbrev pub moved_to : History → Result Moved OrchFault → History
moved_to history (Ok moved) = with_items history moved.items
moved_to history (Err fault) = history
