-- A stop is told by its tries and its node.
use Rattle.csi_orchestrator.proofs.Words.{Some, sym, ◌∙◌, ap, is_tried}
use Rattle.csi_orchestrator.proofs.judging.is_goal_tried.Goals as goal

pub returns-in-Stop : goal.returns-in-Stop
returns-in-Stop c = c.is_stop_tried.ensures ∙ ap (λ goal. is_tried (Some goal) c.args.row.now.tries c.args.row.now.node_entries.items) (sym c.in-Stop.is)
