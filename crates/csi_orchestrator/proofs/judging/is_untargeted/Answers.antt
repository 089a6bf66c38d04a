-- By what is found of the node, as it is shown.
use Rattle.csi_orchestrator.proofs.Words.{sym, ◌∙◌, ap, option_copied, is_untargeted}
use Rattle.csi_orchestrator.proofs.WalksOn.{untargeted-as}
use Rattle.csi_orchestrator.proofs.judging.is_untargeted.Goals as goal

pub returns-in-Some : goal.returns-in-Some
returns-in-Some c =
    c.has_no_targets.ensures ∙ sym (ap (λ o. is_untargeted (option_copied o)) c.in-Some.is)
    ∙ untargeted-as c.args.row.now.node_entries.items c.args.node.now (option_copied c.node_entry_at.result) c.node_entry_at.ensures

pub returns-in-None : goal.returns-in-None
returns-in-None c =
    sym (ap (λ o. is_untargeted (option_copied o)) c.in-None.is)
    ∙ untargeted-as c.args.row.now.node_entries.items c.args.node.now (option_copied c.node_entry_at.result) c.node_entry_at.ensures
