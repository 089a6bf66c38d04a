-- One entry more.
use Rattle.std.proofs.Common.{◌∙◌, ◌++◌, ◌∷◌, [], ap, List}
use Rattle.csi_controller.specs.declared.row.NodeHolding.{NodeHolding}
use Rattle.csi_orchestrator.specs.Public.Shown.{node_entry_shown}
use Rattle.csi_recovery.specs.Public.Rebuilding.{maybe_holding, kept_holdings}
use Rattle.csi_recovery.proofs.RebuiltStates.{made-more}
use Rattle.csi_recovery.proofs.rebuilding.holdings.Goals as goal

pub loop-entry-preserved : goal.loop-entry-preserved
loop-entry-preserved c =
    let entry = c.entry-item.result in
    c.in_ok-add_holding.ensures ∙ ap (λ (l : List NodeHolding). l ++ kept_holdings (node_entry_shown entry ∷ [])) c.loop-entry.invariant
    ∙ made-more node_entry_shown maybe_holding c.args.entries.now c.loop-entry.entry-index entry c.loop-entry-test.true c.entry-item.is
