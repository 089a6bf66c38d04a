-- One row more.
use Rattle.std.proofs.Common.{◌∙◌, ◌++◌, [], ap, List}
use Rattle.std.specs.List.{cons_option}
use Rattle.csi_controller.specs.declared.row.NodeHolding.{NodeHolding}
use Rattle.csi_controller.specs.Model.State.{Volume}
use Rattle.csi_orchestrator.specs.Public.Shown.{row_shown}
use Rattle.csi_recovery.specs.Public.Rebuilding.{row_made}
use Rattle.csi_recovery.proofs.RebuiltStates.{made-more}
use Rattle.csi_recovery.proofs.rebuilding.volumes.Goals as goal

pub loop-row-preserved : goal.loop-row-preserved
loop-row-preserved c =
    let row = c.row-item.result in
    c.in_ok-add_volume.ensures ∙ ap (λ (l : List (Volume × List NodeHolding)). l ++ cons_option (row_made (row_shown row)) []) c.loop-row.invariant
    ∙ made-more row_shown row_made c.args.rows.now c.loop-row.row-index row c.loop-row-test.true c.row-item.is
