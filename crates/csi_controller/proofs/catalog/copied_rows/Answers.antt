-- One more copy.
use Rattle.std.proofs.Common.{[], ◌∷◌, ◌++◌, List, take, sym, subst}
use Rattle.csi_fence.proofs.JudgedRows.{one-more}
use Rattle.csi_controller.specs.declared.row.ControllerRow.{ControllerRow}
use Rattle.csi_controller.specs.Public.Views.{AreSameRows}
use Rattle.csi_controller.proofs.Copies.{AreSameRows-append}
use Rattle.csi_controller.proofs.catalog.copied_rows.Goals as goal

pub loop-row-preserved : goal.loop-row-preserved
loop-row-preserved c =
    let rows = c.args.rows.now in
    let index = c.loop-row.row-index in
    let row = c.row-item.result in
    let copies = c.loop-row.copies.items in
    subst (λ (l : List ControllerRow). AreSameRows l c.push.new.self.items) (sym (one-more rows index row c.loop-row-test.true c.row-item.is))
    (subst (AreSameRows (take index rows ++ row ∷ [])) (sym c.in_ok-push.ensures.items) (AreSameRows-append (take index rows) copies row c.in_ok-copy.copy c.loop-row.invariant c.in_ok-copy.ensures.cases))
