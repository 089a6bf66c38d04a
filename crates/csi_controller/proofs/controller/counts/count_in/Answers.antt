-- One more row is counted, or isn't.
use Rattle.std.proofs.Common.{◌∙◌, ◌+◌, ap, sym, rules}
use Rattle.std.proofs.lemmas.List.Sums.{count_by_more_yes, count_by_more_no}
use Rattle.std.specs.Prelude.{Bool}
use Rattle.csi_controller.specs.declared.row.ControllerRow.{ControllerRow}
use Rattle.csi_controller.specs.Public.Counts.{is_held}
use Rattle.csi_controller.specs.Public.OneRow.{row_shown}
use Rattle.csi_controller.proofs.controller.counts.count_in.Goals as goal
use Rattle.csi_controller.proofs.controller.counts.count_in.Goals.{then-is_held_at, else-is_held_at}

pub loop-row-preserved : goal.loop-row-preserved
loop-row-preserved c =
    let held : ControllerRow → Bool = λ row. is_held c.args.node.now (row_shown row) in
    let rows = c.args.rows.now in
    let i = c.loop-row.row-index in
    let row = c.row-item.result in
    elim c.if-is_held_at.branch [
      | then-is_held_at w ↦ w.count-is ∙ ap (λ n. n + 1) c.loop-row.invariant ∙ sym (count_by_more_yes held rows i row c.loop-row-test.true (ap held (sym c.row-item.is) ∙ search rules))
      | else-is_held_at w ↦ w.count-is ∙ c.loop-row.invariant ∙ sym (count_by_more_no held rows i row c.loop-row-test.true (ap held (sym c.row-item.is) ∙ search rules))
    ]
