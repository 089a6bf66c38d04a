-- Those that go were deleted, and are held nowhere.
use Rattle.std.proofs.Common.{map, sym, subst, List, ℕ}
use Rattle.std.specs.Prelude.{filter}
use Rattle.csi_fence.specs.Public.Rows.{stays_in}
use Rattle.csi_controller.specs.Public.Names.{by_text}
use Rattle.csi_controller.specs.Public.OneRow.{row_shown}
use Rattle.csi_controller.specs.Public.Plan.{Fits, controller_plan}
use Rattle.csi_controller.proofs.ControllerPlan.{fits-left, gone-dead}
use Rattle.csi_controller.proofs.table.ControllerTableTable.leave.Goals as goal

pub returns-clause-agrees : goal.returns-clause-agrees
returns-clause-agrees c =
    let table = c.args.self.now in
    let rows = map row_shown c.args.rows.now in
    let stays = stays_in controller_plan c.args.session in
    subst (λ (names : List (List ℕ × ℕ)). Fits table.config.nodes names table.counts table.next_id (filter stays rows)) (sym c.forget_names.ensures.names)
    (fits-left table.config.nodes (map by_text table.ids.entries) table.counts table.next_id rows stays c.requires.agrees (gone-dead c.args.session))
