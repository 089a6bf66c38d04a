-- Those that `retain` keeps.
use Rattle.std.proofs.Common.{◌∙◌, List, map, ap, rules, sym, subst}
use Rattle.std.proofs.lemmas.Fn.{filter_same}
use Rattle.csi_fence.specs.Public.Rows.{AreRising, stays_in}
use Rattle.std.specs.Prelude.{filter}
use Rattle.csi_controller.specs.declared.row.ControllerRow.{ControllerRow}
use Rattle.csi_controller.specs.Public.Names.{by_name}
use Rattle.csi_controller.specs.Public.OneRow.{row_shown}
use Rattle.csi_controller.specs.Public.Plan.{controller_plan}
use Rattle.csi_controller.proofs.RecordRules.{rises-shown, stays-shown}
use Rattle.csi_controller.proofs.catalog.Catalog.forget.Goals as goal

pub forget_names-requires-clause-rising : goal.forget_names-requires-clause-rising
forget_names-requires-clause-rising c =
    subst (λ (rows : List ControllerRow). AreRising controller_plan.id (map row_shown rows)) (sym c.as_slice.ensures.value) (rises-shown c.args.self.now.rows.items c.requires.rising)

pub returns-clause-rows : goal.returns-clause-rows
returns-clause-rows c = filter_same _ _ _ (λ x b f' k. search rules) _ _ c.retain.ensures.filtered

pub returns-clause-indexed : goal.returns-clause-indexed
returns-clause-indexed c =
    let rows = c.args.self.now.rows.items in
    c.forget_names.ensures.names
    ∙ ap (λ (l : List ControllerRow). map by_name (filter (stays_in controller_plan c.args.session) (map row_shown l))) c.as_slice.ensures.value
    ∙ ap (map by_name) (stays-shown c.args.session rows ∙ ap (map row_shown) (sym (filter_same _ _ _ (λ x b f' k. search rules) _ _ c.retain.ensures.filtered)))
