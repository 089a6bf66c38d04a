-- By the rows.
use Rattle.std.proofs.Common.{◌∙◌, map, ap, sym, subst}
use Rattle.std.proofs.lemmas.Result.{IfOk-weaker}
use Rattle.csi_controller.specs.Model.Core.{ControllerParts, Shows}
use Rattle.csi_types.specs.Model.Members.{EachTwo}
use Rattle.csi_controller.specs.Public.Names.{by_text}
use Rattle.csi_controller.specs.Public.Plan.{controller_parts}
use Rattle.csi_controller.specs.Public.Views.{attached_holdings, IsHeldBefore, HasHoldingsOf}
use Rattle.csi_controller.proofs.Attached.{attached-shown, attached-rising}
use Rattle.csi_controller.proofs.RecordRules.{sound-kept}
use Rattle.csi_controller.proofs.controller.Controller.attachments.Goals as goal

pub returns-clause-state : goal.returns-clause-state
returns-clause-state c = λ state shown.
    let kept = c.self.inside.rows in
    let sound = sound-kept kept.table.config.nodes (map by_text kept.table.ids.entries) kept.table.counts kept.table.next_id kept.session kept.rows.items kept.empty c.self.invariant in
    IfOk-weaker c.attachments.result _ _
    (λ all is. subst (HasHoldingsOf state) (sym (is ∙ ap attached_holdings c.as_slice.ensures.value))
    (attached-shown (controller_parts kept.table kept.session kept.rows.items) state sound (subst (λ (k : ControllerParts). Shows k state) (sym c.self.view_is) shown)))
    c.attachments.ensures

pub returns-clause-rising : goal.returns-clause-rising
returns-clause-rising c =
    let kept = c.self.inside.rows in
    let sound = sound-kept kept.table.config.nodes (map by_text kept.table.ids.entries) kept.table.counts kept.table.next_id kept.session kept.rows.items kept.empty c.self.invariant in
    IfOk-weaker c.attachments.result _ _
    (λ all is. subst (EachTwo IsHeldBefore) (sym (is ∙ ap attached_holdings c.as_slice.ensures.value)) (attached-rising kept.rows.items sound.rising))
    c.attachments.ensures
