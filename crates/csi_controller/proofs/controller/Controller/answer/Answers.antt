-- A call with a text outside its limits changes nothing.
use Rattle.std.proofs.Common.{map, subst, sym, ◌∙◌}
use Rattle.std.proofs.lemmas.Bool.{true≢false}
use Rattle.csi_types.specs.Public.Lent.{lent_call, HasFitTexts}
use Rattle.csi_controller.specs.Model.Core.{ControllerParts}
use Rattle.csi_controller.specs.Public.Core.{IsCurrent}
use Rattle.csi_controller.specs.Public.Names.{by_text}
use Rattle.csi_controller.proofs.AnswersTold.{unfit-call}
use Rattle.csi_controller.proofs.RecordRules.{current-kept}
use Rattle.csi_controller.proofs.controller.Controller.answer.Goals as goal

pub returns-then-not-is_within_limits : goal.returns-then-not-is_within_limits
returns-then-not-is_within_limits c =
    let kept = c.self.inside.rows in
    unfit-call (HasFitTexts (lent_call c.args.call.now)) c.args.self.now c.args.number (lent_call c.args.call.now)
    (λ fit. true≢false (sym (c.is_within_limits.ensures.1 fit) ∙ c.if-not-is_within_limits.true))
    (subst (λ (parts : ControllerParts). IsCurrent parts.session parts.rows) c.self.view_is
    (current-kept kept.table.config.nodes (map by_text kept.table.ids.entries) kept.table.counts kept.table.next_id kept.session kept.rows.items kept.empty c.self.invariant))
