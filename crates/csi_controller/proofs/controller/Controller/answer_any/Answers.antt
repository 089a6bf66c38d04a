-- By the rows, which answer behind the fence; a call for a node is none of theirs.
use Rattle.std.proofs.Common.{◌≡◌, map, sym, subst, false, rules}
use Rattle.std.specs.Prelude.{IsTrue}
use Rattle.csi_types.specs.declared.call.Party.TheVariants.{Controller}
use Rattle.csi_types.specs.Model.Call.{kind_of}
use Rattle.csi_types.specs.Public.Call.{is_party_of}
use Rattle.csi_types.specs.Public.Lent.{lent_call}
use Rattle.csi_controller.specs.Model.Core.{ControllerParts}
use Rattle.csi_controller.specs.Public.Answers.{AnswersCall}
use Rattle.csi_controller.specs.Public.Core.{IsCurrent}
use Rattle.csi_controller.specs.Public.Names.{by_text}
use Rattle.csi_controller.specs.Public.Plan.{controller_parts, fits_table}
use Rattle.csi_controller.proofs.AnswersTold.{AnswersOwn, other-call, own-call, own-refused, own-answers, rows-sound}
use Rattle.csi_controller.proofs.RecordRules.{current-kept}
use Rattle.csi_controller.proofs.controller.Controller.answer_any.Goals as goal
use Rattle.csi_controller.proofs.controller.Controller.answer_any.Goals.{in-Ok, in-Err}

pub returns-in_default : goal.returns-in_default
returns-in_default c =
    let kept = c.self.inside.rows in
    let other : is_party_of (kind_of (lent_call c.args.call.now)) Controller ≡ false = search rules in
    other-call c.args.self.now c.args.number (lent_call c.args.call.now) other
    (subst (λ (parts : ControllerParts). IsCurrent parts.session parts.rows) c.self.view_is
    (current-kept kept.table.config.nodes (map by_text kept.table.ids.entries) kept.table.counts kept.table.next_id kept.session kept.rows.items kept.empty c.self.invariant))

pub returns-after-answer : goal.returns-after-answer
returns-after-answer c =
    let old = c.self.inside.rows in
    let new = c.answer.new.self in
    let before = controller_parts old.table old.session old.rows.items in
    let after = controller_parts new.table new.session new.rows.items in
    let call = lent_call c.args.call.now in
    let own : IsTrue (is_party_of (kind_of (lent_call c.args.call.now)) Controller) = search rules in
    let current = current-kept new.table.config.nodes (map by_text new.table.ids.entries) new.table.counts new.table.next_id new.session new.rows.items new.empty c.answer.ensures.answers.kept in
    let answers = own-answers before after c.args.number call (fits_table new.table) new.empty c.answer.result own
    (rows-sound before (map by_text old.table.ids.entries) old.table.counts old.empty c.self.invariant) c.answer.ensures.fixed c.self.invariant.fits.below c.answer.ensures.answers.kept.fits.below c.answer.ensures.answers in
    subst (λ (parts : ControllerParts). AnswersCall (Unit {0}) parts after c.args.number call c.match-answer.result) c.self.view_is
    (elim c.match-answer.branch [
      | in-Ok w ↦ subst (AnswersCall (Unit {0}) before after c.args.number call) (sym w.result-is) (own-call before after c.args.number call w.in-Ok.field-0 own current (subst (AnswersOwn before after c.args.number call) w.in-Ok.is answers))
      | in-Err w ↦ subst (AnswersCall (Unit {0}) before after c.args.number call) (sym w.result-is) (own-refused before after c.args.number call w.in-Err.fault own current (subst (AnswersOwn before after c.args.number call) w.in-Err.is answers))
    ])
