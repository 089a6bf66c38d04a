-- By the core's parts, which are what a contract sees of the controller.
use Rattle.std.proofs.Common.{None, map, subst}
use Rattle.csi_controller.specs.Model.Core.{ControllerParts, Shows}
use Rattle.csi_controller.specs.Public.Names.{by_text}
use Rattle.csi_controller.specs.Public.Plan.{controller_plan, controller_parts}
use Rattle.csi_controller.specs.Public.RowsLaw.{ChangesAt}
use Rattle.csi_controller.specs.Public.Raised.{raised}
use Rattle.csi_fence.proofs.RaisedRows.{raised-puts}
use Rattle.csi_controller.proofs.AnswersTold.{changes-none, rows_in, rows-sound}
use Rattle.csi_controller.proofs.RaisedStates.{raised-shown}
use Rattle.csi_controller.proofs.RecordRules.{current-kept}
use Rattle.csi_controller.proofs.controller.Controller.raise.Goals as goal

pub returns-clause-state : goal.returns-clause-state
returns-clause-state c = λ state shown.
    let old = c.self.inside.rows in
    let new = c.raise.new.self in
    let before = controller_parts old.table old.session old.rows.items in
    let after = controller_parts new.table new.session new.rows.items in
    subst (λ (parts : ControllerParts). Shows parts state → Shows after (raised c.args.session state)) c.self.view_is
    (raised-shown c.args.session before after state (rows-sound before (map by_text old.table.ids.entries) old.table.counts old.empty c.self.invariant) c.raise.ensures.kept.fits.below c.raise.ensures.raised) shown

pub returns-clause-current : goal.returns-clause-current
returns-clause-current c =
    let new = c.raise.new.self in
    current-kept new.table.config.nodes (map by_text new.table.ids.entries) new.table.counts new.table.next_id new.session new.rows.items new.empty c.raise.ensures.kept

pub returns-clause-changes : goal.returns-clause-changes
returns-clause-changes c =
    let old = c.self.inside.rows in
    let new = c.raise.new.self in
    let before = controller_parts old.table old.session old.rows.items in
    let after = controller_parts new.table new.session new.rows.items in
    subst (λ (parts : ControllerParts). ChangesAt None (record { session = c.args.session; call = 0 }) parts after) c.self.view_is
    (changes-none (record { session = c.args.session; call = 0 }) before after c.self.invariant.fits.below c.raise.ensures.kept.fits.below
    (raised-puts controller_plan c.args.session (rows_in before) (rows_in after) c.raise.ensures.raised))
