-- Nothing, or how it is held.
use Rattle.std.proofs.Common.{◌∙◌, sym}
use Rattle.csi_orchestrator.specs.Public.Shown.{node_entry_shown}
use Rattle.csi_recovery.proofs.RebuiltStates.{added-none, added-some}
use Rattle.csi_recovery.proofs.rebuilding.add_holding.Goals as goal

pub returns-then-not-may_be : goal.returns-then-not-may_be
returns-then-not-may_be c = added-none _ (node_entry_shown c.args.entry.now) (sym c.may_be.ensures ∙ c.if-not-may_be.true)

pub returns : goal.returns
returns c = added-some _ _ (node_entry_shown c.args.entry.now) _ (sym c.may_be.ensures ∙ c.if-not-may_be.false) c.in_ok-push.ensures.items c.in_ok-held.ensures
