-- At the place of the row whose call it answers.
use Rattle.std.proofs.Common.{◌∙◌, sym}
use Rattle.csi_orchestrator.proofs.StaleReplies.{rows-say}
use Rattle.csi_orchestrator.proofs.state.OrchestratorCore.is_told_stale.Goals as goal

pub returns-then-is_stale : goal.returns-then-is_stale
returns-then-is_stale c =
    rows-say c.args.self.now c.args.frame.now c.number.result c.party.result.now c.in-Reply.kind c.in-Reply.reply c.index_replied.result c.is_some.result
    c.number.ensures c.party.ensures (sym c.body.ensures.value ∙ c.in-Reply.is) c.index_replied.ensures.index c.is_some.ensures (sym c.is_stale.ensures ∙ c.if-is_stale.true)
