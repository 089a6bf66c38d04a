use Rattle.std.proofs.Common.{refl, sym}
use Rattle.std.proofs.lemmas.Result.{IfOk-weaker}
use Rattle.csi_records.proofs.PartReaders.{read-of, unread-of}
use Rattle.csi_records.proofs.OrchestratorReaders.{orchestrator_head_read}
use Rattle.csi_records.proofs.orchestrator_head.orchestrator_head_of.Goals as goal

pub returns-clause-head : goal.returns-clause-head
returns-clause-head c =
    IfOk-weaker c.head_in.result _ _
    (λ head read. read-of (orchestrator_head_read c.args.version) c.args.part.now 0 c.value_of.result.now (sym c.if-part-ne0.false) c.value_of.ensures refl c.head_in.ensures.bytes _ read)
    c.head_in.ensures.read

pub returns-clause-bad : goal.returns-clause-bad
returns-clause-bad c = λ failed. unread-of (orchestrator_head_read c.args.version) c.args.part.now 0 c.value_of.result.now (sym c.if-part-ne0.false) c.value_of.ensures (c.head_in.ensures.bad failed)
