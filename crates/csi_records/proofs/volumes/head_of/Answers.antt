use Rattle.std.proofs.Common.{refl, sym}
use Rattle.csi_records.proofs.PartReaders.{controller_head_read, read-of, unread-of}
use Rattle.csi_records.proofs.volumes.head_of.Goals as goal

pub returns-in-Ok-clause-head : goal.returns-in-Ok-clause-head
returns-in-Ok-clause-head c =
    read-of (controller_head_read c.args.version) c.args.part.now 0 c.value_of.result.now (sym c.if-part-ne0.false) c.value_of.ensures refl c.in-Ok.ensures.bytes _ c.in-Ok.ensures.read

pub returns-in-Err-clause-none : goal.returns-in-Err-clause-none
returns-in-Err-clause-none c = λ none. unread-of (controller_head_read c.args.version) c.args.part.now 0 c.value_of.result.now (sym c.if-part-ne0.false) c.value_of.ensures c.in-Err.ensures.bad
