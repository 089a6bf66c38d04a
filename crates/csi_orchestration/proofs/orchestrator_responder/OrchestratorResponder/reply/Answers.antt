-- Bytes that aren't one whole frame are refused.
use Rattle.std.proofs.Common.{string_bytes, ◌<◌, length, arith}
use Rattle.std.proofs.lemmas.Bool.Decides.{nat_tests}
use Rattle.csi_orchestration.proofs.OrchestratorResponding.{none-longer, none-faulty, refused-reply}
use Rattle.csi_orchestration.proofs.orchestrator_responder.OrchestratorResponder.reply.Goals as goal

pub returns-then-size-bytes-clause-told : goal.returns-then-size-bytes-clause-told
returns-then-size-bytes-clause-told c =
    let short : c.in-Ok.size < length c.args.bytes.now = let e = c.if-size-bytes.true in grind (arith, nat_tests) in
    refused-reply string_bytes c.args.bytes.now _ _ c.refuse_line.result (none-longer c.args.bytes.now c.in-Ok.frame c.in-Ok.size c.in-Ok.ensures.every_frame short) c.refuse_line.ensures.told

pub returns-in_default-clause-told : goal.returns-in_default-clause-told
returns-in_default-clause-told c =
    refused-reply string_bytes c.args.bytes.now _ _ c.refuse_line-in_default.result (none-faulty c.args.bytes.now c.in-Err.fault c.in-Err.ensures.every_frame c.in_default.not-NoMemory) c.refuse_line-in_default.ensures.told
