-- The call is noted, and is the last one then.
use Rattle.csi_orchestrator.proofs.Words.{ap, arith, outgoing_call_number}
use Rattle.csi_orchestrator.proofs.state.OrchestratorCore.issue.Goals as goal

pub returns-in-Some-clause-filed : goal.returns-in-Some-clause-filed
returns-in-Some-clause-filed c =
    let next = c.requires.after c.in-Some.next.number.call (ap outgoing_call_number c.in-Some.is) in
    record { indexed = c.note.ensures.indexed; known = c.note.ensures.known c.args.self.now.last.call c.requires.known (omega (arith, next)) }
