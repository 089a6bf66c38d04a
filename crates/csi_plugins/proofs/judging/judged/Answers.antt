-- What is made of the records in the session of the recovery, or why nothing is.
use Rattle.std.proofs.Common.{◌∙◌, ap, sym, subst, List, ℕ, Some}
use Rattle.csi_orchestrator.specs.Public.Record.{RecordParts}
use Rattle.csi_recovery.specs.Public.Recovered.{recovered, MayRecover}
use Rattle.csi_recovery.specs.Public.Judged.{record_of}
use Rattle.csi_plugins.specs.Public.Recovering.{leave_out_used}
use Rattle.csi_plugins.proofs.Refusing.{refused-by}
use Rattle.csi_plugins.proofs.judging.judged.Goals as goal

pub returns-in-Ok-clause-made : goal.returns-in-Ok-clause-made
returns-in-Ok-clause-made c =
    let nodes = c.args.nodes.items in
    let told = c.in-Ok.ensures in
    record {
      session_is = λ state gs is are. sym (c.in-Some.ensures.value state gs is are) ∙ ap Some (sym (ap (λ (r : RecordParts). r.session) (told.value state gs is are)));
      may = λ state gs is are. subst (λ (s : ℕ). MayRecover nodes s state gs) (sym (ap (λ (r : RecordParts). r.session) (told.value state gs is are))) (told.may state gs is are);
      is = λ state gs is are. told.value state gs is are ∙ ap (λ (s : ℕ). record_of (recovered nodes s state gs)) (sym (ap (λ (r : RecordParts). r.session) (told.value state gs is are)));
    }

pub returns-in-Err-clause-refused : goal.returns-in-Err-clause-refused
returns-in-Err-clause-refused c = λ state gs is are.
    let nodes = c.args.nodes.items in
    let given = c.args.given.now in
    refused-by nodes c.args.known given state gs are c.in-Some.session (sym (c.in-Some.ensures.value state gs is are)) (c.in-Some.ensures.later state gs is are) c.leave_out_used-leaves_out.result
    (sym (c.leave_out_used-leaves_out.ensures ∙ ap (λ (ns : List (List ℕ)). leave_out_used ns given) c.deref.ensures.value)) c.in-Err.fault (c.in-Err.ensures.refused state gs is are) c.ending_of_recovery.result c.ending_of_recovery.ensures
