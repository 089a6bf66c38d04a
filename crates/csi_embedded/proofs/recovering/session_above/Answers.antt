use Rattle.std.proofs.Common.{◌≡◌, List, sym, subst}
use Rattle.std.specs.Prelude.{Some, None}
use Rattle.csi_node.specs.Model.Record.{NodeParts}
use Rattle.csi_recovery.specs.Public.Judged.{AreGiven}
use Rattle.csi_recovery.specs.Public.Session.{recovery_session}
use Rattle.csi_embedded.specs.Public.Recovering.{had_by}
use Rattle.csi_embedded.proofs.MadeOfRecords.{of-these, no-controller-told, no-nodes-told}
use Rattle.csi_embedded.proofs.recovering.session_above.Goals as goal

pub returns-in-Err-clause-told : goal.returns-in-Err-clause-told
returns-in-Err-clause-told c = no-controller-told c.args.known c.args.controller.now.held.embedded (had_by c.args.nodes.now) c.args.session.now c.in-Err.ending c.in-Err.ensures.none

pub returns-in-Err-node_records-clause-told : goal.returns-in-Err-node_records-clause-told
returns-in-Err-node_records-clause-told c =
    no-nodes-told c.args.known c.args.controller.now.held.embedded (had_by c.args.nodes.now) c.args.session.now c.in-Err-node_records.ending c.in-Err-node_records.ensures.none

pub returns-in-Some-clause-told : goal.returns-in-Some-clause-told
returns-in-Some-clause-told c =
    of-these c.args.controller.now.held.embedded (had_by c.args.nodes.now) c.in-Ok.kept c.in-Ok-node_records.given.items (λ state known. recovery_session c.args.known state known ≡ Some c.in-Some.above)
    c.in-Ok.ensures.kept c.in-Ok-node_records.ensures.kept (λ state known of are. sym (c.in-Some.ensures.value state known of (subst (λ (given : List NodeParts). AreGiven given known) (sym c.deref.ensures.value) are)))

pub returns-clause-told : goal.returns-clause-told
returns-clause-told c =
    of-these c.args.controller.now.held.embedded (had_by c.args.nodes.now) c.in-Ok.kept c.in-Ok-node_records.given.items (λ state known. recovery_session c.args.known state known ≡ None)
    c.in-Ok.ensures.kept c.in-Ok-node_records.ensures.kept (λ state known of are. sym (c.in-None.ensures.value state known of (subst (λ (given : List NodeParts). AreGiven given known) (sym c.deref.ensures.value) are)))
