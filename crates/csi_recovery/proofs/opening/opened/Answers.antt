-- What is opened of the record in the session before.
use Rattle.std.proofs.Common.{◌≡◌, List, ℕ, subst}
use Rattle.csi_orchestrator.specs.Public.Laws.{opened_parts}
use Rattle.csi_recovery.proofs.OpenedAgain.{opened-in}
use Rattle.csi_recovery.proofs.opening.opened.Goals as goal

pub returns-in-Ok-from_record-clause-value : goal.returns-in-Ok-from_record-clause-value
returns-in-Ok-from_record-clause-value c = λ state known is are.
    opened-in c.args.nodes.items c.args.session c.before-2.result state known c.in-Ok.kept c.in-Ok-from_record.made c.before-2.ensures (c.in-Ok.ensures.may state known is are) (c.in-Ok.ensures.value state known is are)
    (subst (λ (nodes : List (List ℕ)). c.in-Ok-from_record.made ≡ opened_parts c.in-Ok.kept nodes) c.requires c.in-Ok-from_record.ensures.value)
