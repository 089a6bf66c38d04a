-- What is opened keeps what its type keeps.
use Rattle.csi_orchestrator.proofs.Words.{◌≡◌, ◌∙◌, ◌+◌, ℕ, List, None, map, sym, ap, subst, RowShown, remembered}
use Rattle.csi_orchestrator.proofs.Words.{restart_refusal, orchestrator_parts_shown, opened_parts, row_shown}
use Rattle.csi_orchestrator.proofs.Words.{AreSoundParts}
use Rattle.csi_orchestrator.proofs.Opened.{opened}
use Rattle.csi_orchestrator.proofs.orchestrator.Orchestrator.from_record.Goals as goal

pub invariant_of-result : goal.invariant_of-result
invariant_of-result c =
    let kept = c.args.kept in
    let nodes = c.args.nodes.items in
    let next : c.in-Ok.session ≡ kept.session + 1 = c.in-Ok.ensures.next ∙ ap (λ s. s + 1) c.session.ensures in
    let unrefused : restart_refusal kept.session kept.nodes nodes kept.rows ≡ None
    = subst (λ (rows : List RowShown). restart_refusal kept.session kept.nodes nodes rows ≡ None) c.rows.ensures.value
    (subst (λ (ns : List (List ℕ)). restart_refusal kept.session kept.nodes ns (map row_shown c.rows.result.now) ≡ None) c.as_slice.ensures.value
    (subst (λ (ns : List (List ℕ)). restart_refusal kept.session ns c.as_slice.result.now (map row_shown c.rows.result.now) ≡ None) c.nodes.ensures.value
    (subst (λ s. restart_refusal s c.nodes.result.now c.as_slice.result.now (map row_shown c.rows.result.now) ≡ None) c.session.ensures c.in-Ok.ensures.ok))) in
    let parts : orchestrator_parts_shown c.opened.result ≡ opened_parts kept nodes
    = c.opened.ensures.parts ∙ (λ i. record { nodes = nodes; last = record { session = next i; call = 0 }; rows = remembered kept.rows }) in
    (subst AreSoundParts (sym parts) (opened kept nodes c.opened.ensures.kept unrefused), c.opened.ensures.filed)
