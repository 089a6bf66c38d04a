-- What is found at a row, and how the walk goes on.
use Rattle.csi_orchestrator.proofs.Words.{◌≡◌, ◌∙◌, ℕ, List, Bool, true, false, sym, subst, arith, ◌||◌, nat_cmp}
use Rattle.csi_orchestrator.proofs.Words.{contains_by, slice_cmp, same_text}
use Rattle.csi_orchestrator.proofs.Lemmas.{not-false, not-true}
use Rattle.csi_orchestrator.proofs.FirstRefused.{goes_on, refused-name, refused-rules}
use Rattle.csi_orchestrator.proofs.judged_rows.first_refused.Goals as goal

pub returns-then-not-may_follow : goal.returns-then-not-may_follow
returns-then-not-may_follow c =
    refused-rules c.args.nodes.now c.args.rows.now c.loop-index.index _ c.index-rows-index.result c.loop-index.invariant (omega arith) c.index-rows-index.is
    (sym c.may_follow.ensures ∙ c.if-not-may_follow.true)

pub returns-then-not-branch : goal.returns-then-not-branch
returns-then-not-branch c =
    let has : List ℕ → Bool = λ name. contains_by (λ known. slice_cmp nat_cmp name known.now) c.loop-index.names in
    refused-name c.args.nodes.now c.args.rows.now c.loop-index.index has c.index-rows-index.result c.loop-index.invariant (omega arith) c.index-rows-index.is
    (subst (λ name. has name ≡ true) c.as_str.ensures.value (not-false (has c.as_str.result.now) (sym c.in_ok-add_name.ensures.is_new ∙ c.if-not-branch.true)))

pub loop-index-preserved : goal.loop-index-preserved
loop-index-preserved c =
    let row = c.index-rows-index.result in
    let has : List ℕ → Bool = λ name. contains_by (λ known. slice_cmp nat_cmp name known.now) c.loop-index.names in
    let now_has : List ℕ → Bool = λ name. contains_by (λ known. slice_cmp nat_cmp name known.now) c.add_name.new.names in
    let absent : has row.name ≡ false = subst (λ name. has name ≡ false) c.as_str.ensures.value (not-true (has c.as_str.result.now) (sym c.in_ok-add_name.ensures.is_new ∙ c.if-not-branch.false)) in
    let adds : (name : List ℕ) → now_has name ≡ (same_text row.name name || has name)
    = λ (name : List ℕ). subst (λ own. now_has name ≡ (same_text own name || has name)) c.as_str.ensures.value (c.in_ok-add_name.ensures.names name) in
    goes_on c.args.nodes.now c.args.rows.now c.loop-index.index has now_has row c.loop-index.invariant (omega arith) c.index-rows-index.is
    (sym c.may_follow.ensures ∙ c.if-not-may_follow.false) absent adds
