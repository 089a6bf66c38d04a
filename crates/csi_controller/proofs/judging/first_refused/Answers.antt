-- What is found at a row, and how the walk goes on.
use Rattle.std.proofs.Common.{◌≡◌, ◌∙◌, ◌+◌, ℕ, List, Bool, true, false, sym, subst, arith, ◌||◌, nat_cmp}
use Rattle.std.specs.BTreeSet.{contains_by}
use Rattle.std.specs.Cmp.Lexicographic.{slice_cmp}
use Rattle.std.proofs.lemmas.Bool.{not-false, not-true}
use Rattle.csi_types.specs.Model.Same.{same_text}
use Rattle.csi_controller.proofs.FirstRefused.{SoFar, ends, goes_on, refused-name, refused-rules}
use Rattle.csi_controller.proofs.judging.first_refused.Goals as goal

pub returns-then-not-may_follow : goal.returns-then-not-may_follow
returns-then-not-may_follow c =
    refused-rules c.args.next_id c.args.rows.now c.loop-index.index c.loop-index.last _ c.index-rows-index.result c.loop-index.invariant (omega arith) c.index-rows-index.is
    c.number-id.ensures.limits.from_one (sym c.may_follow.ensures ∙ c.if-not-may_follow.true)

pub returns-then-not-branch : goal.returns-then-not-branch
returns-then-not-branch c =
    let has : List ℕ → Bool = λ name. contains_by (λ known. slice_cmp nat_cmp name known.now) c.loop-index.names in
    refused-name c.args.next_id c.args.rows.now c.loop-index.index c.loop-index.last has c.index-rows-index.result c.loop-index.invariant (omega arith) c.index-rows-index.is
    (subst (λ name. has name ≡ true) c.as_str.ensures.value (not-false (has c.as_str.result.now) (sym c.in_ok-add_name.ensures.is_new ∙ c.if-not-branch.true)))

pub loop-index-preserved : goal.loop-index-preserved
loop-index-preserved c =
    let row = c.index-rows-index.result in
    let has : List ℕ → Bool = λ name. contains_by (λ known. slice_cmp nat_cmp name known.now) c.loop-index.names in
    let now_has : List ℕ → Bool = λ name. contains_by (λ known. slice_cmp nat_cmp name known.now) c.add_name.new.names in
    let absent : has row.name ≡ false = subst (λ name. has name ≡ false) c.as_str.ensures.value (not-true (has c.as_str.result.now) (sym c.in_ok-add_name.ensures.is_new ∙ c.if-not-branch.false)) in
    let adds : (name : List ℕ) → now_has name ≡ (same_text row.name name || has name)
    = λ (name : List ℕ). subst (λ own. now_has name ≡ (same_text own name || has name)) c.as_str.ensures.value (c.in_ok-add_name.ensures.names name) in
    subst (λ last. SoFar c.args.next_id c.args.rows.now (c.loop-index.index + 1) last now_has) (sym c.number-id.ensures.value)
    (goes_on c.args.next_id c.args.rows.now c.loop-index.index c.loop-index.last has now_has row c.loop-index.invariant (omega arith) c.index-rows-index.is
    (sym c.may_follow.ensures ∙ c.if-not-may_follow.false) absent adds)

pub returns : goal.returns
returns c = ends c.args.next_id c.args.rows.now c.loop-index.index c.loop-index.last _ c.loop-index.invariant (omega arith)
