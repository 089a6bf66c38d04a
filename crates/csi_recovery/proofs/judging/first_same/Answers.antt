-- One more of another node, or the first of one that was there.
use Rattle.std.proofs.Common.{◌≡◌, ℕ, List, true, false, take, sym, ◌∙◌, subst, arith}
use Rattle.std.specs.List.{list_any}
use Rattle.csi_types.specs.Model.Same.{same_text}
use Rattle.csi_node.specs.Model.Record.{NodeParts}
use Rattle.csi_recovery.specs.Public.Judged.{HaveDistinctNodes}
use Rattle.csi_recovery.proofs.Given.{next-node, first-broken, all-given, given-take}
use Rattle.csi_recovery.proofs.Judged.{distinct-more, distinct-broken}
use Rattle.csi_recovery.proofs.judging.first_same.Goals as goal

pub loop-index-preserved : goal.loop-index-preserved
loop-index-preserved c = λ known are.
    let given = c.args.given.now in
    let i = c.loop-index.index in
    let kept = c.index-given-index.result in
    let n = next-node given known i kept are c.loop-index-test.true c.index-given-index.is in
    let none : list_any (λ (k : NodeParts). same_text k.id kept.id) (take i given) ≡ false =
    subst (λ (id : List ℕ). list_any (λ (k : NodeParts). same_text k.id id) (take i given) ≡ false) c.id.ensures (sym c.has_record.ensures ∙ c.if-has_record.false) in
    subst HaveDistinctNodes (sym n.next) (distinct-more (take i given) (take i known) kept n.node (given-take given known i are) n.is_given none (c.loop-index.invariant known are))

pub returns-then-has_record : goal.returns-then-has_record
returns-then-has_record c = λ known are.
    let given = c.args.given.now in
    let i = c.loop-index.index in
    let kept = c.index-given-index.result in
    let n = next-node given known i kept are c.loop-index-test.true c.index-given-index.is in
    let some : list_any (λ (k : NodeParts). same_text k.id kept.id) (take i given) ≡ true =
    subst (λ (id : List ℕ). list_any (λ (k : NodeParts). same_text k.id id) (take i given) ≡ true) c.id.ensures (sym c.has_record.ensures ∙ c.if-has_record.true) in
    first-broken HaveDistinctNodes given known i are c.loop-index-test.true (c.loop-index.invariant known are)
    (λ all. distinct-broken (take i given) (take i known) kept n.node (given-take given known i are) n.is_given some (subst HaveDistinctNodes n.next all))

pub returns : goal.returns
returns c = λ known are. subst HaveDistinctNodes (all-given c.args.given.now known c.loop-index.index are (let over = c.loop-index-test.false in omega (arith, over))) (c.loop-index.invariant known are)
