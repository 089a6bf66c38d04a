-- One more that agrees, or the first that doesn't.
use Rattle.std.proofs.Common.{take, sym, subst, arith}
use Rattle.std.specs.List.{AllByRecursion}
use Rattle.csi_types.proofs.Each.{each-append_one}
use Rattle.csi_fence.proofs.JudgedRows.{one-more}
use Rattle.csi_node.specs.Model.Record.{NodeParts, parts}
use Rattle.csi_node.specs.Public.Record.{AreSoundRows}
use Rattle.csi_recovery.specs.Public.Judged.{DoAgree}
use Rattle.csi_recovery.proofs.Given.{next-node, first-broken, all-given}
use Rattle.csi_recovery.proofs.Judged.{agree-more, agree-last}
use Rattle.csi_recovery.proofs.agreeing.first_disagreeing.Goals as goal

pub loop-index-preserved : goal.loop-index-preserved
loop-index-preserved c =
    let given = c.args.given.now in
    let i = c.loop-index.index in
    let kept = c.index-given-index.result in
    record {
      agree = λ state known is are.
          let n = next-node given known i kept are c.loop-index-test.true c.index-given-index.is in
          subst (DoAgree state) (sym n.next) (agree-more state (take i known) n.node (c.loop-index.invariant.agree state known is are) (c.agrees.ensures.yes state n.node is n.is_given c.if-not-agrees.false));
      rules =
          subst (AllByRecursion (λ (k : NodeParts). AreSoundRows (parts k.rows))) (sym (one-more given i kept c.loop-index-test.true c.index-given-index.is))
          (each-append_one (λ (k : NodeParts). AreSoundRows (parts k.rows)) (take i given) kept c.loop-index.invariant.rules c.agrees.ensures.rules);
    }

pub returns-then-not-agrees-clause-agree : goal.returns-then-not-agrees-clause-agree
returns-then-not-agrees-clause-agree c = λ state known is are.
    let n = next-node c.args.given.now known c.loop-index.index c.index-given-index.result are c.loop-index-test.true c.index-given-index.is in
    first-broken (DoAgree state) c.args.given.now known c.loop-index.index are c.loop-index-test.true (c.loop-index.invariant.agree state known is are)
    (λ all. c.agrees.ensures.no state n.node is n.is_given c.if-not-agrees.true (agree-last state (take c.loop-index.index known) n.node (subst (DoAgree state) n.next all)))

pub returns-clause-agree : goal.returns-clause-agree
returns-clause-agree c = λ state known is are.
    subst (DoAgree state) (all-given c.args.given.now known c.loop-index.index are (let over = c.loop-index-test.false in omega (arith, over))) (c.loop-index.invariant.agree state known is are)
