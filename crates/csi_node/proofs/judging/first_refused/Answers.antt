-- What is found at a row, and how the walk goes on.
use Rattle.std.proofs.Common.{◌∙◌, ◌+◌, sym, subst, arith}
use Rattle.csi_node.proofs.FirstRefused.{SoFar, ends, goes_on, refused-there}
use Rattle.csi_node.proofs.judging.first_refused.Goals as goal

pub returns-then-not-may_follow : goal.returns-then-not-may_follow
returns-then-not-may_follow c =
    refused-there c.args.session c.args.rows.now c.loop-index.index c.loop-index.last c.index-rows-index.result c.loop-index.invariant (omega arith) c.index-rows-index.is
    c.number-id.ensures.limits.from_one (sym c.may_follow.ensures ∙ c.if-not-may_follow.true)

pub loop-index-preserved : goal.loop-index-preserved
loop-index-preserved c =
    subst (λ last. SoFar c.args.session c.args.rows.now (c.loop-index.index + 1) last) (sym c.number-id.ensures.value)
    (goes_on c.args.session c.args.rows.now c.loop-index.index c.loop-index.last c.index-rows-index.result c.loop-index.invariant (omega arith) c.index-rows-index.is
    (sym c.may_follow.ensures ∙ c.if-not-may_follow.false))

pub returns : goal.returns
returns c = ends c.args.session c.args.rows.now c.loop-index.index c.loop-index.last c.loop-index.invariant (omega arith)
