-- One more node has its count.
use Rattle.std.proofs.Common.{◌≡◌, ◌∙◌, ℕ, List, subst, arith}
use Rattle.std.proofs.lemmas.List.{length-set}
use Rattle.std.specs.Prelude.{map}
use Rattle.csi_controller.specs.Public.Counts.{count_held, is_held}
use Rattle.csi_controller.specs.Public.OneRow.{row_shown}
use Rattle.csi_controller.proofs.Counts.{counted-more, all-counted, count-shown}
use Rattle.csi_controller.proofs.controller.counts.counted.Goals as goal

pub loop-place-preserved : goal.loop-place-preserved
loop-place-preserved c =
    let at = c.loop-place in
    let long = at.invariant.0 in
    let few = c.requires.few in
    let turn = c.loop-place-test.true in
    (length-set at.counts at.place c.count_in.result ∙ long, counted-more c.args.nodes.now (map row_shown c.args.rows.now) at.counts at.place c.index-nodes-place.result c.count_in.result (omega (arith, long, few, turn)) c.index-nodes-place.is (subst (λ (node : List ℕ). c.count_in.result ≡ count_held node (map row_shown c.args.rows.now)) c.as_str.ensures.value (c.count_in.ensures ∙ count-shown (is_held c.as_str.result.now) row_shown c.args.rows.now)) at.invariant.1)

pub returns : goal.returns
returns c =
    let at = c.loop-place in
    all-counted c.args.nodes.now (map row_shown c.args.rows.now) at.counts at.place c.requires.few c.requires.distinct at.invariant.0 c.loop-place-test.false at.invariant.1
