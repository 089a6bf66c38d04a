-- The walk goes on behind an entry of another node.
use Rattle.csi_orchestrator.proofs.Words.{sym, ◌∙◌, ap, arith, drop, ◌+◌, ◌&&◌, is_use_on_the_way}
use Rattle.csi_orchestrator.proofs.WalksOn.{use-walks}
use Rattle.csi_orchestrator.proofs.judging.is_use_on_the_way.Goals as goal

pub returns-then-not-is_resting : goal.returns-then-not-is_resting
returns-then-not-is_resting c =
    let walks = use-walks c.args.usage.now c.args.entries.now c.loop-place.place c.index-entries-place.result (omega arith) c.index-entries-place.is (sym c.eq.ensures ∙ c.if-eq.false) in
    sym (ap (λ b. b && is_use_on_the_way c.args.usage.now (drop (c.loop-place.place + 1) c.args.entries.now)) (sym c.is_resting.ensures ∙ c.if-not-is_resting.true)) ∙ sym walks ∙ c.loop-place.invariant

pub loop-place-preserved : goal.loop-place-preserved
loop-place-preserved c =
    let walks = use-walks c.args.usage.now c.args.entries.now c.loop-place.place c.index-entries-place.result (omega arith) c.index-entries-place.is (sym c.eq.ensures ∙ c.if-eq.false) in
    sym (ap (λ b. b && is_use_on_the_way c.args.usage.now (drop (c.loop-place.place + 1) c.args.entries.now)) (sym c.is_resting.ensures ∙ c.if-not-is_resting.false)) ∙ sym walks ∙ c.loop-place.invariant
