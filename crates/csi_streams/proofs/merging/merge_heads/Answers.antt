use Rattle.std.proofs.Common.{◌≡◌, inl, inr, sym, ◌∙◌, ap, true, arith, ◌-◌}
use Rattle.std.proofs.lemmas.List.{get_or_default}
use Rattle.csi_stores.specs.declared.part.Part.{Part}
use Rattle.csi_streams.proofs.IdleParts.{merged-first, merged-stays, merged-out}
use Rattle.csi_streams.proofs.merging.merge_heads.Goals as goal

-- src/merging.rt:18:5
pub loop-at-init : goal.loop-at-init
loop-at-init c = merged-first c.args.parts.now.items c.len-at.result (c.len-at.ensures ∙ c.args.parts.now.ok.0)

-- src/merging.rt:18:21
pub index-requires : goal.index-requires
index-requires c = omega (arith, c.loop-at.invariant.few, c.loop-at-test.true)

-- src/merging.rt:20:12
pub index-requires-in-loop-at : goal.index-requires-in-loop-at
index-requires-in-loop-at c = omega (arith, c.loop-at.invariant.few, c.loop-at-test.true)

-- src/merging.rt:22:17
pub remove-requires : goal.remove-requires
remove-requires c = omega (arith, c.loop-at.invariant.few, c.loop-at-test.true)

-- src/merging.rt:18:5
pub loop-at-preserved-then-is_there : goal.loop-at-preserved-then-is_there
loop-at-preserved-then-is_there c =
    let same : c.index-in-loop-at.result.now ≡ c.index.result.now = c.index-in-loop-at.ensures ∙ get_or_default c.loop-at.parts.items (c.loop-at.at - 1) c.index-in-loop-at.result.now c.index.result.now (omega (arith, c.loop-at.invariant.few, c.loop-at-test.true)) ∙ sym c.index.ensures in
    merged-out _ c.loop-at.parts.items c.remove.new.self.items c.loop-at.at c.loop-at.is_there c.index.result.now c.loop-at.invariant c.if-is_there.true c.loop-at-test.true c.index.ensures (sym c.is_some.ensures ∙ c.if-is_some.true) (ap (λ (part : Part). part.key) (sym same) ∙ c.if-index-eq-HEAD.true) c.remove.ensures.by_index.2

-- src/merging.rt:18:5
pub loop-at-preserved-else-is_there : goal.loop-at-preserved-else-is_there
loop-at-preserved-else-is_there c =
    let same : c.index-in-loop-at.result.now ≡ c.index.result.now = c.index-in-loop-at.ensures ∙ get_or_default c.loop-at.parts.items (c.loop-at.at - 1) c.index-in-loop-at.result.now c.index.result.now (omega (arith, c.loop-at.invariant.few, c.loop-at-test.true)) ∙ sym c.index.ensures in
    merged-stays _ c.loop-at.parts.items c.loop-at.at c.loop-at.is_there true c.index.result.now c.loop-at.invariant c.loop-at-test.true c.index.ensures (sym c.is_some.ensures ∙ c.if-is_some.true) (λ t. inl (ap (λ (part : Part). part.key) (sym same) ∙ c.if-index-eq-HEAD.true))

-- src/merging.rt:18:5
pub loop-at-preserved : goal.loop-at-preserved
loop-at-preserved c = merged-stays _ c.loop-at.parts.items c.loop-at.at c.loop-at.is_there c.loop-at.is_there c.index.result.now c.loop-at.invariant c.loop-at-test.true c.index.ensures (sym c.is_some.ensures ∙ c.if-is_some.true) (λ t. inr t)

-- src/merging.rt:13:1
pub returns-else-is_some : goal.returns-else-is_some
returns-else-is_some c = c.loop-at.invariant.same

-- src/merging.rt:13:1
pub returns-after-loop-at : goal.returns-after-loop-at
returns-after-loop-at c = c.loop-at.invariant.same
