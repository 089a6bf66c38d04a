use Rattle.std.proofs.Common.{◌≡◌, ◌++◌, ◌∷◌, [], ℕ, map, subst}
use Rattle.csi_stores.specs.Public.Part.{part_change, take_all}
use Rattle.csi_records.proofs.WritingPieces.{one_more_taken}
use Rattle.csi_records.proofs.removals.push_removals.Goals as goal

pub loop-id-preserved : goal.loop-id-preserved
loop-id-preserved c =
    let one = subst (λ (key : ℕ). map part_change c.push_removal.new.parts.items ≡ map part_change c.loop-id.parts.items ++ take_all (key ∷ [])) c.number.ensures.value c.in_ok-push_removal.ensures.ok in
    one_more_taken c.args.ids.now c.loop-id.id-index c.id-item.result _ _ _ c.loop-id-test.true c.id-item.is c.loop-id.invariant one
