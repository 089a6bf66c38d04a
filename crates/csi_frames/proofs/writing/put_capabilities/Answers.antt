use Rattle.std.proofs.Common.{◌+◌, ◌≤◌, length, take, arith}
use Rattle.std.specs.List.{flat_map}
use Rattle.csi_frames.specs.Public.Spelling.{capability}
use Rattle.std.proofs.lemmas.List.Folds.{length-flat_map-take}
use Rattle.csi_frames.proofs.writing.put_capabilities.Goals as goal

pub unwrap-requires : goal.unwrap-requires
unwrap-requires c =
    let one = c.one-item.result in
    let next : length (flat_map capability (take c.loop-one.one-index c.args.from.now)) + length (capability one) ≤ length (flat_map capability c.args.from.now) = rw c.one-item.is (length-flat_map-take capability c.args.from.now c.loop-one.one-index one c.loop-one-test.true) in
    c.append_capability.ensures.spare (omega (arith, next, c.loop-one.invariant.len, c.loop-one.invariant.capacity))
