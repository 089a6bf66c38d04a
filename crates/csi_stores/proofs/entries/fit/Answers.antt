use Rattle.std.proofs.Common.{◌<◌, ◌+◌, length, arith}
use Rattle.std.proofs.lemmas.Bool.Decides.{nat_tests}
use Rattle.csi_stores.specs.Public.Content.{size_of}
use Rattle.csi_stores.specs.Public.Memory.{all_stored}
use Rattle.csi_stores.proofs.EntrySizes.{size-over}
use Rattle.csi_stores.proofs.entries.fit.Goals as goal
use Rattle.csi_stores.proofs.entries.fit.Goals.{then-left-lt8-via-then-left-lt8, then-left-lt8-via-else-left-lt8+then-left-size}

pub returns-then-left-lt8 : goal.returns-then-left-lt8
returns-then-left-lt8 c =
    let few : c.loop-entry.left < 8 + length c.entry-item.result.value.items =
    elim c.then-left-lt8.branch [ then-left-lt8-via-then-left-lt8 w ↦ omega arith | then-left-lt8-via-else-left-lt8+then-left-size w ↦ omega arith ] in
    let over : c.args.limit < size_of (all_stored c.args.entries.now) = size-over c.args.entries.now c.loop-entry.entry-index c.entry-item.result c.loop-entry.left c.args.limit c.loop-entry-test.true c.entry-item.is c.loop-entry.invariant few in
    grind (arith, nat_tests)
