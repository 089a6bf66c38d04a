use Rattle.std.proofs.Common.{◌≡◌, ◌≤◌, ◌++◌, [], ◌∷◌, length, arith}
use Rattle.std.proofs.lemmas.List.{length-append}
use Rattle.csi_frames.specs.Public.Bytes.{AreBytes}
use Rattle.csi_embedded.proofs.SpelledCapabilities.{some-left, one-more, too-many, some-none}
use Rattle.csi_embedded.proofs.capabilities.capabilities_of.Goals as goal

pub returns-in-Err-clause-none : goal.returns-in-Err-clause-none
returns-in-Err-clause-none c =
    some-none c.args.bytes.now c.loop.list.items c.loop.fields.bytes.now c.in-Err.ending c.loop.invariant.so_far (some-left _ c.is_empty.result c.is_empty.ensures c.if-is_empty.false) c.in-Err.ensures.none

pub loop-preserved : goal.loop-preserved
loop-preserved c =
    let fits : AreBytes c.args.bytes.now = λ i. omega (arith, c.type_inv.bytes i) in
    let pushed : c.push.new.self.items ≡ c.loop.list.items ++ c.in-Ok.one ∷ [] = c.in-Ok-push.ensures.items in
    record {
      many = rw pushed (omega (arith, length-append c.loop.list.items (c.in-Ok.one ∷ []), c.loop.invariant.many));
      so_far = rw pushed (one-more c.args.bytes.now c.loop.list.items c.loop.fields.bytes.now c.front.new.fields.bytes.now c.in-Ok.one fits c.loop.invariant.so_far c.in-Ok.ensures.read);
    }

pub returns-then-not-is_empty-clause-none : goal.returns-then-not-is_empty-clause-none
returns-then-not-is_empty-clause-none c =
    let many : 8 ≤ length c.loop.list.items = omega (arith, c.loop.invariant.many) in
    too-many c.args.bytes.now c.loop.list.items c.loop.fields.bytes.now c.loop.invariant.so_far many (some-left _ c.is_empty-2.result c.is_empty-2.ensures c.if-not-is_empty.true)
