use Rattle.std.proofs.Common.{ap, arith}
use Rattle.std.specs.Prelude.{is_some}
use Rattle.csi_types.specs.Public.Spelled.{list_in}
use Rattle.csi_frames.proofs.SpelledLists.{judged-split}
use Rattle.csi_frames.proofs.calls.judged.Goals as goal

pub invariant_of-result : goal.invariant_of-result
invariant_of-result c =
    let r = c.requires.read in
    record { few = c.requires.few; read = ap is_some (judged-split r.0 r.1 c.args.count c.args.bytes.now r.2 r.3 (λ i. omega (arith, c.type_inv.bytes i)) r.4) }

pub returns : goal.returns
returns c = λ version owed list rest read. ap list_in (judged-split version owed c.args.count c.args.bytes.now list rest (λ i. omega (arith, c.type_inv.bytes i)) read)
