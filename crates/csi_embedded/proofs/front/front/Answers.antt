use Rattle.std.proofs.Common.{sym, arith}
use Rattle.std.proofs.lemmas.List.{length-take-le, take_all}
use Rattle.csi_embedded.proofs.front.front.Goals as goal

pub slice_bounds-result-end : goal.slice_bounds-result-end
slice_bounds-result-end c = sym (length-take-le 1284 c.args.bytes.now (omega (arith, c.if-bytes-gt-MOST.true)))

pub returns-else-bytes-gt-MOST : goal.returns-else-bytes-gt-MOST
returns-else-bytes-gt-MOST c = sym (take_all 1284 c.args.bytes.now (omega (arith, c.if-bytes-gt-MOST.false)))
