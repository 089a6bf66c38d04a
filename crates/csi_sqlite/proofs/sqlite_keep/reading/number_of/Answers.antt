use Rattle.std.proofs.Common.{ap, ◌∙◌, arith}
use Rattle.byteorder.specs.Endian.{big_bytes}
use Rattle.csi_frames.proofs.Bytes.{word-back}
use Rattle.csi_sqlite.proofs.sqlite_keep.reading.number_of.Goals as goal

pub returns : goal.returns
returns c = ap (big_bytes 8) c.read_u64.ensures ∙ word-back c.args.bytes.now c.requires (λ i. omega (arith, c.type_inv.bytes i))
