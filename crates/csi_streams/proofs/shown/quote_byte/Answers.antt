use Rattle.std.proofs.Common.{arith, false}
use Rattle.std.proofs.lemmas.Fmt.{hex_byte}
use Rattle.std.proofs.lemmas.Grind.{common_steps}
use Rattle.csi_streams.proofs.shown.quote_byte.Goals as goal

-- two digits are written
pub returns-then-byte-lt32 : goal.returns-then-byte-lt32
returns-then-byte-lt32 g c = grind (arith, common_steps, hex_byte false)
