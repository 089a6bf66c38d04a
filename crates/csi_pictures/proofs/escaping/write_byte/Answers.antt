use Rattle.std.proofs.Common.{arith, false, rules}
use Rattle.std.proofs.lemmas.Fmt.{hex_byte}
use Rattle.std.proofs.lemmas.Grind.{common_steps}
use Rattle.csi_pictures.proofs.escaping.write_byte.Goals as goal

pub returns-then-byte-eq60 : goal.returns-then-byte-eq60
returns-then-byte-eq60 g c = search rules

-- two digits are written
pub returns-then-byte-lt32 : goal.returns-then-byte-lt32
returns-then-byte-lt32 g c = grind (arith, common_steps, hex_byte false)
