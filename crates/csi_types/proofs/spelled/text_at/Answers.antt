use Rattle.csi_types.proofs.TakenOff.{text-utf8}
use Rattle.csi_types.proofs.spelled.text_at.Goals as goal

pub from_utf8_unchecked-requires : goal.from_utf8_unchecked-requires
from_utf8_unchecked-requires c = rw c.split_at.ensures.front (text-utf8 c.args.bytes.now c.split_byte-count.result.0 c.split_byte-count.result.1.now c.split_byte-count.ensures c.requires)
