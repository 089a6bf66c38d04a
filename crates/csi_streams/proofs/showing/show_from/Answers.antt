use Rattle.std.proofs.Common.{sym}
use Rattle.csi_streams.proofs.ShownLines.{lines-none}
use Rattle.csi_streams.proofs.showing.show_from.Goals as goal

pub handle_stream-requires-clause-gave : goal.handle_stream-requires-clause-gave
handle_stream-requires-clause-gave g c = sym lines-none
