use Rattle.std.proofs.Common.{◌≡◌, ◌++◌, OnOk, subst}
use Rattle.csi_types.specs.Model.Frame.{Frame}
use Rattle.csi_frames.specs.Public.Lent.{lent_frame}
use Rattle.csi_streams.specs.Public.FrameLines.{frame_line}
use Rattle.csi_streams.proofs.ShownLines.{shown_more}
use Rattle.csi_streams.proofs.showing.LinesHandler.handle.Goals as goal

pub returns-clause-ok : goal.returns-clause-ok
returns-clause-ok c = λ frames has here.
    shown_more frames (lent_frame c.args.frame.now) c.args.place (record { line = c.append_line.new.line }) c.args.out.now.items c.append_line.new.out.items c.append_line.result here
    (subst (λ (frame : Frame). OnOk c.append_line.result (c.append_line.new.out.items ≡ c.args.out.now.items ++ frame_line c.args.place frame)) c.in_ok-frame.ensures.value c.append_line.ensures.ok)
