-- What is read is the frame that the bytes spell, by the decoder's promise of every frame.
use Rattle.csi_world.proofs.Words.{◌≡◌, ℕ, length, IfOk, ap, subst, Frame, delivered_body, IsWorldAfter}
use Rattle.csi_world.specs.Public.System.{world_parts}
use Rattle.csi_world.proofs.CarriedFrames.{begins-whole, only-value}
use Rattle.csi_world.proofs.system.System.receive.Goals as goal

pub returns-in-Ok-clause-does : goal.returns-in-Ok-clause-does
returns-in-Ok-clause-does c = λ frame spells world own shows.
    let same : c.in-Ok.read.0 ≡ frame
    = ap (λ (read : Frame × ℕ). read.0)
    (only-value c.decode-decoded.result (frame, length c.args.bytes.now) c.in-Ok.read (c.decode-decoded.ensures.every_frame frame (length c.args.bytes.now) (begins-whole frame c.args.bytes.now spells)) c.in-Ok.is)
    in
    subst (λ (f : Frame). IfOk c.take.result (λ outcome. IsWorldAfter (world_parts c.args.self.now) (world_parts c.take.new.self) outcome (delivered_body world f f.body))) same (c.take.ensures.does world own shows)
