-- Answers, frame after frame, that grow by a frame.
pub use Rattle.csi_streams.proofs.GrowingAnswers.{answers-append}
