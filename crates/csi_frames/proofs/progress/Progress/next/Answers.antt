use Rattle.std.proofs.Common.{drop, Some, None, Ok, Err, sym, ap, ◌∙◌, arith, length-drop}
use Rattle.csi_types.specs.Model.Frame.{Frame}
use Rattle.csi_frames.specs.Public.Borrowed.{lent_borrowed_frame}
use Rattle.csi_frames.specs.Public.Lent.{lent_frame}
use Rattle.csi_frames.proofs.Bytes.{AreBytes-drop}
use Rattle.csi_frames.proofs.Lengths.{short-spelling}
use Rattle.csi_frames.proofs.Splitting.{IsNext-found, IsNext-only, AreBytes-spelling, spelling-read, behind-frame, behind-none, behind-fault, shown-frame}
use Rattle.csi_frames.proofs.progress.Progress.next.Goals as goal

pub overflow_add-self : goal.overflow_add-self
overflow_add-self c =
    let found = behind-frame c.args.self.now.start c.args.buffer.now (lent_borrowed_frame c.in-Ok.frame) c.in-Ok.size (λ i. omega (arith, c.type_inv.buffer i)) c.in-Ok.ensures in
    omega (arith, found.0.within, found.1, length-drop c.args.self.now.start c.args.buffer.now)

pub invariant_of-result : goal.invariant_of-result
invariant_of-result c =
    let start = c.args.self.now.start in
    let buffer = c.args.buffer.now in
    let found = behind-frame start buffer (lent_borrowed_frame c.in-Ok.frame) c.in-Ok.size (λ i. omega (arith, c.type_inv.buffer i)) c.in-Ok.ensures in
    record {
      spelled = AreBytes-spelling (drop start buffer) (lent_borrowed_frame c.in-Ok.frame) _ (AreBytes-drop start buffer (λ i. omega (arith, c.type_inv.buffer i))) found.0;
      read = spelling-read (lent_borrowed_frame c.in-Ok.frame) found.0.spelled.fits;
    }

pub returns-in-Ok-clause-start : goal.returns-in-Ok-clause-start
returns-in-Ok-clause-start c =
    let found = behind-frame c.args.self.now.start c.args.buffer.now (lent_borrowed_frame c.in-Ok.frame) c.in-Ok.size (λ i. omega (arith, c.type_inv.buffer i)) c.in-Ok.ensures in
    omega (arith, found.0.within, found.1, length-drop c.args.self.now.start c.args.buffer.now)

pub returns-in-Ok-clause-step : goal.returns-in-Ok-clause-step
returns-in-Ok-clause-step c =
    let found = behind-frame c.args.self.now.start c.args.buffer.now (lent_borrowed_frame c.in-Ok.frame) c.in-Ok.size (λ i. omega (arith, c.type_inv.buffer i)) c.in-Ok.ensures in
    omega (arith, found.1, short-spelling (lent_borrowed_frame c.in-Ok.frame) found.0.spelled.fits)

pub returns-in-Ok-clause-after : goal.returns-in-Ok-clause-after
returns-in-Ok-clause-after c =
    let found = behind-frame c.args.self.now.start c.args.buffer.now (lent_borrowed_frame c.in-Ok.frame) c.in-Ok.size (λ i. omega (arith, c.type_inv.buffer i)) c.in-Ok.ensures in
    shown-frame c.args.self.now.start c.in-Ok.size c.args.self.now.taken c.saturating_add-self.result c.args.self.now.fault c.args.buffer.now (lent_borrowed_frame c.in-Ok.frame) found.1 c.saturating_add-self.ensures

pub returns-in-Ok-clause-next : goal.returns-in-Ok-clause-next
returns-in-Ok-clause-next c =
    let found = behind-frame c.args.self.now.start c.args.buffer.now (lent_borrowed_frame c.in-Ok.frame) c.in-Ok.size (λ i. omega (arith, c.type_inv.buffer i)) c.in-Ok.ensures in
    IsNext-found c.args.self.now.fault (drop c.args.self.now.start c.args.buffer.now) (Ok (Some (lent_borrowed_frame c.in-Ok.frame))) c.in_default.is found.0

pub returns-in-Ok-clause-only : goal.returns-in-Ok-clause-only
returns-in-Ok-clause-only c = λ other is.
    let found = behind-frame c.args.self.now.start c.args.buffer.now (lent_borrowed_frame c.in-Ok.frame) c.in-Ok.size (λ i. omega (arith, c.type_inv.buffer i)) c.in-Ok.ensures in
    IsNext-only c.args.self.now.fault (drop c.args.self.now.start c.args.buffer.now) (Ok (Some (lent_borrowed_frame c.in-Ok.frame))) other (AreBytes-drop c.args.self.now.start c.args.buffer.now (λ i. omega (arith, c.type_inv.buffer i)))
    (IsNext-found c.args.self.now.fault (drop c.args.self.now.start c.args.buffer.now) (Ok (Some (lent_borrowed_frame c.in-Ok.frame))) c.in_default.is found.0) is

pub returns-in-Err-clause-next : goal.returns-in-Err-clause-next
returns-in-Err-clause-next c =
    IsNext-found c.args.self.now.fault (drop c.args.self.now.start c.args.buffer.now) (Ok None) c.in_default.is
    (behind-none c.args.self.now.start c.args.buffer.now c.in-Err.fault (λ i. omega (arith, c.type_inv.buffer i)) c.in-Err.ensures (sym c.if-is_short.ensures)).0

pub returns-in-Err-clause-only : goal.returns-in-Err-clause-only
returns-in-Err-clause-only c = λ other is.
    IsNext-only c.args.self.now.fault (drop c.args.self.now.start c.args.buffer.now) (Ok None) other (AreBytes-drop c.args.self.now.start c.args.buffer.now (λ i. omega (arith, c.type_inv.buffer i)))
    (IsNext-found c.args.self.now.fault (drop c.args.self.now.start c.args.buffer.now) (Ok None) c.in_default.is
    (behind-none c.args.self.now.start c.args.buffer.now c.in-Err.fault (λ i. omega (arith, c.type_inv.buffer i)) c.in-Err.ensures (sym c.if-is_short.ensures)).0) is

pub returns-in-Err-clause-few : goal.returns-in-Err-clause-few
returns-in-Err-clause-few c =
    (behind-none c.args.self.now.start c.args.buffer.now c.in-Err.fault (λ i. omega (arith, c.type_inv.buffer i)) c.in-Err.ensures (sym c.if-is_short.ensures)).1

pub returns-in-Err-2-clause-next : goal.returns-in-Err-2-clause-next
returns-in-Err-2-clause-next c =
    IsNext-found c.args.self.now.fault (drop c.args.self.now.start c.args.buffer.now) (Err c.in-Err.fault) c.in_default.is
    (behind-fault c.args.self.now.start c.args.buffer.now c.in-Err.fault (λ i. omega (arith, c.type_inv.buffer i)) c.in-Err.ensures (sym c.if-is_short.ensures))

pub returns-in-Err-2-clause-only : goal.returns-in-Err-2-clause-only
returns-in-Err-2-clause-only c = λ other is.
    IsNext-only c.args.self.now.fault (drop c.args.self.now.start c.args.buffer.now) (Err c.in-Err.fault) other (AreBytes-drop c.args.self.now.start c.args.buffer.now (λ i. omega (arith, c.type_inv.buffer i)))
    (IsNext-found c.args.self.now.fault (drop c.args.self.now.start c.args.buffer.now) (Err c.in-Err.fault) c.in_default.is
    (behind-fault c.args.self.now.start c.args.buffer.now c.in-Err.fault (λ i. omega (arith, c.type_inv.buffer i)) c.in-Err.ensures (sym c.if-is_short.ensures))) is
