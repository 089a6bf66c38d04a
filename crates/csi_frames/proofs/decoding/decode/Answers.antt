use Rattle.std.proofs.Common.{◌≡◌, inl, sym, ap, subst, ◌∙◌, arith}
use Rattle.csi_types.specs.Model.Frame.{Frame}
use Rattle.csi_frames.specs.declared.fault.FrameFault.{FrameFault}
use Rattle.csi_frames.specs.Public.Borrowed.{lent_borrowed_frame}
use Rattle.csi_frames.specs.Public.Decoding.{no_memory}
use Rattle.csi_frames.specs.Public.Spelling.{BeginsWith}
use Rattle.csi_frames.specs.Public.Texts.{IsTextless}
use Rattle.csi_frames.proofs.Front.{first_frame-begins, first_frame-faulty}
use Rattle.csi_frames.proofs.NeverShort.{never-memory}
use Rattle.csi_frames.proofs.Verdicts.{found, same_frame, no_both, reads_frame, reads_fault, is_that_frame}
use Rattle.csi_frames.proofs.decoding.decode.Goals as goal

pub frame-requires : goal.frame-requires
frame-requires c =
    (reads_frame c.args.bytes.now (lent_borrowed_frame c.in-Ok.borrowed) c.in-Ok.size (λ i. omega (arith, c.type_inv.bytes i)) c.in-Ok.ensures).spelled.fits

pub returns-in-Ok-frame-clause-found : goal.returns-in-Ok-frame-clause-found
returns-in-Ok-frame-clause-found c =
    subst (λ (f : Frame). BeginsWith c.args.bytes.now f c.in-Ok.size) (sym c.in-Ok-frame.ensures.value)
    (reads_frame c.args.bytes.now (lent_borrowed_frame c.in-Ok.borrowed) c.in-Ok.size (λ i. omega (arith, c.type_inv.bytes i)) c.in-Ok.ensures)

pub returns-in-Ok-frame-clause-every_frame : goal.returns-in-Ok-frame-clause-every_frame
returns-in-Ok-frame-clause-every_frame c = λ frame n b.
    inl (ap (λ (f : Frame). found f c.in-Ok.size) c.in-Ok-frame.ensures.value ∙ is_that_frame c.args.bytes.now (lent_borrowed_frame c.in-Ok.borrowed) frame c.in-Ok.size n c.in-Ok.ensures b)

pub returns-in-Ok-frame-clause-every_fault : goal.returns-in-Ok-frame-clause-every_fault
returns-in-Ok-frame-clause-every_fault c = λ kind place f.
    absurd (no_both (lent_borrowed_frame c.in-Ok.borrowed) c.in-Ok.size kind place (sym c.in-Ok.ensures ∙ first_frame-faulty c.args.bytes.now kind place (λ i. omega (arith, c.type_inv.bytes i)) f))

pub returns-in-Err-frame-clause-every_fault : goal.returns-in-Err-frame-clause-every_fault
returns-in-Err-frame-clause-every_fault c = λ kind place f.
    absurd (no_both (lent_borrowed_frame c.in-Ok.borrowed) c.in-Ok.size kind place (sym c.in-Ok.ensures ∙ first_frame-faulty c.args.bytes.now kind place (λ i. omega (arith, c.type_inv.bytes i)) f))

pub returns-in-Err-frame-clause-memory : goal.returns-in-Err-frame-clause-memory
returns-in-Err-frame-clause-memory c = λ refused.
    (lent_borrowed_frame c.in-Ok.borrowed, c.in-Ok.size, reads_frame c.args.bytes.now (lent_borrowed_frame c.in-Ok.borrowed) c.in-Ok.size (λ i. omega (arith, c.type_inv.bytes i)) c.in-Ok.ensures)

pub returns-in-Err-frame-clause-textless : goal.returns-in-Err-frame-clause-textless
returns-in-Err-frame-clause-textless c = λ frame n b empty.
    let same = same_frame (lent_borrowed_frame c.in-Ok.borrowed) frame c.in-Ok.size n (is_that_frame c.args.bytes.now (lent_borrowed_frame c.in-Ok.borrowed) frame c.in-Ok.size n c.in-Ok.ensures b) in
    c.in-Err-frame.ensures.textless (subst IsTextless (sym same.0) empty)

pub returns-in-Err-clause-fault : goal.returns-in-Err-clause-fault
returns-in-Err-clause-fault c = inl (reads_fault c.args.bytes.now c.in-Err.fault (λ i. omega (arith, c.type_inv.bytes i)) c.in-Err.ensures)

pub returns-in-Err-clause-every_frame : goal.returns-in-Err-clause-every_frame
returns-in-Err-clause-every_frame c = λ frame n b.
    absurd (no_both frame n c.in-Err.fault.kind c.in-Err.fault.place (sym (first_frame-begins c.args.bytes.now frame n b) ∙ c.in-Err.ensures))

pub returns-in-Err-clause-every_fault : goal.returns-in-Err-clause-every_fault
returns-in-Err-clause-every_fault c = λ kind place f.
    let e = sym c.in-Err.ensures ∙ first_frame-faulty c.args.bytes.now kind place (λ i. omega (arith, c.type_inv.bytes i)) f in cc e

pub returns-in-Err-clause-memory : goal.returns-in-Err-clause-memory
returns-in-Err-clause-memory c = λ is.
    let fault : c.in-Err.fault ≡ no_memory = cc is in
    absurd (never-memory c.args.bytes.now c.in-Err.fault.kind c.in-Err.fault.place (reads_fault c.args.bytes.now c.in-Err.fault (λ i. omega (arith, c.type_inv.bytes i)) c.in-Err.ensures) (ap (λ (f : FrameFault). f.kind) fault) (ap (λ (f : FrameFault). f.place) fault))

pub returns-in-Err-clause-textless : goal.returns-in-Err-clause-textless
returns-in-Err-clause-textless c = λ frame n b empty.
    absurd (no_both frame n c.in-Err.fault.kind c.in-Err.fault.place (sym (first_frame-begins c.args.bytes.now frame n b) ∙ c.in-Err.ensures))
