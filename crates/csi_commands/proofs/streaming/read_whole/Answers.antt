-- One piece more was read, unless there is no room for it.
use Rattle.std.proofs.Common.{◌++◌, ◌∙◌, [], sym, refl, take}
use Rattle.std.proofs.lemmas.List.{append-nil}
use Rattle.std.proofs.lemmas.Result.{err_from_is_err_and}
use Rattle.std.proofs.KnownBytes.{Consumes-nil, Consumes-trans}
use Rattle.csi_commands.proofs.streaming.read_whole.Goals as goal

pub pieces-init : goal.pieces-init
pieces-init g c = (record { more = []; appended = sym (append-nil c.args.bytes.now.items); consumed = Consumes-nil (g.R.Read.remaining c.args.input.now.inner) }, refl)

pub returns-in_err-extend_from_slice-in-Ok : goal.returns-in_err-extend_from_slice-in-Ok
returns-in_err-extend_from_slice-in-Ok g c =
    let remaining = g.R.Read.remaining in
    let i = c.pieces.invariant in
    let e = err_from_is_err_and c.from_residual.result c.from_residual.ensures.1 in
    rw (e.1, e.2) (
      i.0.more ++ take c.in-Ok.n c.read.new.buf,
      Consumes-trans (remaining c.args.input.now.inner) (remaining c.pieces.input.inner) (remaining c.read.new.self.inner) i.0.more (take c.in-Ok.n c.read.new.buf) i.0.consumed c.in-Ok.ensures.bytes.0,
      c.in-Ok.ensures.faults ∙ i.1,
    )
