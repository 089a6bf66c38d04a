-- By the rows that fit.
use Rattle.std.proofs.Common.{sym, ◌∙◌, subst, true≢false}
use Rattle.csi_controller.specs.Public.Core.{AreRisingRows}
use Rattle.csi_recovery.proofs.StoresAgree.{fits-agree, agree-fits}
use Rattle.csi_recovery.proofs.agreeing.agrees.Goals as goal

pub fits-requires : goal.fits-requires
fits-requires c = subst AreRisingRows (sym c.rows.ensures.value) c.rows.ensures.sound.rising

pub returns-clause-yes : goal.returns-clause-yes
returns-clause-yes c = λ state node is given passes.
    fits-agree c.args.controller.now state c.args.kept.now node c.rows.ensures.sound is given (rw (c.rows.ensures.value, c.id.ensures, c.rows-2.ensures.value) at (sym c.fits.ensures ∙ passes))

pub returns-clause-no : goal.returns-clause-no
returns-clause-no c = λ state node is given fails agree.
    true≢false (sym (agree-fits c.args.controller.now state c.args.kept.now node c.rows.ensures.sound is given c.rows-2.ensures.rules agree) ∙ (rw (c.rows.ensures.value, c.id.ensures, c.rows-2.ensures.value) at (sym c.fits.ensures ∙ fails)))
