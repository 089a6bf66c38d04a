-- Rows that keep the rules have no first one that is refused.
use Rattle.std.proofs.Common.{sym, subst}
use Rattle.csi_controller.specs.Public.Core.{AreSoundRows}
use Rattle.csi_controller.proofs.Copies.{sound-copies}
use Rattle.csi_controller.proofs.FirstRefused.{sound-take}
use Rattle.csi_controller.proofs.FirstUnfit.{none-refused}
use Rattle.csi_controller.proofs.record.ControllerRecord.without_session.Goals as goal

pub returns-in-Ok-Some-clause-accepted : goal.returns-in-Ok-Some-clause-accepted
returns-in-Ok-Some-clause-accepted c = λ sound.
    absurd (none-refused (AreSoundRows c.args.next_id) c.as_slice.result.now c.in-Ok-Some.place (sound-take c.args.next_id) (rw c.in-Ok-Some.field-0-is at c.in-Ok-Some.ensures) (subst (AreSoundRows c.args.next_id) (sym c.as_slice.ensures.value) sound))

pub returns-in-Ok-Some-clause-copies : goal.returns-in-Ok-Some-clause-copies
returns-in-Ok-Some-clause-copies c = λ kept sound same.
    absurd (none-refused (AreSoundRows c.args.next_id) c.as_slice.result.now c.in-Ok-Some.place (sound-take c.args.next_id) (rw c.in-Ok-Some.field-0-is at c.in-Ok-Some.ensures)
    (subst (AreSoundRows c.args.next_id) (sym c.as_slice.ensures.value) (sound-copies c.args.next_id kept c.args.rows.items same sound)))
