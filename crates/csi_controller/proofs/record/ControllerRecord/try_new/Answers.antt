-- Rows that are a record's have no first one that is refused.
use Rattle.std.proofs.Common.{sym, subst}
use Rattle.csi_controller.specs.Public.Judging.{AreRecorded}
use Rattle.csi_controller.proofs.FirstUnfit.{none-refused, recorded-copies, recorded-fronts}
use Rattle.csi_controller.proofs.record.ControllerRecord.try_new.Goals as goal

pub returns-in-Ok-Some-clause-accepted : goal.returns-in-Ok-Some-clause-accepted
returns-in-Ok-Some-clause-accepted c = λ recorded.
    let Rules = AreRecorded c.args.next_id c.args.session in
    absurd (none-refused Rules c.as_slice.result.now c.in-Ok-Some.place (recorded-fronts c.args.next_id c.args.session) (rw c.in-Ok-Some.field-0-is at c.in-Ok-Some.ensures) (subst Rules (sym c.as_slice.ensures.value) recorded))

pub returns-in-Ok-Some-clause-copies : goal.returns-in-Ok-Some-clause-copies
returns-in-Ok-Some-clause-copies c = λ kept recorded same.
    let Rules = AreRecorded c.args.next_id c.args.session in
    absurd (none-refused Rules c.as_slice.result.now c.in-Ok-Some.place (recorded-fronts c.args.next_id c.args.session) (rw c.in-Ok-Some.field-0-is at c.in-Ok-Some.ensures)
    (subst Rules (sym c.as_slice.ensures.value) (recorded-copies c.args.next_id c.args.session kept c.args.rows.items same recorded)))
