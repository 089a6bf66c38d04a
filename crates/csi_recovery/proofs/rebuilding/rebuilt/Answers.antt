-- By what is ready, and by what the record's own constructor judges of the rows.
use Rattle.std.proofs.Common.{◌≡◌, ◌+◌, ℕ, List, sym, ◌∙◌, ap, subst}
use Rattle.std.specs.List.{AllByRecursion}
use Rattle.csi_types.proofs.Each.{each-weaker}
use Rattle.csi_controller.specs.Public.Judging.{AreRecorded}
use Rattle.csi_controller.specs.Public.Views.{RecordParts}
use Rattle.csi_orchestrator.specs.Model.Shown.{RowShown}
use Rattle.csi_orchestrator.specs.Public.Restored.{IsRestorable}
use Rattle.csi_recovery.specs.Public.Rebuilding.{IsMadeOf, IsRebuiltOf, IsRebuildingRefusal}
use Rattle.csi_recovery.specs.Private.Rebuilding.{passed_on_record}
use Rattle.csi_recovery.proofs.RebuiltStates.{IsBareRow, rebuilt-shown, restored-bare, unready-clash, unready-refused, ready-refused}
use Rattle.csi_recovery.proofs.rebuilding.rebuilt.Goals as goal

pub returns-in-Err-clause-refused : goal.returns-in-Err-clause-refused
returns-in-Err-clause-refused c = unready-refused c.args.next_id c.args.kept.now c.in-Err.fault c.in-Err.ensures.refused

pub returns-in-Err-clause-accepted : goal.returns-in-Err-clause-accepted
returns-in-Err-clause-accepted c = λ may. absurd (unready-clash c.args.next_id c.args.kept.now c.in-Err.fault c.in-Err.ensures.refused may)

pub returns-in-Ok-try_new-clause-value : goal.returns-in-Ok-try_new-clause-value
returns-in-Ok-try_new-clause-value c =
    let kept = c.args.kept.now in
    let made = c.in-Ok-rising.rows in
    let so : IsMadeOf kept.rows made.items = subst (λ (rows : List RowShown). IsMadeOf rows made.items) c.rows.ensures.value c.in-Ok-rising.ensures in
    let bare : AllByRecursion IsBareRow kept.rows = each-weaker (IsRestorable kept.nodes) IsBareRow kept.rows (restored-bare kept.nodes) c.rows.ensures.kept.each in
    let own : c.in-Ok.session ≡ kept.session + 1 = c.in-Ok.ensures.session in
    subst (IsRebuiltOf (kept.session + 1) c.args.next_id kept.rows) (sym (c.in-Ok-try_new.ensures.value ∙ ap (λ (s : ℕ). let made_so : RecordParts = record { next_id = c.args.next_id; session = s; rows = made.items } in made_so) own))
    (rebuilt-shown (kept.session + 1) c.args.next_id kept.rows made.items c.ranges.next_id.fits bare so c.in-Ok-try_new.ensures.sound.rising)

pub returns-in-Err-try_new-clause-refused : goal.returns-in-Err-try_new-clause-refused
returns-in-Err-try_new-clause-refused c =
    let kept = c.args.kept.now in
    let made = c.in-Ok-rising.rows in
    let so : IsMadeOf kept.rows made.items = subst (λ (rows : List RowShown). IsMadeOf rows made.items) c.rows.ensures.value c.in-Ok-rising.ensures in
    subst (IsRebuildingRefusal c.args.next_id kept) (sym c.fault_of.ensures)
    (ready-refused c.args.next_id c.in-Ok.session kept made.items c.in-Err-try_new.fault c.in-Ok.ensures.session c.in-Ok.ensures.ready so c.in-Err-try_new.ensures.refused)

pub returns-in-Err-try_new-clause-accepted : goal.returns-in-Err-try_new-clause-accepted
returns-in-Err-try_new-clause-accepted c = λ may.
    let kept = c.args.kept.now in
    let made = c.in-Ok-rising.rows in
    let so : IsMadeOf kept.rows made.items = subst (λ (rows : List RowShown). IsMadeOf rows made.items) c.rows.ensures.value c.in-Ok-rising.ensures in
    c.fault_of.ensures ∙ ap passed_on_record (c.in-Err-try_new.ensures.accepted (subst (λ (s : ℕ). AreRecorded c.args.next_id s made.items) (sym c.in-Ok.ensures.session) (may.rows made.items so)))
