-- By the stores that are fit, and by what the record's own constructor judges of their rows.
use Rattle.std.proofs.Common.{◌≡◌, ◌≤◌, List, length, map, sym, ◌∙◌, ap, subst, MatchOption, IfNone, false}
use Rattle.std.specs.Prelude.{Option, filter}
use Rattle.std.specs.List.{AllByRecursion}
use Rattle.csi_types.specs.Model.Members.{IsAmong, EachTwo}
use Rattle.csi_types.proofs.Options.{none-where}
use Rattle.csi_types.specs.Model.Same.{same_text}
use Rattle.csi_controller.specs.declared.row.ControllerRow.{ControllerRow}
use Rattle.csi_orchestrator.specs.Model.Shown.{RowShown}
use Rattle.csi_orchestrator.specs.Public.Record.{RecordParts, IsRecordRefusal}
use Rattle.csi_orchestrator.specs.Public.Restored.{IsRestorable, AreRestorable}
use Rattle.csi_orchestrator.specs.Public.Shown.{row_shown}
use Rattle.csi_recovery.specs.Public.Recovered.{recovered_rows}
use Rattle.csi_recovery.specs.declared.fault.RecoveryFault.{RecoveryFault}
use Rattle.csi_recovery.specs.Public.Judged.{AreFit, IsFreeRow, IsUnfit, IsRecoveryRefusal}
use Rattle.csi_recovery.specs.Private.Walks.{passed_on, row_from}
use Rattle.csi_recovery.proofs.Free.{AreSoundGiven, free-restorable, free-rows, rows-free, rows-few, rows-apart, refused-not_free}
use Rattle.csi_recovery.proofs.Judged.{fit-clash, may-fit, fit-may, passed-refused}
use Rattle.csi_recovery.proofs.Told.{rows-told}
use Rattle.csi_recovery.proofs.recovering.record_in.Goals as goal

pub returns-in-Some-clause-accepted : goal.returns-in-Some-clause-accepted
returns-in-Some-clause-accepted c = λ state known is are fit may.
    absurd (fit-clash c.args.session state known c.in-Some.fault
    (subst (λ (o : Option RecoveryFault). MatchOption o (AreFit c.args.session state known) (IsUnfit c.args.session state known)) c.in-Some.is (c.first_unfit.ensures.fit state known is are))
    (may-fit c.args.nodes.items c.args.session state known may))

pub returns-in-Some-clause-free : goal.returns-in-Some-clause-free
returns-in-Some-clause-free c = λ state known is are nodes_fit fit free.
    absurd (fit-clash c.args.session state known c.in-Some.fault
    (subst (λ (o : Option RecoveryFault). MatchOption o (AreFit c.args.session state known) (IsUnfit c.args.session state known)) c.in-Some.is (c.first_unfit.ensures.fit state known is are)) fit)

pub returns-in-Ok-try_new-clause-value : goal.returns-in-Ok-try_new-clause-value
returns-in-Ok-try_new-clause-value c = λ state known is are.
    let given = c.args.given.now in
    let read : map row_shown c.in-Ok.rows.items ≡ recovered_rows state known =
    c.in-Ok.ensures ∙ ap (λ (l : List ControllerRow). map (row_from given) (filter (λ (row : ControllerRow). row.live) l)) c.rows.ensures.value ∙ rows-told c.args.controller.now state given known c.rows.ensures.sound.rising is are in
    c.in-Ok-try_new.ensures.value ∙ ap (λ (rows : List RowShown). let made : RecordParts = record { nodes = c.args.nodes.items; session = c.args.before; rows = rows } in made) read

pub returns-in-Ok-try_new-clause-may : goal.returns-in-Ok-try_new-clause-may
returns-in-Ok-try_new-clause-may c = λ state known is are.
    let given = c.args.given.now in
    let read : map row_shown c.in-Ok.rows.items ≡ recovered_rows state known =
    c.in-Ok.ensures ∙ ap (λ (l : List ControllerRow). map (row_from given) (filter (λ (row : ControllerRow). row.live) l)) c.rows.ensures.value ∙ rows-told c.args.controller.now state given known c.rows.ensures.sound.rising is are in
    let fit = subst (λ (o : Option RecoveryFault). MatchOption o (AreFit c.args.session state known) (IsUnfit c.args.session state known)) (none-where c.first_unfit.result c.in_default.not-Some) (c.first_unfit.ensures.fit state known is are) in
    fit-may c.args.nodes.items c.args.session state known fit (subst (AreRestorable c.args.nodes.items) read c.in-Ok-try_new.ensures.rows)

pub returns-in-Ok-try_new-clause-rows : goal.returns-in-Ok-try_new-clause-rows
returns-in-Ok-try_new-clause-rows c = λ state known is are.
    let kept = c.args.controller.now in
    let given = c.args.given.now in
    let nodes = c.args.nodes.items in
    let sound = c.rows.ensures.sound in
    let told = rows-told kept state given known sound.rising is are in
    let own : map row_shown c.in-Ok.rows.items ≡ map (row_from given) (filter (λ (row : ControllerRow). row.live) kept.rows)
    = c.in-Ok.ensures ∙ ap (λ (l : List ControllerRow). map (row_from given) (filter (λ (row : ControllerRow). row.live) l)) c.rows.ensures.value in
    let fit : AreFit c.args.session state known
    = subst (λ (o : Option RecoveryFault). MatchOption o (AreFit c.args.session state known) (IsUnfit c.args.session state known)) (none-where c.first_unfit.result c.in_default.not-Some) (c.first_unfit.ensures.fit state known is are) in
    let rules : AreSoundGiven given = subst (λ (o : Option RecoveryFault). IfNone o (AreSoundGiven given)) (none-where c.first_unfit.result c.in_default.not-Some) c.first_unfit.ensures.rules in
    subst (AllByRecursion (IsFreeRow nodes)) told (rows-free kept state given known sound is are rules fit.agree nodes (subst (AreRestorable nodes) own c.in-Ok-try_new.ensures.rows))

pub returns-in-Err-try_new-clause-refused : goal.returns-in-Err-try_new-clause-refused
returns-in-Err-try_new-clause-refused c = λ state known is are.
    let kept = c.args.controller.now in
    let given = c.args.given.now in
    let nodes = c.args.nodes.items in
    let sound = c.rows.ensures.sound in
    let told = rows-told kept state given known sound.rising is are in
    let read : map row_shown c.in-Ok.rows.items ≡ recovered_rows state known = c.in-Ok.ensures ∙ ap (λ (l : List ControllerRow). map (row_from given) (filter (λ (row : ControllerRow). row.live) l)) c.rows.ensures.value ∙ told in
    let fit : AreFit c.args.session state known
    = subst (λ (o : Option RecoveryFault). MatchOption o (AreFit c.args.session state known) (IsUnfit c.args.session state known)) (none-where c.first_unfit.result c.in_default.not-Some) (c.first_unfit.ensures.fit state known is are) in
    let rules : AreSoundGiven given = subst (λ (o : Option RecoveryFault). IfNone o (AreSoundGiven given)) (none-where c.first_unfit.result c.in_default.not-Some) c.first_unfit.ensures.rules in
    subst (IsRecoveryRefusal nodes c.args.session state known) (sym c.fault_of.ensures)
    (passed-refused nodes c.args.session state known c.in-Err-try_new.fault fit
    (λ place.
    refused-not_free nodes (recovered_rows state known) place
    (subst (λ (rows : List RowShown). (shown : RowShown) → IsAmong shown rows → IsFreeRow nodes shown → IsRestorable nodes shown) told (free-restorable kept state given known sound is are rules fit.agree nodes))
    (subst (λ (rows : List RowShown). length rows ≤ 4096) told (rows-few kept state given known sound is are rules fit.agree))
    (subst (EachTwo (λ (a b : RowShown). same_text a.name b.name ≡ false)) told (rows-apart kept state given known sound is are rules fit.agree)))
    (subst (λ (rows : List RowShown). IsRecordRefusal nodes rows c.in-Err-try_new.fault) read c.in-Err-try_new.ensures.refused))

pub returns-in-Err-try_new-clause-accepted : goal.returns-in-Err-try_new-clause-accepted
returns-in-Err-try_new-clause-accepted c = λ state known is are fit may.
    let given = c.args.given.now in
    let read : map row_shown c.in-Ok.rows.items ≡ recovered_rows state known =
    c.in-Ok.ensures ∙ ap (λ (l : List ControllerRow). map (row_from given) (filter (λ (row : ControllerRow). row.live) l)) c.rows.ensures.value ∙ rows-told c.args.controller.now state given known c.rows.ensures.sound.rising is are in
    c.fault_of.ensures ∙ ap passed_on (c.in-Err-try_new.ensures.accepted fit (subst (AreRestorable c.args.nodes.items) (sym read) may.rows))

pub returns-in-Err-try_new-clause-free : goal.returns-in-Err-try_new-clause-free
returns-in-Err-try_new-clause-free c = λ state known is are nodes_fit fit free.
    let kept = c.args.controller.now in
    let given = c.args.given.now in
    let nodes = c.args.nodes.items in
    let sound = c.rows.ensures.sound in
    let told = rows-told kept state given known sound.rising is are in
    let own : map row_shown c.in-Ok.rows.items ≡ map (row_from given) (filter (λ (row : ControllerRow). row.live) kept.rows)
    = c.in-Ok.ensures ∙ ap (λ (l : List ControllerRow). map (row_from given) (filter (λ (row : ControllerRow). row.live) l)) c.rows.ensures.value in
    let rules : AreSoundGiven given = subst (λ (o : Option RecoveryFault). IfNone o (AreSoundGiven given)) (none-where c.first_unfit.result c.in_default.not-Some) c.first_unfit.ensures.rules in
    c.fault_of.ensures
    ∙ ap passed_on
    (c.in-Err-try_new.ensures.accepted nodes_fit
    (subst (AreRestorable nodes) (sym own) (free-rows kept state given known sound is are rules fit.agree nodes (subst (AllByRecursion (IsFreeRow nodes)) (sym told) free))))
