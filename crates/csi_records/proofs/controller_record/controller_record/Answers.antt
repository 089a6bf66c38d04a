use Rattle.std.proofs.Common.{◌∙◌, inr, refl, sym, subst, ℕ, map, arith}
use Rattle.std.proofs.lemmas.List.{length-map, take-map}
use Rattle.csi_controller.specs.Public.Judging.{IsFirstRefused, IsRecordRefusal}
use Rattle.csi_records.specs.Public.Spelling.{volume_row}
use Rattle.csi_records.specs.Public.Records.{Head, AreControllerRows, controller_layout, IsVolumeRow}
use Rattle.csi_records.proofs.Layouts.{all-read, row-unread, row-refused}
use Rattle.csi_records.proofs.PluginLayouts.{controller_one, rules-shown}
use Rattle.csi_records.proofs.controller_record.controller_record.Goals as goal

pub returns-in-Ok : goal.returns-in-Ok
returns-in-Ok c =
    let head : Head ℕ = record { own = c.in-Some.head.next_id; session = c.in-Some.head.session } in
    let rows = c.in_ok-rows.field-0.rows.items in
    let here =
    all-read (controller_layout c.args.version) (IsVolumeRow c.args.version) head (map volume_row rows) c.args.parts.now c.first-item.result c.in_ok-rows.field-0.all c.in-len1-up.len_at_least c.first-item.is c.in-Some.ensures.head.1 c.in-Some.ensures.head.0
    c.in_ok-rows.ensures.fit c.in_ok-rows.ensures.stops c.if-all.true (rows, refl, c.in-Ok.ensures.rules) in
    (record { first = head; rows = map volume_row rows; spelled = here }, record { head = head; rows = rows; spelled = here; is = c.in-Ok.ensures.made })

pub returns-in-Err-BadRow : goal.returns-in-Err-BadRow
returns-in-Err-BadRow c =
    let head : Head ℕ = record { own = c.in-Some.head.next_id; session = c.in-Some.head.session } in
    let rows = c.in_ok-rows.field-0.rows.items in
    let first : IsFirstRefused (AreControllerRows head.own head.session) rows c.in-Err-BadRow.bad = subst (IsRecordRefusal (AreControllerRows head.own head.session) rows) c.in-Err-BadRow.field-0-is c.in-Err-BadRow.ensures.refused in
    inr (row-refused (controller_layout c.args.version) (IsVolumeRow c.args.version) head (map volume_row rows) c.args.parts.now c.first-item.result c.in_ok-rows.field-0.all c.in-len1-up.len_at_least c.first-item.is c.in-Some.ensures.head.1
    c.in-Some.ensures.head.0 c.in_ok-rows.ensures.fit c.in_ok-rows.ensures.stops (controller_one c.args.version) c.in-Err-BadRow.bad first.from (omega (arith, first.to, length-map rows volume_row))
    (_, sym (take-map volume_row _ rows), first.before) (λ are. first.refused (rules-shown head _ (are.0, are.1 ∙ take-map volume_row _ rows, are.2))))

pub returns-in-Ok-2 : goal.returns-in-Ok-2
returns-in-Ok-2 c =
    let head : Head ℕ = record { own = c.in-Some.head.next_id; session = c.in-Some.head.session } in
    let rows = c.in_ok-rows.field-0.rows.items in
    inr (row-unread (controller_layout c.args.version) (IsVolumeRow c.args.version) head (map volume_row rows) c.args.parts.now c.first-item.result c.in_ok-rows.field-0.all c.in-len1-up.len_at_least c.first-item.is c.in-Some.ensures.head.1
    c.in-Some.ensures.head.0 c.in_ok-rows.ensures.fit c.in_ok-rows.ensures.stops c.len.result (omega (arith, c.len.ensures, length-map rows volume_row)) c.if-all.false (λ head front row own rules count. own) (rows, refl, c.in-Ok-2.ensures.rules))
