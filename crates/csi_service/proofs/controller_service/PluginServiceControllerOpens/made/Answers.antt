-- What is made of no parts, and of a record that was read.
use Rattle.std.proofs.Common.{◌≡◌, ◌∙◌, List, [], ◌∷◌, ℕ, map, length, ap, subst, sym, Some, arith}
use Rattle.std.proofs.lemmas.Bool.Decides.{nat_tests}
use Rattle.std.proofs.lemmas.List.{nil_from_length}
use Rattle.csi_stores.specs.Public.Part.{all_stored_in, put_all, part_change}
use Rattle.csi_records.specs.Public.Spelling.{present, controller_head}
use Rattle.csi_service.specs.Public.Opening.{controller_records}
use Rattle.csi_controller.specs.Model.Core.{ControllerParts}
use Rattle.csi_service.specs.Public.Services.{controller_service_parts, AreFitControllerRows}
use Rattle.csi_service.proofs.MadeCores.{made-so, made-new, controller-made, new-controller}
use Rattle.csi_service.proofs.FitRows.{controller-read, controller-none}
use Rattle.csi_service.proofs.controller_service.PluginServiceControllerOpens.made.Goals as goal

pub returns-then-is_empty-clause-made : goal.returns-then-is_empty-clause-made
returns-then-is_empty-clause-made c =
    let zero : length c.args.parts.now ≡ 0 = grind (arith, nat_tests) in
    let found = all_stored_in c.args.parts.now in
    let changes = map part_change c.in_ok-head.head.items in
    made-so controller_records (controller_head present 1 (Some 0)) controller_service_parts found c.new.result changes
    (made-new controller_records (controller_head present 1 (Some 0)) found (controller_service_parts c.new.result) changes
    (ap all_stored_in (nil_from_length c.args.parts.now zero)) c.new.ensures.parts
    (c.in_ok-head.ensures ∙ ap (λ (value : List ℕ). put_all (record { key = 0; value = value } ∷ [])) c.in_ok-controller_head_value.ensures) new-controller)

pub returns-in_ok-from_record-in-Ok-clause-made : goal.returns-in_ok-from_record-in-Ok-clause-made
returns-in_ok-from_record-in-Ok-clause-made c =
    let found = all_stored_in c.args.parts.now in
    let service = c.in_ok-from_record-in-Ok.field-0 in
    let changes = map part_change c.in_ok-changed-in-Ok.changed.items in
    made-so controller_records (controller_head present 1 (Some 0)) controller_service_parts found service changes
    (controller-made found (controller_service_parts service) changes c.in-Ok.field-0.version c.in-Ok.field-0.kept c.in-Ok.ensures c.in_ok-from_record-in-Ok.ensures.parts c.in_ok-changed-in-Ok.ensures)

pub returns-then-is_empty-clause-new : goal.returns-then-is_empty-clause-new
returns-then-is_empty-clause-new c = (c.new.ensures.config, c.new.ensures.changes, controller-none _ _ c.new.result.plugin.rows c.new.ensures.parts)

pub returns-in_ok-from_record-in-Ok-clause-new : goal.returns-in_ok-from_record-in-Ok-clause-new
returns-in_ok-from_record-in-Ok-clause-new c =
    let made = c.in_ok-from_record-in-Ok.ensures in
    let fit = controller-read c.in-Ok.field-0.version (all_stored_in c.args.parts.now) c.in-Ok.field-0.kept c.in-Ok.ensures.1 in
    (made.config, made.changes, subst (λ (controller : ControllerParts). AreFitControllerRows controller.rows) (sym made.has) fit)
