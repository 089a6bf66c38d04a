-- What is made of no parts, of a record that was read, and of one of an earlier session.
use Rattle.std.proofs.Common.{◌≡◌, ◌≤◌, ◌∙◌, List, [], ◌∷◌, ℕ, map, length, ap, subst, sym, Some, arith, rules}
use Rattle.std.proofs.lemmas.Bool.Decides.{nat_tests}
use Rattle.std.proofs.lemmas.List.{nil_from_length}
use Rattle.csi_stores.specs.Public.Part.{all_stored_in, put_all, part_change}
use Rattle.csi_node.specs.Model.Record.{NodeParts, parts}
use Rattle.csi_service.specs.Public.NodeOpening.{joined_head}
use Rattle.csi_service.specs.Public.Opening.{node_records}
use Rattle.csi_service.specs.Public.Services.{node_service_parts, AreFitNodeRows}
use Rattle.csi_service.proofs.MadeCores.{made-new, node-made, new-node, of-node}
use Rattle.csi_service.proofs.NodeOpening.{node-opened}
use Rattle.csi_service.proofs.FitRows.{node-read}
use Rattle.csi_service.proofs.node_opening.NodeMadeOpens.made.Goals as goal

pub of_record-requires : goal.of_record-requires
of_record-requires c = of-node c.in-Ok.field-0.version c.args.joining.id (all_stored_in c.args.parts.now) c.in-Ok.field-0.kept c.in-Ok.ensures.1

pub returns-then-is_empty-clause-made : goal.returns-then-is_empty-clause-made
returns-then-is_empty-clause-made c =
    let zero : length c.args.parts.now ≡ 0 = grind (arith, nat_tests) in
    let id = c.args.joining.id in
    let session = c.args.joining.session in
    let found = all_stored_in c.args.parts.now in
    let service = c.in_ok-service.service in
    let changes = map part_change c.in_ok-head.head.items in
    node-opened id session found service changes
    (made-new (node_records id) (joined_head id session) found (node_service_parts service) changes
    (ap all_stored_in (nil_from_length c.args.parts.now zero)) c.in_ok-service.ensures.parts
    (c.in_ok-head.ensures ∙ ap (λ (value : List ℕ). put_all (record { key = 0; value = value } ∷ [])) c.in_ok-node_head_value.ensures.value) (new-node id session c.in_ok-node_head_value.ensures.fits (omega arith)))

pub returns-in_ok-service-in-Ok-clause-made : goal.returns-in_ok-service-in-Ok-clause-made
returns-in_ok-service-in-Ok-clause-made c =
    let id = c.args.joining.id in
    let session = c.args.joining.session in
    let found = all_stored_in c.args.parts.now in
    let service = c.in_ok-service-in-Ok.service in
    let changes = map part_change c.in_ok-changed-in-Ok.changed.items in
    node-opened id session found service changes
    (node-made id session found (node_service_parts service) changes c.in-Ok.field-0.version c.in-Ok.field-0.kept c.in-Ok.ensures c.in_ok-service-in-Ok.ensures.parts c.in_ok-changed-in-Ok.ensures)

pub returns-in_ok-service-in-Ok-clause-new : goal.returns-in_ok-service-in-Ok-clause-new
returns-in_ok-service-in-Ok-clause-new c =
    let made = c.in_ok-service-in-Ok.ensures in
    let tell = c.in-Ok.ensures.1 in
    let fit = node-read c.in-Ok.field-0.version (Some c.args.joining.id) (all_stored_in c.args.parts.now) c.in-Ok.field-0.kept tell in
    let is : c.in_ok-service-in-Ok.service.plugin.session ≡ c.session.result = ap (λ (node : NodeParts). node.session) made.has ∙ sym c.session.ensures in
    let from : c.args.joining.session ≤ c.session.result = grind (arith, nat_tests) in (
      made.changes,
      ap (λ (node : NodeParts). node.id) made.has ∙ of-node c.in-Ok.field-0.version c.args.joining.id (all_stored_in c.args.parts.now) c.in-Ok.field-0.kept tell,
      (omega (arith, is, from), omega (arith, is)),
      subst (λ (node : NodeParts). AreFitNodeRows (parts node.rows)) (sym made.has) fit,
    )

pub returns-then-session-clause-made : goal.returns-then-session-clause-made
returns-then-session-clause-made c = search rules
