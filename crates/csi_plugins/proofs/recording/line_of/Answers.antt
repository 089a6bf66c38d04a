use Rattle.std.proofs.Common.{sym, subst, arith}
use Rattle.std.proofs.lemmas.Bool.Decides.{nat_tests}
use Rattle.std.proofs.lemmas.Result.{IfErr-weaker, IfOk-weaker}
use Rattle.csi_stores.specs.Public.Part.{all_stored_in}
use Rattle.csi_records.specs.Public.Records.{controller_layout, IsRecordOf, IsControllerOf}
use Rattle.csi_plugins.specs.Public.Recording.{IsLineOf, IsSomeRecord, of_controller}
use Rattle.csi_plugins.specs.Private.Recording.{HasNoLine}
use Rattle.csi_plugins.proofs.NoRecords.{refused_at, refused_controller, no_controller}
use Rattle.csi_plugins.proofs.recording.line_of.Goals as goal

pub returns-in-Ok-clause-line : goal.returns-in-Ok-clause-line
returns-in-Ok-clause-line c =
    IfOk-weaker c.controller_text.result _ _ (λ text is. subst (IsLineOf (all_stored_in c.args.parts.now)) (sym is) (of_controller c.in-Ok.field-0.version c.in-Ok.field-0.kept c.in-Ok.ensures.1)) c.controller_text.ensures.line

pub returns-in-Ok-clause-refused : goal.returns-in-Ok-clause-refused
returns-in-Ok-clause-refused c =
    IfErr-weaker c.controller_text.result _ _ (λ ending is. subst (HasNoLine IsSomeRecord (all_stored_in c.args.parts.now)) (sym is) tt) c.controller_text.ensures.refused

pub returns-then-place-gt0-clause-refused : goal.returns-then-place-gt0-clause-refused
returns-then-place-gt0-clause-refused c =
    let parts = all_stored_in c.args.parts.now in
    let bad = c.in-Err-BadRecord in
    refused_controller parts bad.place (grind (arith, nat_tests)) (refused_at (λ version. IsRecordOf (controller_layout version)) IsControllerOf parts bad.field-0 bad.place bad.field-0-is bad.ensures)

pub returns-else-place-gt0-clause-refused : goal.returns-else-place-gt0-clause-refused
returns-else-place-gt0-clause-refused c =
    let parts = all_stored_in c.args.parts.now in
    let bad = c.in-Err-BadRecord in
    IfErr-weaker c.line_of_node.result _ _ (no_controller parts bad.place (grind (arith, nat_tests)) (refused_at (λ version. IsRecordOf (controller_layout version)) IsControllerOf parts bad.field-0 bad.place bad.field-0-is bad.ensures)) c.line_of_node.ensures.refused
