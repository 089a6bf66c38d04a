-- What is made of no parts, and of a record.
use Rattle.std.proofs.Common.{◌≡◌, ◌∙◌, List, [], ℕ, map, length, ap, subst, sym, arith}
use Rattle.std.proofs.lemmas.Bool.Decides.{nat_tests}
use Rattle.std.proofs.lemmas.List.{nil_from_length}
use Rattle.std.proofs.lemmas.Result.{IfOk-weaker}
use Rattle.csi_orchestrator.specs.declared.row.Row.{Row}
use Rattle.csi_orchestrator.specs.Public.Raised.{raised_record}
use Rattle.csi_orchestrator.specs.Public.Record.{RecordParts}
use Rattle.csi_orchestrator.specs.Public.Restored.{AreRestorable}
use Rattle.csi_orchestrator.specs.Public.Shown.{row_shown}
use Rattle.csi_stores.specs.Public.Part.{all_stored_in, part_change}
use Rattle.csi_service.specs.Public.OrchestratorOpening.{new_record, raised_before}
use Rattle.csi_service.specs.Private.OrchestratorOpening.{IsBegun}
use Rattle.csi_service.proofs.OrchestratorRecords.{first-record, none-made, read-made, newly-made, newly-made-none, rows-read}
use Rattle.csi_service.proofs.orchestrator_opening.OrchestratorMadeOpens.made.Goals as goal

-- the record of these nodes and rows, in this session
abbrev new_with : ℕ → List (List ℕ) → List Row → RecordParts
new_with session nodes rows = record { nodes = nodes; session = session; rows = map row_shown rows }

pub returns-in-Ok-clause-made : goal.returns-in-Ok-clause-made
returns-in-Ok-clause-made c =
    let zero : length c.args.parts.now ≡ 0 = grind (arith, nat_tests) in
    let least = c.args.asked.least in
    let is : c.in-Ok.new ≡ raised_before least new_record =
    c.in-Ok.ensures.value ∙ ap (λ (nodes : List (List ℕ)). new_with c.session_before-before.result nodes c.new-then-is_empty.result.items) c.new-none.ensures.items
    ∙ ap (new_with c.session_before-before.result []) c.new-then-is_empty.ensures.items ∙ ap (λ (s : ℕ). new_with s [] []) (c.session_before-before.ensures.value ∙ first-record least) in
    IfOk-weaker c.begun.result _ _
    (λ made begun. none-made least c.args.asked.nodes.items (all_stored_in c.args.parts.now) c.in-Ok.new made.0 (map part_change made.1.items) c.session_before-before.ensures.word
    (ap all_stored_in (nil_from_length c.args.parts.now zero)) is begun)
    c.begun.ensures.made

pub returns-in-Ok-clause-new : goal.returns-in-Ok-clause-new
returns-in-Ok-clause-new c =
    let least = c.args.asked.least in
    let is : c.in-Ok.new ≡ raised_before least new_record =
    c.in-Ok.ensures.value ∙ ap (λ (nodes : List (List ℕ)). new_with c.session_before-before.result nodes c.new-then-is_empty.result.items) c.new-none.ensures.items
    ∙ ap (new_with c.session_before-before.result []) c.new-then-is_empty.ensures.items ∙ ap (λ (s : ℕ). new_with s [] []) (c.session_before-before.ensures.value ∙ first-record least) in
    IfOk-weaker c.begun.result _ _ (λ made begun. newly-made-none least c.args.asked.nodes.items c.in-Ok.new made.0 (map part_change made.1.items) is begun) c.begun.ensures.made

pub returns-in-Ok-of_parts-clause-made : goal.returns-in-Ok-of_parts-clause-made
returns-in-Ok-of_parts-clause-made c =
    let read = c.in-Ok-of_parts in
    let found = all_stored_in c.args.parts.now in
    let least = c.args.asked.least in
    let raised : c.raise.new.self ≡ raised_before least read.field-0.kept = c.raise.ensures ∙ ap (λ (s : ℕ). raised_record s read.field-0.kept) c.session_before-before.ensures.value in
    let rules : AreRestorable read.field-0.kept.nodes read.field-0.kept.rows = subst (λ (r : RecordParts). AreRestorable r.nodes r.rows) raised c.begun-in-Ok-of_parts.ensures.rows in
    IfOk-weaker c.begun-in-Ok-of_parts.result _ _
    (λ made begun. read-made least c.args.asked.nodes.items found read.field-0.version read.field-0.kept made.0 (map part_change made.1.items) read.ensures.1 rules
    (subst (λ (r : RecordParts). IsBegun r c.args.asked.nodes.items made.0 (map part_change made.1.items)) raised begun))
    c.begun-in-Ok-of_parts.ensures.made

pub returns-in-Ok-of_parts-clause-new : goal.returns-in-Ok-of_parts-clause-new
returns-in-Ok-of_parts-clause-new c =
    let read = c.in-Ok-of_parts in
    let least = c.args.asked.least in
    let raised : c.raise.new.self ≡ raised_before least read.field-0.kept = c.raise.ensures ∙ ap (λ (s : ℕ). raised_record s read.field-0.kept) c.session_before-before.ensures.value in
    let fit = rows-read read.field-0.version (all_stored_in c.args.parts.now) read.field-0.kept read.ensures.1 in
    IfOk-weaker c.begun-in-Ok-of_parts.result _ _
    (λ made begun. newly-made c.args.asked.nodes.items (raised_before least read.field-0.kept) made.0 (map part_change made.1.items) fit
    (subst (λ (r : RecordParts). IsBegun r c.args.asked.nodes.items made.0 (map part_change made.1.items)) raised begun))
    c.begun-in-Ok-of_parts.ensures.made
