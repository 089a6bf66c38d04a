use Rattle.std.proofs.Common.{inr, refl, sym, subst, suc, map, length, arith}
use Rattle.std.proofs.lemmas.List.{length-map}
use Rattle.csi_orchestrator.specs.Public.Judging.{IsFirstRefused}
use Rattle.csi_orchestrator.specs.Public.Record.{AreNodesFit, IsRecordRefusal, RecordParts}
use Rattle.csi_orchestrator.specs.Public.Restored.{AreRestorable}
use Rattle.csi_orchestrator.specs.Public.Shown.{row_shown}
use Rattle.csi_stores.specs.Public.Part.{all_stored_in}
use Rattle.csi_records.specs.Public.OrchestratorRows.{OrchestratorHeadShown}
use Rattle.csi_records.specs.Public.OrchestratorRecords.{keyed_from, IsRecordHead, orchestrator_layout, IsOrchestratorOf}
use Rattle.csi_records.specs.Private.Stopping.{IsRowUnder}
use Rattle.csi_records.proofs.KeyedRows.{keyed-length}
use Rattle.csi_records.proofs.Layouts.{head-refused, all-read, row-unread, row-refused}
use Rattle.csi_records.proofs.OrchestratorLayouts.{orchestrator_one, nodes-unfit, keyed-next, keyed-rules, rules-keyed}
use Rattle.csi_records.proofs.orchestrator_record.orchestrator_record.Goals as goal

pub returns-in-Ok-try_new : goal.returns-in-Ok-try_new
returns-in-Ok-try_new c =
    let version = c.args.version in
    let head : OrchestratorHeadShown = record { session = c.in-Ok.head.session; nodes = c.in-Ok.head.nodes.items } in
    let fits : IsRecordHead version head = record { fits = c.in-Ok.ensures.head.0; nodes = c.in-Ok-try_new.ensures.nodes } in
    let rows = map row_shown c.in_ok-rows.field-0.rows.items in
    let here =
    all-read (orchestrator_layout version) (IsRowUnder version (suc (length rows))) head (keyed_from 1 rows) c.args.parts.now c.first-item.result c.in_ok-rows.field-0.all c.in-len1-up.len_at_least c.first-item.is c.in-Ok.ensures.head.1 fits
    c.in_ok-rows.ensures.fit c.in_ok-rows.ensures.stops c.if-all.true (record { rows = rows; places = refl; rules = c.in-Ok-try_new.ensures.rows }) in
    (record { first = head; rows = keyed_from 1 rows; spelled = here }, subst (λ (kept : RecordParts). IsOrchestratorOf version (all_stored_in c.args.parts.now) kept) (sym c.in-Ok-try_new.ensures.value) here)

pub returns-in-Err-Bad : goal.returns-in-Err-Bad
returns-in-Err-Bad c =
    inr (head-refused (orchestrator_layout c.args.version) c.args.parts.now c.first-item.result c.in-len1-up.len_at_least c.first-item.is (λ first fits same. c.in-Err-Bad.ensures.bad (cc) first fits.fits same))

pub returns-in-Err-BadNodes : goal.returns-in-Err-BadNodes
returns-in-Err-BadNodes c =
    let head : OrchestratorHeadShown = record { session = c.in-Ok.head.session; nodes = c.in-Ok.head.nodes.items } in
    let rows = map row_shown c.in_ok-rows.field-0.rows.items in
    inr (nodes-unfit c.args.version head c.args.parts.now c.first-item.result c.in-len1-up.len_at_least c.first-item.is c.in-Ok.ensures.head.1 c.in-Ok.ensures.head.0
    (subst (IsRecordRefusal head.nodes rows) c.in-Err-BadNodes.field-0-is c.in-Err-BadNodes.ensures.refused))

pub returns-in-Err-BadRow : goal.returns-in-Err-BadRow
returns-in-Err-BadRow c =
    let version = c.args.version in
    let head : OrchestratorHeadShown = record { session = c.in-Ok.head.session; nodes = c.in-Ok.head.nodes.items } in
    let rows = map row_shown c.in_ok-rows.field-0.rows.items in
    let first : AreNodesFit head.nodes × IsFirstRefused (AreRestorable head.nodes) rows c.in-Err-BadRow.bad = subst (IsRecordRefusal head.nodes rows) c.in-Err-BadRow.field-0-is c.in-Err-BadRow.ensures.refused in
    inr (row-refused (orchestrator_layout version) (IsRowUnder version (suc (length rows))) head (keyed_from 1 rows) c.args.parts.now c.first-item.result c.in_ok-rows.field-0.all c.in-len1-up.len_at_least c.first-item.is c.in-Ok.ensures.head.1
    (record { fits = c.in-Ok.ensures.head.0; nodes = first.0 }) c.in_ok-rows.ensures.fit c.in_ok-rows.ensures.stops (orchestrator_one version) c.in-Err-BadRow.bad first.1.from (omega (arith, first.1.to, keyed-length 1 rows))
    (keyed-rules head rows _ first.1.before) (λ are. first.1.refused (rules-keyed head rows _ are)))

pub returns-in-Ok-2 : goal.returns-in-Ok-2
returns-in-Ok-2 c =
    let version = c.args.version in
    let head : OrchestratorHeadShown = record { session = c.in-Ok.head.session; nodes = c.in-Ok.head.nodes.items } in
    let rows = map row_shown c.in_ok-rows.field-0.rows.items in
    inr (row-unread (orchestrator_layout version) (IsRowUnder version (suc (length rows))) head (keyed_from 1 rows) c.args.parts.now c.first-item.result c.in_ok-rows.field-0.all c.in-len1-up.len_at_least c.first-item.is c.in-Ok.ensures.head.1
    (record { fits = c.in-Ok.ensures.head.0; nodes = c.in-Ok-2.ensures.nodes }) c.in_ok-rows.ensures.fit c.in_ok-rows.ensures.stops c.len.result
    (omega (arith, c.len.ensures, keyed-length 1 rows, length-map c.in_ok-rows.field-0.rows.items row_shown)) c.if-all.false (keyed-next version rows) (record { rows = rows; places = refl; rules = c.in-Ok-2.ensures.rows }))
