use Rattle.std.proofs.Common.{◌≡◌, ◌++◌, ◌∷◌, [], map}
use Rattle.std.proofs.lemmas.List.{map-append}
use Rattle.std.proofs.lemmas.Result.{err_from_is_err_and}
use Rattle.csi_orchestrator.specs.Public.Shown.{node_entry_shown}
use Rattle.csi_records.specs.declared.fault.ValueStop.TheVariants.{Bad}
use Rattle.csi_records.specs.Private.OrchestratorReading.{read_node_entry}
use Rattle.csi_records.proofs.ReadingLists.{counted-as, goes_on, ends, is_done, same_error}
use Rattle.csi_records.proofs.entries.node_entries.Goals as goal

pub returns-in_err-one-clause-bad : goal.returns-in_err-one-clause-bad
returns-in_err-one-clause-bad c = λ is.
    let p = err_from_is_err_and c.from_residual-in_err-one.result c.from_residual-in_err-one.ensures.1 in
    counted-as (read_node_entry c.args.version) 64 c.in_ok-count.count _ _ _ c.in_ok-count.ensures
    (ends (read_node_entry c.args.version) (map node_entry_shown c.loop.list.items) c.in_ok-count.count c.loop.counter c.loop.fields.bytes.now _ c.loop-test.true
    (c.in_err-one.ensures.bad (same_error c.from_residual-in_err-one.result _ _ Bad p.1 p.2 is)) c.loop.invariant)

pub loop-preserved : goal.loop-preserved
loop-preserved c =
    let more : map node_entry_shown (c.loop.list.items ++ c.in_ok-one.one ∷ []) ≡ map node_entry_shown c.loop.list.items ++ node_entry_shown c.in_ok-one.one ∷ [] = map-append node_entry_shown c.loop.list.items (c.in_ok-one.one ∷ []) in
    rw (c.in_ok-push.ensures.items, more) (goes_on (read_node_entry c.args.version) (map node_entry_shown c.loop.list.items) c.in_ok-count.count c.loop.counter c.loop.fields.bytes.now (node_entry_shown c.in_ok-one.one) c.node_entry.new.fields.bytes.now _ c.loop-test.true c.in_ok-one.ensures.read c.loop.invariant)

pub returns-clause-read : goal.returns-clause-read
returns-clause-read c =
    counted-as (read_node_entry c.args.version) 64 c.in_ok-count.count _ _ _ c.in_ok-count.ensures
    (is_done (read_node_entry c.args.version) (map node_entry_shown c.loop.list.items) c.in_ok-count.count c.loop.counter c.loop.fields.bytes.now _ c.loop-test.false c.loop.invariant)
