use Rattle.std.proofs.Common.{◌∷◌, [], arith}
use Rattle.std.proofs.lemmas.Result.{err_from_is_err_and}
use Rattle.std.proofs.lemmas.List.{length-append}
use Rattle.csi_records.specs.declared.fault.ValueStop.TheVariants.{Bad}
use Rattle.csi_records.proofs.FieldReaders.{count-within}
use Rattle.csi_records.proofs.ReadingLists.{counted-as, goes_on, ends, is_done, same_error}
use Rattle.csi_records.proofs.items.list.Goals as goal

pub returns-in_err-one-clause-bad : goal.returns-in_err-one-clause-bad
returns-in_err-one-clause-bad g c = λ is.
    let p = err_from_is_err_and c.from_residual-in_err-one.result c.from_residual-in_err-one.ensures.1 in
    counted-as (g.T.Item.item_in c.args.version) c.args.most c.in_ok-count.count _ _ _ c.in_ok-count.ensures
    (ends (g.T.Item.item_in c.args.version) c.loop.list.items c.in_ok-count.count c.loop.counter c.loop.fields.bytes.now _ c.loop-test.true
    (c.in_err-one.ensures.bad (same_error c.from_residual-in_err-one.result _ _ Bad p.1 p.2 is)) c.loop.invariant.rest)

pub loop-preserved : goal.loop-preserved
loop-preserved g c =
    record {
      few = rw c.in_ok-push.ensures.items (omega (arith, length-append c.loop.list.items (c.in_ok-one.one ∷ []), c.loop.invariant.few));
      rest = rw c.in_ok-push.ensures.items (goes_on (g.T.Item.item_in c.args.version) c.loop.list.items c.in_ok-count.count c.loop.counter c.loop.fields.bytes.now c.in_ok-one.one c.read.new.fields.bytes.now _ c.loop-test.true c.in_ok-one.ensures.read c.loop.invariant.rest);
    }

pub returns-clause-read : goal.returns-clause-read
returns-clause-read g c =
    counted-as (g.T.Item.item_in c.args.version) c.args.most c.in_ok-count.count _ _ _ c.in_ok-count.ensures
    (is_done (g.T.Item.item_in c.args.version) c.loop.list.items c.in_ok-count.count c.loop.counter c.loop.fields.bytes.now _ c.loop-test.false c.loop.invariant.rest)

pub returns-clause-within : goal.returns-clause-within
returns-clause-within g c = omega (arith, c.loop.invariant.few, c.loop-test.false, c.loop.auto.counter-end, count-within c.args.most _ _ _ c.in_ok-count.ensures)
