-- One event more.
use Rattle.std.proofs.Common.{◌≡◌, ◌≢◌, length, None, arith}
use Rattle.json.specs.Json.{after_end_array}
use Rattle.csi_json.specs.Private.Plain.{IsNextPut}
use Rattle.csi_json.proofs.EventTokens.{none_read, one_read, all_read}
use Rattle.csi_json.proofs.plain.read_events.Goals as goal

pub loop-alloc-init : goal.loop-alloc-init
loop-alloc-init c = none_read c.args.reader.now c.new-list.result.items c.new-list.ensures.items

pub loop-alloc-preserved : goal.loop-alloc-preserved
loop-alloc-preserved c =
    let l = c.loop-alloc in
    let r = c.next_event.new.reader in
    let going : (after_end_array l.reader ≡ None) × (c.take_end_array.new.self ≡ l.reader) = grind arith in
    let room : length l.list.items ≢ 100000 = grind arith in
    let next : IsNextPut c.take_end_array.new.self r l.list.items c.next_event.new.list.items = grind arith in
    one_read c.args.reader.now l.reader r l.list.items c.next_event.new.list.items l.invariant going.0 (rw (← going.1) next) room

pub returns : goal.returns
returns c =
    let l = c.loop-alloc in
    all_read c.args.reader.now l.reader c.take_end_array.new.self l.list.items l.invariant (grind arith)
