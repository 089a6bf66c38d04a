use Rattle.std.proofs.Common.{◌≡◌, ◌++◌, ◌∷◌, [], sym, subst, rules, arith, List}
use Rattle.std.proofs.lemmas.List.{length-append, length-map, map_push}
use Rattle.csi_frames.specs.Public.Bytes.{AreBytes}
use Rattle.csi_stores.specs.Public.Part.{StoredPart, all_stored_in, stored_in}
use Rattle.csi_records.specs.Private.Reading.{read_record_head, read_code, read_byte}
use Rattle.csi_records.proofs.SplittingBytes.{no-head, IsSoFar, zero-head, make_head, one-more, split-stopped, split-ended, bytes-after}
use Rattle.csi_records.proofs.splitting.split.Goals as goal

pub returns-in_err-any_byte-clause-bad : goal.returns-in_err-any_byte-clause-bad
unfolding read_record_head read_code read_byte
returns-in_err-any_byte-clause-bad c = λ is. no-head c.args.bytes.now (search rules)

pub returns-in_default-clause-bad : goal.returns-in_default-clause-bad
unfolding read_record_head read_code read_byte
returns-in_default-clause-bad c = λ is. no-head c.args.bytes.now (search rules)

pub returns-in_err-count-clause-bad : goal.returns-in_err-count-clause-bad
unfolding read_record_head read_code read_byte
returns-in_err-count-clause-bad c = λ is. no-head c.args.bytes.now (search rules)

pub returns-then-count-eq0-clause-bad : goal.returns-then-count-eq0-clause-bad
unfolding read_record_head read_code read_byte
returns-then-count-eq0-clause-bad c = λ is. zero-head c.args.bytes.now c.long.new.fields.bytes.now (make_head c.in-Some.version c.in_ok-count.count) c.if-count-eq0.true (search rules)

pub returns-in-Err-Bad-clause-split : goal.returns-in-Err-Bad-clause-split
unfolding read_record_head read_code read_byte
returns-in-Err-Bad-clause-split c =
    let fits : AreBytes c.args.bytes.now = λ i. omega (arith, c.type_inv.bytes i) in
    let few = length-map c.loop.parts.items stored_in in
    split-stopped c.args.bytes.now c.long.new.fields.bytes.now c.loop.fields.bytes.now (make_head c.in-Some.version c.in_ok-count.count) (all_stored_in c.loop.parts.items) fits (search rules) (omega (arith, c.if-count-eq0.false))
    c.loop.invariant.so_far (omega (arith, few, c.loop.invariant.few, c.loop-test.true)) (c.in-Err-Bad.ensures.bad (cc))

pub loop-preserved : goal.loop-preserved
unfolding read_record_head read_code read_byte
loop-preserved c =
    let fits : AreBytes c.args.bytes.now = λ i. omega (arith, c.type_inv.bytes i) in
    let all : all_stored_in c.push.new.self.items ≡ all_stored_in c.loop.parts.items ++ stored_in c.in-Ok.one ∷ [] = rw c.in_ok-push-in-Ok.ensures.items (map_push stored_in c.loop.parts.items c.in-Ok.one) in
    record {
      few = rw c.in_ok-push-in-Ok.ensures.items (omega (arith, length-append c.loop.parts.items (c.in-Ok.one ∷ []), c.loop.invariant.few));
      so_far = subst (λ (ps : List StoredPart). IsSoFar c.long.new.fields.bytes.now ps c.part.new.fields.bytes.now) (sym all)
          (one-more c.long.new.fields.bytes.now (all_stored_in c.loop.parts.items) c.loop.fields.bytes.now c.part.new.fields.bytes.now (stored_in c.in-Ok.one)
          (bytes-after c.args.bytes.now c.long.new.fields.bytes.now (make_head c.in-Some.version c.in_ok-count.count) fits (search rules)) c.loop.invariant.so_far c.in-Ok.ensures.read);
    }

pub returns-clause-split : goal.returns-clause-split
unfolding read_record_head read_code read_byte
returns-clause-split c =
    let fits : AreBytes c.args.bytes.now = λ i. omega (arith, c.type_inv.bytes i) in
    let few = length-map c.loop.parts.items stored_in in
    split-ended c.args.bytes.now c.long.new.fields.bytes.now c.loop.fields.bytes.now (make_head c.in-Some.version c.in_ok-count.count) (all_stored_in c.loop.parts.items) c.is_empty.result fits (search rules) (omega (arith, c.if-count-eq0.false))
    c.loop.invariant.so_far (omega (arith, few, c.loop.invariant.few, c.loop-test.false, c.loop.auto.counter-end)) c.is_empty.ensures
