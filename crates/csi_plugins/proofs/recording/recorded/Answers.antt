-- The parts that were loaded are those that the store has.
use Rattle.std.proofs.Common.{string_bytes}
use Rattle.std.proofs.lemmas.Result.{IfErr-weaker, IfOk-weaker}
use Rattle.csi_stores.specs.Public.Part.{all_stored_in}
use Rattle.csi_service.proofs.LoadedParts.{all-put}
use Rattle.csi_plugins.proofs.Tellings.{is_told, not_told, load_refused, refuses_at}
use Rattle.csi_plugins.proofs.recording.recorded.Goals as goal

pub returns-in-Ok-clause-line : goal.returns-in-Ok-clause-line
returns-in-Ok-clause-line g c =
    let before = g.K.Keep.store c.args.keep.now in
    let after = g.K.Keep.store c.load.new.self in
    IfOk-weaker c.line_of.result _ _ (λ text is. is_told before after (all_stored_in c.deref.result.now) (λ honest content holds. rw c.deref.ensures.value (all-put c.in-Ok.parts.items content (c.in-Ok.ensures.parts honest content holds))) (string_bytes text) is) c.line_of.ensures.line

pub returns-in-Ok-clause-refused : goal.returns-in-Ok-clause-refused
returns-in-Ok-clause-refused g c =
    let before = g.K.Keep.store c.args.keep.now in
    let after = g.K.Keep.store c.load.new.self in
    IfErr-weaker c.line_of.result _ _ (not_told before after (all_stored_in c.deref.result.now) (λ honest content holds. rw c.deref.ensures.value (all-put c.in-Ok.parts.items content (c.in-Ok.ensures.parts honest content holds)))) c.line_of.ensures.refused

pub returns-in-Err-clause-refused : goal.returns-in-Err-clause-refused
returns-in-Err-clause-refused g c =
    let before = g.K.Keep.store c.args.keep.now in
    let after = g.K.Keep.store c.load.new.self in
    rw c.ending_of_store.ensures (load_refused before after c.in-Err.fault c.in-Err.ensures.cause)

pub returns-in-Err-clause-foreign : goal.returns-in-Err-clause-foreign
returns-in-Err-clause-foreign g c honest place foreign = rw c.ending_of_store.ensures (refuses_at place c.in-Err.fault (c.in-Err.ensures.foreign honest place foreign))
