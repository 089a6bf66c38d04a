-- What was read, made and given, and how it is told.
use Rattle.std.proofs.Common.{sym, ap, subst, inr, refl, map, string_bytes}
use Rattle.std.specs.Io.KnownBytes.{Appends}
use Rattle.csi_stores.specs.Public.Part.{part_change}
use Rattle.csi_stores.specs.Public.Writing.{WritesFront}
use Rattle.csi_streams.specs.declared.ending.Ending.{Ending}
use Rattle.csi_streams.specs.declared.ending.Ending.TheVariants as endings
use Rattle.csi_plugins.specs.Public.Recording.{written_by}
use Rattle.csi_plugins.specs.Public.Recovering.Fate.{MayChange, Changes}
use Rattle.csi_plugins.specs.Public.Rebuilding.{Rebuilds}
use Rattle.csi_plugins.specs.Private.Recovering.{changes_of, IsGiven}
use Rattle.csi_plugins.proofs.RebuiltStores.{rebuilding-begun, rebuilding-refused}
use Rattle.csi_plugins.proofs.rebuilding.rebuild.Goals as goal

pub returns-in-Err-give : goal.returns-in-Err-give
returns-in-Err-give g c =
    let plan = c.in-Ok.plan in
    let had = written_by g.W.Write.contents c.args.out.now in
    let seen = g.K.Keep.store in
    subst (λ (e : Ending). Rebuilds seen c.args.next_id
    (record { new = c.args.new.now; orchestrator = c.args.orchestrator.now; nodes = c.args.nodes.now })
    (record { new = c.give.new.new; orchestrator = c.made.new.orchestrator; nodes = c.made.new.nodes }) had had e) (sym c.ending_of_store.ensures)
    (inr (rebuilding-begun seen c.args.next_id
    (record { new = c.args.new.now; orchestrator = c.args.orchestrator.now; nodes = c.args.nodes.now })
    (record { new = c.made.new.new; orchestrator = c.made.new.orchestrator; nodes = c.made.new.nodes })
    c.give.new.new (changes_of plan.new) (string_bytes plan.line) c.in-Ok.ensures.ready MayChange
    (subst (IsGiven MayChange (seen c.made.new.new) (seen c.give.new.new)) (ap (map part_change) c.deref.ensures.value) c.in-Err-give.ensures.stopped) had had _
    (λ kept made told. rebuilding-refused c.in-Err-give.fault c.in-Err-give.ensures.cause had kept made)))

pub returns-in-Ok-write_out : goal.returns-in-Ok-write_out
returns-in-Ok-write_out g c =
    let plan = c.in-Ok.plan in
    let had = written_by g.W.Write.contents c.args.out.now in
    let has = written_by g.W.Write.contents c.write_out.new.writer in
    let seen = g.K.Keep.store in
    let out : Appends had.contents has.contents (string_bytes plan.line) = subst (Appends had.contents has.contents) c.as_bytes.ensures.value c.in-Ok-write_out.ensures.ok in
    inr (rebuilding-begun seen c.args.next_id
    (record { new = c.args.new.now; orchestrator = c.args.orchestrator.now; nodes = c.args.nodes.now })
    (record { new = c.made.new.new; orchestrator = c.made.new.orchestrator; nodes = c.made.new.nodes })
    c.give.new.new (changes_of plan.new) (string_bytes plan.line) c.in-Ok.ensures.ready Changes
    (subst (IsGiven Changes (seen c.made.new.new) (seen c.give.new.new)) (ap (map part_change) c.deref.ensures.value) c.in-Ok-give.ensures.done) had has endings.Done
    (λ kept made told. (refl, c.in-Ok-write_out.ensures.quiet, (told.line, told.is_line, subst (Appends had.contents has.contents) told.ended out))))

pub returns : goal.returns
returns g c =
    let plan = c.in-Ok.plan in
    let had = written_by g.W.Write.contents c.args.out.now in
    let has = written_by g.W.Write.contents c.write_out.new.writer in
    let seen = g.K.Keep.store in
    let out : WritesFront had.contents has.contents (string_bytes plan.line) = subst (WritesFront had.contents has.contents) c.as_bytes.ensures.value c.in-Err-write_out.ensures.err in
    inr (rebuilding-begun seen c.args.next_id
    (record { new = c.args.new.now; orchestrator = c.args.orchestrator.now; nodes = c.args.nodes.now })
    (record { new = c.made.new.new; orchestrator = c.made.new.orchestrator; nodes = c.made.new.nodes })
    c.give.new.new (changes_of plan.new) (string_bytes plan.line) c.in-Ok.ensures.ready Changes
    (subst (IsGiven Changes (seen c.made.new.new) (seen c.give.new.new)) (ap (map part_change) c.deref.ensures.value) c.in-Ok-give.ensures.done) had has endings.Device
    (λ kept made told. inr (refl, c.in-Err-write_out.ensures.risen, (told.line, told.is_line, subst (WritesFront had.contents has.contents) told.ended out))))
