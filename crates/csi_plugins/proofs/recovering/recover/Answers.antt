-- What was read, made and given, and how it is told.
use Rattle.std.proofs.Common.{◌∙◌, sym, subst, inr, refl, map, length, string_bytes}
use Rattle.std.specs.Io.KnownBytes.{Appends}
use Rattle.std.proofs.lemmas.List.{length-map}
use Rattle.csi_stores.specs.Public.Writing.{WritesFront}
use Rattle.csi_streams.specs.declared.ending.Ending.{Ending}
use Rattle.csi_streams.specs.declared.ending.Ending.TheVariants as endings
use Rattle.csi_plugins.specs.Public.Recording.{written_by}
use Rattle.csi_plugins.specs.Public.Recovering.{AllChange, AreInTurn, Recovers}
use Rattle.csi_plugins.specs.Private.Recovering.{changes_of}
use Rattle.csi_plugins.proofs.RecoveredStores.{begun, ends-refused, plan-many}
use Rattle.csi_plugins.proofs.recovering.recover.Goals as goal

pub carry_out-requires : goal.carry_out-requires
carry_out-requires g c =
    let plan = c.in-Ok.plan in
    sym (length-map plan.nodes.items changes_of)
    ∙ plan-many g.K.Keep.store c.args.asked.nodes.items c.args.asked.known
    (record { new = c.args.new.now; controller = c.args.controller.now; nodes = c.args.nodes.now })
    (record { new = c.made.new.new; controller = c.made.new.controller; nodes = c.made.new.nodes })
    (map changes_of plan.nodes.items) (changes_of plan.controller) (changes_of plan.new) (string_bytes plan.line) c.in-Ok.ensures.ready

pub returns-in-Err-carry_out : goal.returns-in-Err-carry_out
returns-in-Err-carry_out g c =
    let plan = c.in-Ok.plan in
    let had = written_by g.W.Write.contents c.args.out.now in
    subst (λ (e : Ending). Recovers g.K.Keep.store c.args.asked.nodes.items c.args.asked.known
    (record { new = c.args.new.now; controller = c.args.controller.now; nodes = c.args.nodes.now })
    (record { new = c.carry_out.new.new; controller = c.carry_out.new.controller; nodes = c.carry_out.new.nodes }) had had e) (sym c.ending_of_store.ensures)
    (inr (begun g.K.Keep.store c.args.asked.nodes.items c.args.asked.known
    (record { new = c.args.new.now; controller = c.args.controller.now; nodes = c.args.nodes.now })
    (record { new = c.made.new.new; controller = c.made.new.controller; nodes = c.made.new.nodes })
    (record { new = c.carry_out.new.new; controller = c.carry_out.new.controller; nodes = c.carry_out.new.nodes })
    (map changes_of plan.nodes.items) (changes_of plan.controller) (changes_of plan.new) (string_bytes plan.line) AreInTurn c.in-Ok.ensures.ready c.in-Err-carry_out.ensures.stopped had had _
    (λ fates ids made turn told. ends-refused c.in-Err-carry_out.fault c.in-Err-carry_out.ensures.cause fates had ids made turn)))

pub returns-in-Ok-write_out : goal.returns-in-Ok-write_out
returns-in-Ok-write_out g c =
    let plan = c.in-Ok.plan in
    let had = written_by g.W.Write.contents c.args.out.now in
    let has = written_by g.W.Write.contents c.write_out.new.writer in
    let out : Appends had.contents has.contents (string_bytes plan.line) = subst (Appends had.contents has.contents) c.as_bytes.ensures.value c.in-Ok-write_out.ensures.ok in
    inr (begun g.K.Keep.store c.args.asked.nodes.items c.args.asked.known
    (record { new = c.args.new.now; controller = c.args.controller.now; nodes = c.args.nodes.now })
    (record { new = c.made.new.new; controller = c.made.new.controller; nodes = c.made.new.nodes })
    (record { new = c.carry_out.new.new; controller = c.carry_out.new.controller; nodes = c.carry_out.new.nodes })
    (map changes_of plan.nodes.items) (changes_of plan.controller) (changes_of plan.new) (string_bytes plan.line) AllChange c.in-Ok.ensures.ready c.in-Ok-carry_out.ensures.done had has endings.Done
    (λ fates ids made all told. (all, c.in-Ok-write_out.ensures.quiet, (told.line, told.is_line, subst (Appends had.contents has.contents) told.ended out))))

pub returns : goal.returns
returns g c =
    let plan = c.in-Ok.plan in
    let had = written_by g.W.Write.contents c.args.out.now in
    let has = written_by g.W.Write.contents c.write_out.new.writer in
    let out : WritesFront had.contents has.contents (string_bytes plan.line) = subst (WritesFront had.contents has.contents) c.as_bytes.ensures.value c.in-Err-write_out.ensures.err in
    inr (begun g.K.Keep.store c.args.asked.nodes.items c.args.asked.known
    (record { new = c.args.new.now; controller = c.args.controller.now; nodes = c.args.nodes.now })
    (record { new = c.made.new.new; controller = c.made.new.controller; nodes = c.made.new.nodes })
    (record { new = c.carry_out.new.new; controller = c.carry_out.new.controller; nodes = c.carry_out.new.nodes })
    (map changes_of plan.nodes.items) (changes_of plan.controller) (changes_of plan.new) (string_bytes plan.line) AllChange c.in-Ok.ensures.ready c.in-Ok-carry_out.ensures.done had has endings.Device
    (λ fates ids made all told. inr (all, c.in-Err-write_out.ensures.risen, (told.line, told.is_line, subst (WritesFront had.contents has.contents) told.ended out))))
