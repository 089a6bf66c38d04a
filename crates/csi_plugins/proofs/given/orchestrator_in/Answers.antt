-- What was read of the parts that the store gave, or why nothing was.
use Rattle.std.proofs.Common.{◌∙◌, sym, ap, subst, List}
use Rattle.csi_stores.specs.declared.keep.KeepFault.{KeepFault}
use Rattle.csi_stores.specs.declared.part.Part.{Part}
use Rattle.csi_stores.specs.Public.Part.{all_stored_in}
use Rattle.csi_streams.specs.declared.ending.Ending.{Ending}
use Rattle.csi_service.specs.Public.Renewed.{IsUnread}
use Rattle.csi_plugins.specs.Public.Rebuilding.{orchestrator_records}
use Rattle.csi_plugins.specs.Public.Recovering.{IsRecordIn}
use Rattle.csi_plugins.specs.Private.Recovering.{ending_at, IsNotRead}
use Rattle.csi_plugins.proofs.GivenStores.{not-read}
use Rattle.csi_plugins.proofs.RebuiltStores.{record-read, unread}
use Rattle.csi_plugins.proofs.given.orchestrator_in.Goals as goal

pub returns-in-Ok-of_parts-clause-read : goal.returns-in-Ok-of_parts-clause-read
returns-in-Ok-of_parts-clause-read g c =
    let told = c.in-Ok.ensures in
    let kept = c.in-Ok-of_parts.field-0.kept in
    record-read (g.K.Keep.store c.args.keep.now) (g.K.Keep.store c.load.new.self) c.in-Ok.parts.items told.parts orchestrator_records kept
    (record { honest = told.honest; left = told.left; some = told.some })
    (subst (λ (ps : List Part). IsRecordIn orchestrator_records (all_stored_in ps) kept) c.deref.ensures.value (record { version = c.in-Ok-of_parts.field-0.version; is = c.in-Ok-of_parts.ensures.1 }))

pub returns-clause-refused : goal.returns-clause-refused
returns-clause-refused g c =
    let told = c.in-Ok.ensures in
    let before = g.K.Keep.store c.args.keep.now in
    let after = g.K.Keep.store c.load.new.self in
    let stop = c.in-Err-of_parts.stop in
    subst (λ (e : Ending). IsNotRead orchestrator_records before after 1 e)
    (sym (c.ending_at-in-Err-of_parts.ensures ∙ ap (λ (f : KeepFault). ending_at f 1) c.from.ensures))
    (not-read before after c.in-Ok.parts.items told.parts orchestrator_records 1 stop
    (subst (λ (ps : List Part). IsUnread orchestrator_records (all_stored_in ps) stop) c.deref.ensures.value (unread orchestrator_records _ stop c.in-Err-of_parts.ensures)))
