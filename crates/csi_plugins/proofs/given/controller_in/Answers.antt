-- What was read of the parts that the store gave, or why nothing was.
use Rattle.std.proofs.Common.{◌∙◌, sym, ap, subst, List}
use Rattle.csi_stores.specs.declared.keep.KeepFault.{KeepFault}
use Rattle.csi_stores.specs.declared.part.Part.{Part}
use Rattle.csi_stores.specs.Public.Part.{all_stored_in}
use Rattle.csi_streams.specs.declared.ending.Ending.{Ending}
use Rattle.csi_service.specs.Public.Opening.{controller_records}
use Rattle.csi_service.specs.Public.Renewed.{IsReadAs, IsUnread}
use Rattle.csi_plugins.specs.Private.Recovering.{ending_at, changes_of, IsNotRead}
use Rattle.csi_plugins.proofs.GivenStores.{has-read, not-read}
use Rattle.csi_plugins.proofs.given.controller_in.Goals as goal

pub returns-in-Ok-renewed_controller-clause-read : goal.returns-in-Ok-renewed_controller-clause-read
returns-in-Ok-renewed_controller-clause-read g c =
    let told = c.in-Ok.ensures in
    let read = c.in-Ok-renewed_controller.read in
    has-read (g.K.Keep.store c.args.keep.now) (g.K.Keep.store c.load.new.self) c.in-Ok.parts.items told.parts controller_records read.kept (changes_of read.renewal)
    (record { honest = told.honest; left = told.left; some = told.some }) told.stays
    (subst (λ (ps : List Part). IsReadAs controller_records (all_stored_in ps) read.kept (changes_of read.renewal)) c.deref.ensures.value c.in-Ok-renewed_controller.ensures.read)

pub returns-clause-refused : goal.returns-clause-refused
returns-clause-refused g c =
    let told = c.in-Ok.ensures in
    let before = g.K.Keep.store c.args.keep.now in
    let after = g.K.Keep.store c.load.new.self in
    subst (λ (e : Ending). IsNotRead controller_records before after 1 e)
    (sym (c.ending_at-in-Err-renewed_controller.ensures ∙ ap (λ (f : KeepFault). ending_at f 1) c.from.ensures))
    (not-read before after c.in-Ok.parts.items told.parts controller_records 1 c.in-Err-renewed_controller.stop
    (subst (λ (ps : List Part). IsUnread controller_records (all_stored_in ps) c.in-Err-renewed_controller.stop) c.deref.ensures.value c.in-Err-renewed_controller.ensures.refused))
