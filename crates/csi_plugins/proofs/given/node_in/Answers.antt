-- What was read of the parts that the store gave, or why nothing was.
use Rattle.std.proofs.Common.{◌∙◌, sym, ap, subst, List}
use Rattle.csi_stores.specs.declared.keep.KeepFault.{KeepFault}
use Rattle.csi_stores.specs.declared.part.Part.{Part}
use Rattle.csi_stores.specs.Public.Part.{all_stored_in}
use Rattle.csi_streams.specs.declared.ending.Ending.{Ending}
use Rattle.csi_service.specs.Public.Renewed.{any_node_records, IsReadAs, IsUnread}
use Rattle.csi_plugins.specs.Private.Recovering.{ending_at, changes_of, IsNotRead}
use Rattle.csi_plugins.proofs.GivenStores.{has-read, not-read}
use Rattle.csi_plugins.proofs.given.node_in.Goals as goal

pub returns-in-Ok-renewed_node-clause-read : goal.returns-in-Ok-renewed_node-clause-read
returns-in-Ok-renewed_node-clause-read g c =
    let told = c.in-Ok.ensures in
    let read = c.in-Ok-renewed_node.read in
    has-read (g.K.Keep.store c.args.keep.now) (g.K.Keep.store c.load.new.self) c.in-Ok.parts.items told.parts any_node_records read.kept (changes_of read.renewal)
    (record { honest = told.honest; left = told.left; some = told.some }) told.stays
    (subst (λ (ps : List Part). IsReadAs any_node_records (all_stored_in ps) read.kept (changes_of read.renewal)) c.deref.ensures.value c.in-Ok-renewed_node.ensures.read)

pub returns-clause-refused : goal.returns-clause-refused
returns-clause-refused g c =
    let told = c.in-Ok.ensures in
    let before = g.K.Keep.store c.args.keep.now in
    let after = g.K.Keep.store c.load.new.self in
    subst (λ (e : Ending). IsNotRead any_node_records before after c.args.store e)
    (sym (c.ending_at-in-Err-renewed_node.ensures ∙ ap (λ (f : KeepFault). ending_at f c.args.store) c.from.ensures))
    (not-read before after c.in-Ok.parts.items told.parts any_node_records c.args.store c.in-Err-renewed_node.stop
    (subst (λ (ps : List Part). IsUnread any_node_records (all_stored_in ps) c.in-Err-renewed_node.stop) c.deref.ensures.value c.in-Err-renewed_node.ensures.refused))
