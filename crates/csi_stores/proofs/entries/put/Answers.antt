use Rattle.std.proofs.Common.{◌∙◌, ap, refl}
use Rattle.csi_stores.specs.Public.Part.{StoredPart}
use Rattle.csi_stores.specs.Public.Memory.{all_stored}
use Rattle.csi_stores.proofs.EntryPlaces.{push-there}
use Rattle.csi_stores.proofs.entries.put.Goals as goal

pub returns-in_ok-push-in-None : goal.returns-in_ok-push-in-None
returns-in_ok-push-in-None c =
    let part : StoredPart = record { key = c.args.key; value = c.args.value.items } in
    ap all_stored c.in_ok-push-in-None.ensures.items
    ∙ push-there part c.args.entries.now.items _ (cc) refl
