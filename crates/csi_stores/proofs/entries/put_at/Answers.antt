use Rattle.std.proofs.Common.{◌∙◌, ap, refl}
use Rattle.csi_stores.specs.Public.Part.{StoredPart}
use Rattle.csi_stores.specs.Public.Memory.{all_stored}
use Rattle.csi_stores.proofs.EntryPlaces.{set-there, insert-there}
use Rattle.csi_stores.proofs.entries.put_at.Goals as goal

pub returns-then-index-key : goal.returns-then-index-key
returns-then-index-key c =
    let part : StoredPart = record { key = c.args.key; value = c.args.value.items } in
    set-there part c.args.entries.now.items c.args.place _ c.index.result.now c.requires c.index.ensures c.if-index-key.true refl

pub returns-in_ok-insert : goal.returns-in_ok-insert
returns-in_ok-insert c =
    let part : StoredPart = record { key = c.args.key; value = c.args.value.items } in
    ap all_stored c.in_ok-insert.ensures.items
    ∙ insert-there part c.args.entries.now.items c.args.place _ c.index.result.now c.requires c.index.ensures c.if-index-key.false refl
