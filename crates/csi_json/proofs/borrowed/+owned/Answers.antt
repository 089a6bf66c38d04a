-- A value as it is made of its parts.
use Rattle.std.proofs.Common.{◌≡◌, sym, ap, ◌∙◌, arith}
use Rattle.std.specs.Prelude.{Some, option_map}
use Rattle.json.specs.Json.{object}
use Rattle.json.specs.Value.{value_view, members_view as members_seen}
use Rattle.json.proofs.Trees.{view-Object as seen-Object}
use Rattle.serde_json.specs.Data as datum
use Rattle.serde_json.specs.Read.{of_json, of_members}
use Rattle.serde_json.specs.View.{members_view}
use Rattle.serde_json.proofs.Views.{view-Object}
use Rattle.csi_json.proofs.OwnedValues.{item_read, all_read}
use Rattle.csi_json.proofs.borrowed.+owned.Goals as goal

pub owned-returns-in_ok-owned_members-in-Object : goal.owned-returns-in_ok-owned_members-in-Object
owned-returns-in_ok-owned_members-in-Object t c =
    let members = c.in-Object.members in
    let map = c.in_ok-owned_members-in-Object.field-0 in
    let seen : value_view c.args.value.now ≡ object (members_seen members.items) = ap value_view c.in-Object.is ∙ seen-Object members in
    let read : of_members (members_seen members.items) datum.no_members ≡ Some (members_view map.entries) =
    ap (λ ms. of_members (members_seen ms) datum.no_members) (sym c.deref-in-Object.ensures.value) ∙ c.in_ok-owned_members-in-Object.ensures in
    ap of_json seen ∙ ap (option_map datum.object) read ∙ ap Some (sym (view-Object map))

pub owned_items-loop-item-preserved : goal.owned_items-loop-item-preserved
owned_items-loop-item-preserved t c =
    let xs = c.args.items.now in
    let place = c.loop-item.item-index in
    rw c.in_ok-push.ensures.items
    (item_read xs place c.item-item.result c.loop-item.list.items c.in_ok-value.value (omega arith) c.item-item.is c.in_ok-value.ensures c.loop-item.invariant)

pub owned_items-returns : goal.owned_items-returns
owned_items-returns t c = all_read c.args.items.now c.loop-item.item-index c.loop-item.list.items (omega arith) c.loop-item.invariant
