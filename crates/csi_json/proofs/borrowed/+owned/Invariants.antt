-- What was read of the items, and of the members, before a place.
use Rattle.std.proofs.Common.{drop}
use Rattle.serde_json.specs.View.{members_view}
use Rattle.csi_json.proofs.OwnedValues.{ReadSoFar, PutSoFar}
use Rattle.csi_json.proofs.borrowed.+owned.Given as goal

abbrev pub invariant-owned_items-loop-item : goal.invariant-owned_items-loop-item
invariant-owned_items-loop-item l = ReadSoFar l.items (drop l.item-index l.items) l.list.items

abbrev pub invariant-owned_members-loop-member : goal.invariant-owned_members-loop-member
invariant-owned_members-loop-member l = PutSoFar l.members (drop l.member-index l.members) (members_view l.map.entries)
