-- The rules of a row, as it is shown, are kept by what a call changes of it.
use Rattle.std.proofs.Common.{◌≡◌, ◌<◌, ◌≤◌, ◌+◌, ℕ, length, Bool, true, false, cond, not, List, [], ◌∷◌, ◌++◌, sym, ◌∙◌, ap, subst, arith}
use Rattle.std.specs.Prelude.{None, find, filter, ◌&&◌, IsTrue}
use Rattle.std.specs.List.{AllByRecursion}
use Rattle.std.proofs.lemmas.Bool.{false≢true}
use Rattle.std.proofs.lemmas.List.{length-append}
use Rattle.csi_types.proofs.Each.{each-append_one, each-filter, each-weaker}
use Rattle.csi_types.proofs.Filters.{filter-no_longer}
use Rattle.csi_types.proofs.Places.{AtMostOne-append, AtMostOne-filter}
use Rattle.csi_types.proofs.Searches.{find_none-all}
use Rattle.csi_types.specs.declared.capability.Capability.{Capability}
use Rattle.csi_types.specs.Model.Holding.{is_compatible, is_second_writer}
use Rattle.csi_types.specs.Model.Sharing.{is_multi_node}
use Rattle.csi_types.specs.Model.Same.{same_text, same_capability, same_flag, has_capability}
use Rattle.csi_types.proofs.Equality.{same_text-tells}
use Rattle.csi_controller.specs.declared.row.NodeHolding.{NodeHolding}
use Rattle.csi_controller.specs.declared.row.ControllerRow.{ControllerRow}
use Rattle.csi_controller.specs.Public.Core.{AreCompatible, IsSoundRow, volume_holding, next_shown}
use Rattle.csi_controller.specs.Model.Table.{Change, Stays, Makes, Ends, Attaches, Detaches}
use Rattle.csi_controller.specs.Public.OneRow.{RowShown, row_shown, row_changed, held_by}
use Rattle.csi_controller.specs.Private.OneRow.{CanChange}
use Rattle.csi_controller.specs.Public.Plan.{IsSoundBy}
use Rattle.csi_controller.proofs.Holdings.{self}

-- holdings that can be held together can be so where some are taken out
AreCompatible-filter : (q : NodeHolding → Bool) (items : List NodeHolding) → AreCompatible items → AreCompatible (filter q items)
AreCompatible-filter q [] all = tt
AreCompatible-filter q (held ∷ later) all = by (q held) (AreCompatible-filter q later (all.1))
  where
    by : (b : Bool) → AreCompatible (filter q later) → AreCompatible (cond b (held ∷ filter q later) (filter q later))
    by true k = (each-filter _ q later (all.0), k)
    by false k = k

-- and with one more at the end, which can be held with each
AreCompatible-append : (items : List NodeHolding) (wanted : NodeHolding) → AreCompatible items → AllByRecursion (λ (held : NodeHolding). is_compatible (volume_holding 1 wanted) (volume_holding 1 held) ≡ true) items → AreCompatible (items ++ wanted ∷ [])
AreCompatible-append [] wanted all each = (tt, tt)
AreCompatible-append (held ∷ later) wanted all each =
    (each-append_one (λ (other : NodeHolding). is_compatible (volume_holding 1 other) (volume_holding 1 held) ≡ true) later wanted (all.0) (each.0), AreCompatible-append later wanted (all.1) (each.1))

-- the volume makes no difference where it is the same
compatible-any : (a b : ℕ) (x y : NodeHolding) → is_compatible (volume_holding a x) (volume_holding a y) ≡ is_compatible (volume_holding b x) (volume_holding b y)
compatible-any a b x y =
    ap (λ (t : Bool). cond (same_text x.node y.node) (t && same_text x.node y.node && same_capability x.capability y.capability && same_flag x.readonly y.readonly)
    (is_multi_node x.capability.mode && is_multi_node y.capability.mode && not (is_second_writer (volume_holding a x) (volume_holding a y)))) (self a ∙ sym (self b))

-- the holding's capability is among these
abbrev IsListed : List Capability → NodeHolding → Type 0
IsListed capabilities held = IsTrue (has_capability capabilities held.capability)

-- fewer than 64 holdings are at most 64 with one more
one_more : (items : List NodeHolding) (held : NodeHolding) → length items < 64 → length (items ++ held ∷ []) ≤ 64
one_more items held room = let longer : length (items ++ held ∷ []) ≡ length items + 1 = length-append items (held ∷ []) in omega (arith, room, longer)

-- a row keeps the rules after a change that can be made
pub sound-changed : (n : ℕ) (row : RowShown) (change : Change) → IsSoundBy n row → CanChange row change → IsSoundBy n (row_changed row change)
sound-changed n row Stays sound can = sound
sound-changed n row (Makes name capacity capabilities) sound can = absurd can
sound-changed n row (Ends volume) sound can = record {
  below = sound.below;
  party = sound.party;
  reply = sound.reply;
  apart = sound.apart;
  compatible = sound.compatible;
  gone = λ e. can.1;
  capacity_from = sound.capacity_from;
  capacity_to = sound.capacity_to;
  capable = sound.capable;
  listed = sound.listed;
  limit = sound.limit;
}
sound-changed n row (Attaches holding) sound can =
    let held : NodeHolding = held_by holding in
    let own = can.own in
    let beside : find (λ (other : NodeHolding). not (is_compatible (volume_holding row.volume.id held) (volume_holding row.volume.id other))) row.items ≡ None =
    (λ i. find (λ (other : NodeHolding). not (is_compatible (record { volume = sym own i; node = holding.node; capability = holding.capability; readonly = holding.readonly }) (volume_holding row.volume.id other))) row.items) ∙ can.beside in
    record {
      below = sound.below;
      party = sound.party;
      reply = sound.reply;
      apart = λ node. AtMostOne-append (λ (other : NodeHolding). same_text other.node node) row.items held (sound.apart node)
          (λ e. subst (λ k. find (λ (other : NodeHolding). same_text other.node k) row.items ≡ None) ((same_text-tells held.node node).0 e) can.free);
      compatible = AreCompatible-append row.items held sound.compatible
          (each-weaker _ _ row.items (λ other e. compatible-any 1 row.volume.id held other ∙ e) (find_none-all (λ other. is_compatible (volume_holding row.volume.id held) (volume_holding row.volume.id other)) row.items beside));
      gone = λ e. absurd (false≢true (sym e ∙ can.live));
      capacity_from = sound.capacity_from;
      capacity_to = sound.capacity_to;
      capable = sound.capable;
      listed = each-append_one (IsListed row.volume.capabilities) row.items held sound.listed can.listed;
      limit = one_more row.items held can.limit;
    }
sound-changed n row (Detaches volume node) sound can =
    let left : List NodeHolding = filter (λ (held : NodeHolding). not (same_text held.node node)) row.items in
    record {
      below = sound.below;
      party = sound.party;
      reply = sound.reply;
      apart = λ other. AtMostOne-filter (λ (held : NodeHolding). same_text held.node other) (λ (held : NodeHolding). not (same_text held.node node)) row.items (sound.apart other);
      compatible = AreCompatible-filter (λ (held : NodeHolding). not (same_text held.node node)) row.items sound.compatible;
      gone = λ e. ap (filter (λ (held : NodeHolding). not (same_text held.node node))) (sound.gone e);
      capacity_from = sound.capacity_from;
      capacity_to = sound.capacity_to;
      capable = sound.capable;
      listed = each-filter (IsListed row.volume.capabilities) (λ (held : NodeHolding). not (same_text held.node node)) row.items sound.listed;
      limit = let shorter : length left ≤ length row.items = filter-no_longer (λ (held : NodeHolding). not (same_text held.node node)) row.items in let limit = sound.limit in omega (arith, shorter, limit);
    }

-- the rules of a record's row are those of the row as it is shown
pub sound-shown : (n : ℕ) (row : ControllerRow) → IsSoundRow n row → IsSoundBy (next_shown n) (row_shown row)
sound-shown n row sound = record {
  below = sound.below;
  party = sound.party;
  reply = sound.reply;
  apart = sound.apart;
  compatible = sound.compatible;
  gone = sound.gone;
  capacity_from = sound.capacity_from;
  capacity_to = sound.capacity_to;
  capable = sound.capable;
  listed = sound.listed;
  limit = sound.limit;
}

-- and the other way round
pub sound-row : (n : ℕ) (row : ControllerRow) → IsSoundBy (next_shown n) (row_shown row) → IsSoundRow n row
sound-row n row sound = record {
  below = sound.below;
  party = sound.party;
  reply = sound.reply;
  apart = sound.apart;
  compatible = sound.compatible;
  gone = sound.gone;
  capacity_from = sound.capacity_from;
  capacity_to = sound.capacity_to;
  capable = sound.capable;
  listed = sound.listed;
  limit = sound.limit;
}
