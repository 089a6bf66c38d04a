-- The tests of a row are passed exactly where it keeps the rules.
use Rattle.std.proofs.Common.{◌≡◌, ◌≤◌, ℕ, length, Bool, true, false, not, List, [], ◌∷◌, refl, ap, subst, arith}
use Rattle.std.specs.Bool.{Decides}
use Rattle.std.specs.Prelude.{None, find, ◌==◌, ◌&&◌, ◌||◌, nat_le}
use Rattle.std.specs.List.{AllByRecursion, list_all}
use Rattle.std.proofs.lemmas.Bool.{eq-eqb, eqb-false, eqb-true, le-leb, leb-true, ne_eqb, not-true, not_from_false, true≢false}
use Rattle.std.proofs.lemmas.Bool.Decides.{Decides-and, Decides-ltb}
use Rattle.csi_types.proofs.Members.{each_of}
use Rattle.csi_types.proofs.Searches.{find-none}
use Rattle.csi_types.specs.Public.Places.{AtMostOne}
use Rattle.csi_types.proofs.Equality.{same_text-tells}
use Rattle.csi_types.specs.declared.call.Party.TheVariants.{Controller}
use Rattle.csi_types.specs.declared.capability.Capability.{Capability}
use Rattle.csi_types.specs.Public.Call.{is_party_of}
use Rattle.csi_types.specs.Model.Holding.{is_compatible}
use Rattle.csi_types.specs.Public.Reply.{has_id_by_rule}
use Rattle.csi_types.specs.Model.Same.{same_text, has_capability}
use Rattle.csi_controller.specs.declared.row.NodeHolding.{NodeHolding}
use Rattle.csi_controller.specs.declared.row.ControllerRow.{ControllerRow}
use Rattle.csi_controller.specs.Public.Core.{AreCompatible, IsSoundRow, volume_holding, next_shown}
use Rattle.csi_controller.specs.Private.SoundRow.{has_fit_numbers, has_own_reply, are_beside, are_fit, has_fit_holdings, is_sound_row}
use Rattle.csi_controller.proofs.Exclusive.{other_nodes}

-- ---- tests

-- a test tells that it is passed
itself : (b : Bool) → Decides b (b ≡ true)
itself b = (λ h. h, λ h. h)

-- and its opposite that it isn't
opposite : (b : Bool) → Decides (not b) (b ≡ false)
opposite b = (not-true b, not_from_false b)

-- a comparison tells what it compares
at_most : (a b : ℕ) → Decides (nat_le a b) (a ≤ b)
at_most a b = (leb-true a b, le-leb a b)

-- ---- the holdings

-- of a holding and those after it: they are at other nodes, and can be held with it
beside-tells : (held : NodeHolding) (later : List NodeHolding) → Decides (list_all (are_beside held) later)
    (AllByRecursion (λ (h : NodeHolding). same_text h.node held.node ≡ false) later × AllByRecursion (λ (h : NodeHolding). is_compatible (volume_holding 1 h) (volume_holding 1 held) ≡ true) later)
beside-tells held [] = (λ h. (tt, tt), λ is. refl)
beside-tells held (h ∷ hs) =
    let compatible : Bool = is_compatible (volume_holding 1 h) (volume_holding 1 held) in
    let one = Decides-and (not (same_text h.node held.node)) compatible (opposite (same_text h.node held.node)) (itself compatible) in
    let all = Decides-and (are_beside held h) (list_all (are_beside held) hs) one (beside-tells held hs) in
    (λ passed. let is = all.0 passed in ((is.0.0, is.1.0), (is.0.1, is.1.1)), λ is. all.1 ((is.0.0, is.1.0), (is.0.1, is.1.1)))

-- where a holding is at a node, none that is at another is at that node
none-at_node : (held : NodeHolding) (later : List NodeHolding) (node : List ℕ) → same_text held.node node ≡ true → AllByRecursion (λ (h : NodeHolding). same_text h.node held.node ≡ false) later
    → find (λ (h : NodeHolding). same_text h.node node) later ≡ None
none-at_node held later node e others =
    find-none (λ (h : NodeHolding). same_text h.node node) later
    (λ h among. subst (λ k. same_text h.node k ≡ false) ((same_text-tells held.node node).0 e) (each_of (λ (other : NodeHolding). same_text other.node held.node ≡ false) later h others among))

-- each is in one of these capabilities, at a node of its own, and can be held with each earlier one
fit-tells : (capabilities : List Capability) (items : List NodeHolding) → Decides (are_fit capabilities items)
    (AllByRecursion (λ (h : NodeHolding). has_capability capabilities h.capability ≡ true) items × (((node : List ℕ) → AtMostOne (λ (h : NodeHolding). same_text h.node node) items) × AreCompatible items))
fit-tells capabilities [] = (λ h. (tt, ((λ node. tt), tt)), λ is. refl)
fit-tells capabilities (held ∷ later) =
    let listed : Bool = has_capability capabilities held.capability in
    let one = Decides-and listed (list_all (are_beside held) later) (itself listed) (beside-tells held later) in
    let all = Decides-and (listed && list_all (are_beside held) later) (are_fit capabilities later) one (fit-tells capabilities later) in (
      λ passed.
          let is = all.0 passed in
          ((is.0.0, is.1.0), ((λ node. (λ e. none-at_node held later node e is.0.1.0, is.1.1.0 node)), (is.0.1.1, is.1.1.1))),
      λ is.
          let others = other_nodes held.node later ((is.1.0 held.node).0 ((same_text-tells held.node held.node).1 refl)) in
          all.1 ((is.0.0, (others, is.1.1.0)), (is.0.1, ((λ node. (is.1.0 node).1), is.1.1.1))),
    )

-- a volume that was deleted is held nowhere
gone-tells : (live : Bool) (items : List NodeHolding) → Decides (live || (length items == 0)) (live ≡ false → items ≡ [])
gone-tells true items = (λ h e. absurd (true≢false e), λ gone. refl)
gone-tells false [] = (λ h e. refl, λ gone. refl)
gone-tells false (held ∷ later) = (λ h e. let many : length (held ∷ later) ≡ 0 = eqb-true (length (held ∷ later)) 0 h in absurd (omega arith), λ gone. eq-eqb (length (held ∷ later)) 0 (ap length (gone refl)))

-- ---- all

-- a row passes the tests where it keeps the rules
row-tells : (n : ℕ) (row : ControllerRow) → Decides (is_sound_row n row) (IsSoundRow n row)
row-tells n row =
    let items = row.holdings.items in
    let low = Decides-and _ _ (Decides-ltb row.id (next_shown n)) (at_most 1 row.capacity) in
    let numbers = Decides-and _ _ low (at_most row.capacity 9223372036854775807) in
    let reply = Decides-and _ _ (itself (is_party_of row.kind Controller)) (itself (has_id_by_rule row.kind row.reply)) in
    let some = opposite (length row.capabilities == 0) in
    let few = Decides-and _ _ (at_most (length items) 64) (gone-tells row.live items) in
    let held = Decides-and _ _ few (fit-tells row.capabilities items) in
    let three = Decides-and (has_fit_numbers n row && has_own_reply row) (not (length row.capabilities == 0)) (Decides-and (has_fit_numbers n row) (has_own_reply row) numbers reply) some in
    let all = Decides-and (has_fit_numbers n row && has_own_reply row && not (length row.capabilities == 0)) (has_fit_holdings row) three held in (
      λ passed.
          let is = all.0 passed in
          record {
            below = is.0.0.0.0.0;
            party = is.0.0.1.0;
            reply = is.0.0.1.1;
            apart = is.1.1.1.0;
            compatible = is.1.1.1.1;
            gone = is.1.0.1;
            capacity_from = is.0.0.0.0.1;
            capacity_to = let most : row.capacity ≤ 9223372036854775807 = is.0.0.0.1 in omega (arith, most);
            capable = let some : length row.capabilities ≡ 0 → ⊥ = eqb-false (length row.capabilities) 0 is.0.1 in omega (arith, some);
            listed = is.1.1.0;
            limit = is.1.0.0;
          },
      λ is.
          let most : row.capacity ≤ 9223372036854775807 = let to = is.capacity_to in omega (arith, to) in
          let some : length row.capabilities ≡ 0 → ⊥ = λ (none : length row.capabilities ≡ 0). let from = is.capable in omega (arith, from, none) in
          all.1 (((((is.below, is.capacity_from), most), (is.party, is.reply)), ne_eqb (length row.capabilities) 0 some), ((is.limit, is.gone), (is.listed, (is.apart, is.compatible)))),
    )

-- a row that passes them keeps the rules
pub sound-row : (n : ℕ) (row : ControllerRow) → is_sound_row n row ≡ true → IsSoundRow n row
sound-row n row h = (row-tells n row).0 h

-- and the other way round
pub row-sound : (n : ℕ) (row : ControllerRow) → IsSoundRow n row → is_sound_row n row ≡ true
row-sound n row is = (row-tells n row).1 is
