-- A node's rows go with the controller's exactly where the stores agree.
use Rattle.std.proofs.Common.{◌≡◌, ℕ, List, map, Bool, true, false, refl, sym, ◌∙◌, ap, subst, inl, inr}
use Rattle.std.specs.Prelude.{◌==◌, Option, Some, None, find, filter, option_and_then, option_to_list}
use Rattle.std.specs.List.{list_all}
use Rattle.std.proofs.lemmas.Bool.{and_from, and_parts, false≢true, eq-eqb, eqb-true}
use Rattle.std.proofs.lemmas.Option.{none-some, same_Some}
use Rattle.csi_types.specs.Model.Members.{IsAmong}
use Rattle.csi_types.proofs.Members.{each_of, in-map, among-map, among-find, among-filter, passes-filter, in_filter}
use Rattle.csi_types.proofs.Searches.{find-passes}
use Rattle.csi_types.proofs.Tests.{all-then, then-all}
use Rattle.csi_types.specs.declared.capability.Capability.{Capability}
use Rattle.csi_types.specs.declared.holding.Holding.{Holding}
use Rattle.csi_types.specs.Model.Same.{same_text, same_flag, same_capability}
use Rattle.csi_types.proofs.Equality.{same_text-tells, same_capability-tells}
use Rattle.csi_controller.specs.declared.row.ControllerRow.{ControllerRow}
use Rattle.csi_controller.specs.declared.row.NodeHolding.{NodeHolding}
use Rattle.csi_controller.specs.Model.State.{ControllerState, holdings_of}
use Rattle.csi_controller.specs.Model.Shown.{holdings_in_row, holdings_in}
use Rattle.csi_controller.specs.Public.Core.{AreSoundRows, IsSoundRow, volume_holding}
use Rattle.csi_controller.specs.Public.Views as controller
use Rattle.csi_controller.proofs.Sound.{found-rising}
use Rattle.csi_node.specs.declared.row.NodeRow.{NodeRow}
use Rattle.csi_node.specs.declared.row.NodeTarget.{NodeTarget}
use Rattle.csi_node.specs.Model.State.{StagedVolume, PublishedVolume, published_of}
use Rattle.csi_node.specs.Model.Record.{NodeParts, parts}
use Rattle.csi_node.specs.Model.Shown.{row_in, staged_in, published_in, published_in_row}
use Rattle.csi_node.specs.Public.Record as node_rules
use Rattle.csi_recovery.specs.Public.Recovered.{GivenNode, IsHeldAs, Agree}
use Rattle.csi_recovery.specs.Public.Judged.{IsKeptOf, IsGiven}
use Rattle.csi_recovery.specs.Private.Walks.{held_by_row, held_in, has_flag, fits_holding, fits_staged, fits_row}
use Rattle.csi_recovery.proofs.Found.{only-found, node-rise}

-- the same flags
flag-same : (a b : Bool) → same_flag a b ≡ true → a ≡ b
flag-same true b h = sym h
flag-same false true h = absurd (false≢true h)
flag-same false false h = refl

same-flag : (a b : Bool) → a ≡ b → same_flag a b ≡ true
same-flag true b e = sym e
same-flag false true e = absurd (false≢true e)
same-flag false false e = refl

-- what is among the list of an option is in it
among-option : {X : Type 0} (o : Option X) (x : X) → IsAmong x (option_to_list o) → o ≡ Some x
among-option None x among = absurd among
among-option (Some y) x (inl here) = ap Some (sym here)
among-option (Some y) x (inr none) = absurd none

-- ---- what the controller holds

-- what the rows say of a volume at a node is a holding of the state
held-is : (kept : controller.RecordParts) (state : ControllerState) (id : ℕ) (node : List ℕ) (held : NodeHolding) → IsKeptOf kept state → held_in kept.rows id node ≡ Some held
    → IsAmong (volume_holding id held) state.holdings × (held.node ≡ node)
held-is kept state id node held is found = by (find (λ (row : ControllerRow). row.id == id) kept.rows) refl (is.shows.holdings id) found
  where
    by : (o : Option ControllerRow) → find (λ (row : ControllerRow). row.id == id) kept.rows ≡ o → holdings_in o ≡ holdings_of id state → option_and_then (held_by_row node) o ≡ Some held
        → IsAmong (volume_holding id held) state.holdings × (held.node ≡ node)
    by None there shows some = absurd (none-some held some)
    by (Some row) there shows some =
        let same : row.id ≡ id = eqb-true row.id id (find-passes (λ (r : ControllerRow). r.id == id) kept.rows row there) in
        let own : IsAmong (volume_holding row.id held) (holdings_in_row row) = in-map (volume_holding row.id) row.holdings.items held (among-find (λ (h : NodeHolding). same_text h.node node) row.holdings.items held some) in
        let among : IsAmong (volume_holding row.id held) state.holdings = among-filter (λ (h : Holding). h.volume == id) state.holdings (volume_holding row.id held) (subst (IsAmong (volume_holding row.id held)) shows own) in
        (subst (λ (n : ℕ). IsAmong (volume_holding n held) state.holdings) same among, (same_text-tells held.node node).0 (find-passes (λ (h : NodeHolding). same_text h.node node) row.holdings.items held some))

-- a holding of the state is what the rows say
pub record IsReadAs (rows : List ControllerRow) (id : ℕ) (node : List ℕ) (holding : Holding) : Type 0 where
  pub held : NodeHolding
  pub found : held_in rows id node ≡ Some held
  pub capability : holding.capability ≡ held.capability
  pub readonly : holding.readonly ≡ held.readonly

is-held : (kept : controller.RecordParts) (state : ControllerState) (id : ℕ) (node : List ℕ) (holding : Holding) → AreSoundRows kept.next_id kept.rows → IsKeptOf kept state → IsAmong holding state.holdings
    → holding.volume ≡ id → holding.node ≡ node → IsReadAs kept.rows id node holding
is-held kept state id node holding sound is among of_volume at_node =
    by (find (λ (row : ControllerRow). row.id == id) kept.rows) refl
    (subst (IsAmong holding) (sym (is.shows.holdings id)) (in_filter (λ (h : Holding). h.volume == id) state.holdings holding among (eq-eqb holding.volume id of_volume)))
  where
    by : (o : Option ControllerRow) → find (λ (row : ControllerRow). row.id == id) kept.rows ≡ o → IsAmong holding (holdings_in o) → IsReadAs kept.rows id node holding
    by None there none = absurd none
    by (Some row) there own =
        let from = among-map (volume_holding row.id) row.holdings.items holding own in
        let held : NodeHolding = from.0 in
        let rules : IsSoundRow kept.next_id row = each_of (IsSoundRow kept.next_id) kept.rows row sound.each (among-find (λ (r : ControllerRow). r.id == id) kept.rows row there) in
        let here : same_text held.node node ≡ true = (same_text-tells held.node node).1 (sym (ap (λ (h : Holding). h.node) from.2) ∙ at_node) in
        record {
          held = held;
          found = ap (option_and_then (held_by_row node)) there ∙ only-found (λ (h : NodeHolding). same_text h.node node) row.holdings.items held (rules.apart node) from.1 here;
          capability = ap (λ (h : Holding). h.capability) from.2;
          readonly = ap (λ (h : Holding). h.readonly) from.2;
        }

-- ---- the rows of a node

-- a holding that fits
pub record HasFit (capability : Capability) (targets : List NodeTarget) (o : Option NodeHolding) : Type 0 where
  pub held : NodeHolding
  pub is : o ≡ Some held
  pub same : held.capability ≡ capability
  pub flags : (there : NodeTarget) → IsAmong there targets → there.readonly ≡ held.readonly

pub fit-has : (capability : Capability) (targets : List NodeTarget) (o : Option NodeHolding) → fits_holding capability targets o ≡ true → HasFit capability targets o
fit-has capability targets None fits = absurd (false≢true fits)
fit-has capability targets (Some held) fits =
    let both = and_parts (same_capability held.capability capability) (list_all (has_flag held.readonly) targets) fits in
    record {
      held = held;
      is = refl;
      same = (same_capability-tells held.capability capability).0 both.0;
      flags = λ there among. flag-same there.readonly held.readonly (all-then (has_flag held.readonly) targets both.1 there among);
    }

has-fit : (capability : Capability) (targets : List NodeTarget) (o : Option NodeHolding) → HasFit capability targets o → fits_holding capability targets o ≡ true
has-fit capability targets o has =
    ap (fits_holding capability targets) has.is
    ∙ and_from (same_capability has.held.capability capability) (list_all (has_flag has.held.readonly) targets) ((same_capability-tells has.held.capability capability).1 has.same)
    (then-all (has_flag has.held.readonly) targets (λ there among. same-flag there.readonly has.held.readonly (has.flags there among)))

module _ (kept : controller.RecordParts) (state : ControllerState) (own : NodeParts) (node : GivenNode) (sound : AreSoundRows kept.next_id kept.rows) (is : IsKeptOf kept state) (given : IsGiven own node) where
  -- where each row fits, what is staged is attached so
  staged-held : list_all (fits_row kept.rows own.id) own.rows ≡ true → (staged : StagedVolume) → IsAmong staged node.state.staged → IsHeldAs state staged.volume node.id staged.capability
  staged-held fits staged among =
      by (row_in staged.volume own.rows) refl
      (subst (IsAmong staged.capability) (sym (given.shows.shows.staged staged.volume))
      (in-map (λ (s : StagedVolume). s.capability) (filter (λ (s : StagedVolume). s.volume == staged.volume) node.state.staged) staged
      (in_filter (λ (s : StagedVolume). s.volume == staged.volume) node.state.staged staged among (eq-eqb staged.volume staged.volume refl))))
    where
      by : (o : Option NodeRow) → row_in staged.volume own.rows ≡ o → IsAmong staged.capability (staged_in o) → IsHeldAs state staged.volume node.id staged.capability
      by None there none = absurd none
      by (Some row) there inside =
          let so : row.staged ≡ Some staged.capability = among-option row.staged staged.capability inside in
          let same : row.id ≡ staged.volume = eqb-true row.id staged.volume (find-passes (λ (r : NodeRow). r.id == staged.volume) own.rows row there) in
          let passes : fits_row kept.rows own.id row ≡ true = all-then (fits_row kept.rows own.id) own.rows fits row (among-find (λ (r : NodeRow). r.id == staged.volume) own.rows row there) in
          let fit = fit-has staged.capability row.targets.items (held_in kept.rows row.id own.id) (ap (λ (s : Option Capability). fits_staged s row.targets.items (held_in kept.rows row.id own.id)) (sym so) ∙ passes) in
          let at = held-is kept state staged.volume own.id fit.held is (ap (λ (n : ℕ). held_in kept.rows n own.id) (sym same) ∙ fit.is) in
          record { holding = volume_holding staged.volume fit.held; is_held = at.0; of_volume = refl; at_node = at.1 ∙ sym given.id; same_capability = fit.same }

  -- and what is published has the flag of its attachment
  published-held : list_all (fits_row kept.rows own.id) own.rows ≡ true → (published : PublishedVolume) (holding : Holding) → IsAmong published node.state.published → IsAmong holding state.holdings
      → holding.volume ≡ published.volume → holding.node ≡ node.id → holding.readonly ≡ published.readonly
  published-held fits published holding among there of_volume at_node =
      by (row_in published.volume own.rows) refl
      (subst (IsAmong published) (sym (given.shows.shows.published published.volume))
      (in_filter (λ (p : PublishedVolume). p.volume == published.volume) node.state.published published among (eq-eqb published.volume published.volume refl)))
    where
      by : (o : Option NodeRow) → row_in published.volume own.rows ≡ o → IsAmong published (published_in o) → holding.readonly ≡ published.readonly
      by None found none = absurd none
      by (Some row) found inside = by-staged row.staged refl inside
        where
          by-staged : (s : Option Capability) → row.staged ≡ s → IsAmong published (published_in_row row s) → holding.readonly ≡ published.readonly
          by-staged None so none = absurd none
          by-staged (Some capability) so listed =
              let from = among-map (λ (t : NodeTarget). let p : PublishedVolume = record { volume = row.id; target = t.target; capability = capability; readonly = t.readonly } in p) row.targets.items published listed in
              let same : row.id ≡ published.volume = eqb-true row.id published.volume (find-passes (λ (r : NodeRow). r.id == published.volume) own.rows row found) in
              let passes : fits_row kept.rows own.id row ≡ true = all-then (fits_row kept.rows own.id) own.rows fits row (among-find (λ (r : NodeRow). r.id == published.volume) own.rows row found) in
              let fit = fit-has capability row.targets.items (held_in kept.rows row.id own.id) (ap (λ (o : Option Capability). fits_staged o row.targets.items (held_in kept.rows row.id own.id)) (sym so) ∙ passes) in
              let read = is-held kept state row.id own.id holding sound is there (of_volume ∙ sym same) (at_node ∙ given.id) in
              let one : read.held ≡ fit.held = same_Some read.held fit.held (sym read.found ∙ fit.is) in
              read.readonly ∙ ap (λ (h : NodeHolding). h.readonly) one ∙ sym (fit.flags from.0 from.1) ∙ sym (ap (λ (p : PublishedVolume). p.readonly) from.2)

  -- so the stores agree
  pub fits-agree : list_all (fits_row kept.rows own.id) own.rows ≡ true → Agree state node
  fits-agree fits = record { staged = staged-held fits; published = published-held fits }

  -- and where they agree, each row fits
  pub agree-fits : node_rules.AreSoundRows (parts own.rows) → Agree state node → list_all (fits_row kept.rows own.id) own.rows ≡ true
  agree-fits rules agree = then-all (fits_row kept.rows own.id) own.rows (λ row among. by row among row.staged refl)
    where
      by : (row : NodeRow) → IsAmong row own.rows → (s : Option Capability) → row.staged ≡ s → fits_staged s row.targets.items (held_in kept.rows row.id own.id) ≡ true
      by row among None so = refl
      by row among (Some capability) so =
          has-fit capability row.targets.items (held_in kept.rows row.id own.id)
          (record { held = read.held; is = read.found; same = sym read.capability ∙ held.same_capability ∙ sym from.2; flags = flags })
        where
          found : row_in row.id own.rows ≡ Some row
          found = found-rising (λ (r : NodeRow). r.id) own.rows row (node-rise own.rows rules) among

          listed : IsAmong capability (map (λ (s : StagedVolume). s.capability) (filter (λ (s : StagedVolume). s.volume == row.id) node.state.staged))
          listed = subst (IsAmong capability) (ap option_to_list (sym so) ∙ sym (ap staged_in found) ∙ given.shows.shows.staged row.id) (inl refl)

          from : (s : StagedVolume) × IsAmong s (filter (λ (s : StagedVolume). s.volume == row.id) node.state.staged) × (capability ≡ s.capability)
          from = among-map (λ (s : StagedVolume). s.capability) (filter (λ (s : StagedVolume). s.volume == row.id) node.state.staged) capability listed

          volume : from.0.volume ≡ row.id
          volume = eqb-true from.0.volume row.id (passes-filter (λ (s : StagedVolume). s.volume == row.id) node.state.staged from.0 from.1)

          held : IsHeldAs state from.0.volume node.id from.0.capability
          held = agree.staged from.0 (among-filter (λ (s : StagedVolume). s.volume == row.id) node.state.staged from.0 from.1)

          read : IsReadAs kept.rows row.id own.id held.holding
          read = is-held kept state row.id own.id held.holding sound is held.is_held (held.of_volume ∙ volume) (held.at_node ∙ given.id)

          flags : (there : NodeTarget) → IsAmong there row.targets.items → there.readonly ≡ read.held.readonly
          flags there at =
              let one : NodeTarget → PublishedVolume = λ t. record { volume = row.id; target = t.target; capability = capability; readonly = t.readonly } in
              let own_list : IsAmong (one there) (published_in_row row (Some capability)) = in-map one row.targets.items there at in
              let shown : IsAmong (one there) (published_of row.id node.state) = subst (IsAmong (one there)) (ap (published_in_row row) (sym so) ∙ sym (ap published_in found) ∙ given.shows.shows.published row.id) own_list in
              sym (agree.published (one there) held.holding (among-filter (λ (p : PublishedVolume). p.volume == row.id) node.state.published (one there) shown) held.is_held (held.of_volume ∙ volume) held.at_node) ∙ read.readonly
