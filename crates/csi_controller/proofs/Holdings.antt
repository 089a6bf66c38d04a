-- The one list of all holdings beside the rows' own lists.
use Rattle.std.proofs.Common.{◌≡◌, ℕ, Bool, true, false, cond, not, List, [], ◌∷◌, ◌++◌, map, refl, sym, ◌∙◌, ap, subst, arith}
use Rattle.std.specs.Prelude.{Option, Some, None, find, filter, count_by, ◌&&◌, ◌==◌}
use Rattle.std.specs.List.{AllByRecursion, list_any}
use Rattle.std.proofs.lemmas.Bool.{eq-eqb, eqb-true}
use Rattle.std.proofs.lemmas.List.{map-append}
use Rattle.std.proofs.lemmas.List.Elements.{filter_agree}
use Rattle.csi_types.proofs.Counts.{count-cons, count-one, count-split}
use Rattle.csi_types.proofs.Filters.{filter-append_one, filter-append_passes, filter-filter, filter-of_map, filter-swap, filter-none}
use Rattle.csi_types.specs.Public.Places.{AtMostOne}
use Rattle.csi_types.specs.declared.holding.Holding.{Holding}
use Rattle.csi_types.specs.Model.Same.{same_text}
use Rattle.csi_controller.specs.declared.row.NodeHolding.{NodeHolding}
use Rattle.csi_fence.specs.Model.Fence.{Kept}
use Rattle.csi_controller.specs.Model.State.{ControllerState, holdings_of, is_held_at}
use Rattle.csi_controller.specs.Model.Table.{Change, Stays, Makes, Ends, Attaches, Detaches, changed}
use Rattle.csi_controller.specs.Public.Core.{volume_holding}
use Rattle.csi_controller.specs.Public.OneRow.{RowShown, row_changed, held_by}
use Rattle.csi_controller.specs.Private.OneRow.{CanChange}
use Rattle.csi_controller.specs.Public.Plan.{IsSoundBy}

-- the change is of the volume of this id, and makes none
abbrev pub IsAbout : ℕ → Change → Type 0
IsAbout id Stays = Unit {0}
IsAbout id (Makes name capacity capabilities) = ⊥
IsAbout id (Ends volume) = volume ≡ id
IsAbout id (Attaches holding) = holding.volume ≡ id
IsAbout id (Detaches volume node) = volume ≡ id

-- what can be changed of a row is of its volume
pub can-about : (row : RowShown) (change : Change) → CanChange row change → IsAbout row.volume.id change
can-about row Stays can = tt
can-about row (Makes name capacity capabilities) can = can
can-about row (Ends id) can = can.0
can-about row (Attaches holding) can = can.own
can-about row (Detaches id node) can = can.0

-- an id is equal to itself
pub self : (id : ℕ) → (id == id) ≡ true
self id = eq-eqb id id refl

-- after a change of its volume a row's own list is still what is held of the volume
pub own_list-after : (row : RowShown) (state : ControllerState) (kept : Kept) (change : Change) → IsAbout row.volume.id change → map (volume_holding row.volume.id) row.items ≡ holdings_of row.volume.id state
    → map (volume_holding row.volume.id) (row_changed row change).items ≡ holdings_of row.volume.id (changed state kept change)
own_list-after row state kept (Attaches holding) about own =
    map-append (volume_holding row.volume.id) row.items (held_by holding ∷ [])
    ∙ (λ i. own i ++ (record { volume = sym about i; node = holding.node; capability = holding.capability; readonly = holding.readonly }) ∷ [])
    ∙ sym (filter-append_passes (λ h. h.volume == row.volume.id) state.holdings holding (eq-eqb holding.volume row.volume.id about))
own_list-after row state kept (Detaches id node) about own =
    sym (filter-of_map (λ holding. not (is_held_at row.volume.id node holding)) (volume_holding row.volume.id) row.items
    ∙ ap (map (volume_holding row.volume.id))
    (filter_agree (λ held. not (is_held_at row.volume.id node (volume_holding row.volume.id held))) (λ held. not (same_text held.node node)) (λ held. ap (λ b. not (b && same_text held.node node)) (self row.volume.id)) row.items))
    ∙ ap (filter (λ holding. not (is_held_at row.volume.id node holding))) own
    ∙ ap (λ k. filter (λ holding. not (is_held_at k node holding)) (holdings_of row.volume.id state)) (sym about)
    ∙ sym (filter-swap (λ h. h.volume == row.volume.id) (λ holding. not (is_held_at id node holding)) state.holdings)
own_list-after row state kept change about own = own

-- what is equal to an id isn't equal to what differs from that id
pub other_id : (a b c : ℕ) → (a == b) ≡ true → (c == b) ≡ false → (a == c) ≡ false
other_id a b c e f = by (a == c) refl
  where
    by : (t : Bool) → (a == c) ≡ t → (a == c) ≡ false
    by true g =
        let same : a ≡ b = eqb-true a b e in
        let also : a ≡ c = eqb-true a c g in
        let contrary : (c == b) ≡ true = eq-eqb c b (sym also ∙ same) in
        absurd (let differ : true ≡ false = sym contrary ∙ f in cc)
    by false g = g

-- and another volume's is what it was
pub other_list-after : (id other : ℕ) (state : ControllerState) (kept : Kept) (change : Change) → IsAbout id change → (id == other) ≡ false → holdings_of other (changed state kept change) ≡ holdings_of other state
other_list-after id other state kept (Attaches holding) about differ = filter-append_one (λ h. h.volume == other) state.holdings holding (ap (λ k. k == other) about ∙ differ)
other_list-after id other state kept (Detaches volume node) about differ =
    filter-filter (λ h. h.volume == other) (λ holding. not (is_held_at volume node holding)) state.holdings
    (λ x e. ap (λ b. not (b && same_text x.node node)) (other_id x.volume other volume e (ap (λ k. k == other) about ∙ differ)))
other_list-after id other state kept change about differ = refl

-- a list none of whose elements is of any id is empty
empty-where : (all : List Holding) → ((id : ℕ) → [] ≡ filter (λ h. h.volume == id) all) → all ≡ []
empty-where [] none = refl
empty-where (h ∷ hs) none = let whole = none h.volume in absurd (let found : [] ≡ h ∷ filter (λ x. x.volume == h.volume) hs = whole ∙ (rw (self h.volume) refl) in cc)

-- the holdings of a row, as the volume's
abbrev pub held_in_row : RowShown → List Holding
held_in_row row = map (volume_holding row.volume.id) row.items

-- those of a row, if there is one
abbrev pub held_in : Option RowShown → List Holding
held_in None = []
held_in (Some row) = held_in_row row

-- as many holdings are at a node as rows that are held there
pub count-rows : (n : ℕ) (node : List ℕ) (rows : List RowShown) (all : List Holding) → AllByRecursion (IsSoundBy n) rows → ((id : ℕ) → AtMostOne (λ (r : RowShown). r.volume.id == id) rows)
    → ((id : ℕ) → held_in (find (λ r. r.volume.id == id) rows) ≡ filter (λ h. h.volume == id) all)
    → count_by (λ (h : Holding). same_text h.node node) all ≡ count_by (λ (r : RowShown). list_any (λ (held : NodeHolding). same_text held.node node) r.items) rows
count-rows n node [] all sound one shown = rw (empty-where all shown) refl
count-rows n node (r ∷ rs) all sound one shown =
    let others : List Holding = filter (λ h. not (h.volume == r.volume.id)) all in
    let own : held_in_row r ≡ filter (λ h. h.volume == r.volume.id) all = ap (λ b. held_in (cond b (Some r) (find (λ x. x.volume.id == r.volume.id) rs))) (sym (self r.volume.id)) ∙ shown r.volume.id in
    let first : count_by (λ h. same_text h.node node) (filter (λ h. h.volume == r.volume.id) all) ≡ cond (list_any (λ held. same_text held.node node) r.items) 1 0
    = ap (count_by (λ h. same_text h.node node)) (sym own) ∙ count-one (volume_holding r.volume.id) (λ h. same_text h.node node) (λ held. same_text held.node node) r.items (λ held. refl) ((sound.0).apart node) in
    let rest = count-rows n node rs others (sound.1) (λ id. (one id).1) (λ id. by id (r.volume.id == id) refl (shown id)) in
    let split = count-split (λ h. same_text h.node node) (λ h. h.volume == r.volume.id) all in
    let whole = count-cons (λ (x : RowShown). list_any (λ held. same_text held.node node) x.items) r rs in
    omega (arith, first, rest, split, whole)
  where
    by : (id : ℕ) (b : Bool) → (r.volume.id == id) ≡ b → held_in (cond b (Some r) (find (λ r. r.volume.id == id) rs)) ≡ filter (λ h. h.volume == id) all
        → held_in (find (λ r. r.volume.id == id) rs) ≡ filter (λ h. h.volume == id) (filter (λ h. not (h.volume == r.volume.id)) all)
    by id true e h =
        let same : r.volume.id ≡ id = eqb-true r.volume.id id e in
        ap held_in ((one id).0 e) ∙ sym (subst (λ k. filter (λ h. h.volume == id) (filter (λ h. not (h.volume == k)) all) ≡ []) (sym same) (filter-none (λ h. h.volume == id) all))
    by id false e h = h ∙ sym (filter-filter (λ h. h.volume == id) (λ h. not (h.volume == r.volume.id)) all (λ x f. ap not (other_id x.volume id r.volume.id f e)))
