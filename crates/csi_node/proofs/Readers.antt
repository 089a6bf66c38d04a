-- What the rows of a record have, one row after another, is what the states that they show have, by rising id.
use Rattle.std.proofs.Common.{◌≡◌, ℕ, ◌<◌, List, [], ◌∷◌, ◌++◌, map, Bool, true, false, cond, refl, sym, ◌∙◌, ap, subst, arith}
use Rattle.std.specs.Prelude.{Option, Some, None, filter, ◌==◌}
use Rattle.std.specs.List.{flat_map, AllByRecursion}
use Rattle.std.proofs.lemmas.Bool.{eq-eqb, eqb-true, ne_eqb}
use Rattle.std.proofs.lemmas.List.{append-nil}
use Rattle.std.proofs.lemmas.List.Elements.{filter-append}
use Rattle.std.proofs.lemmas.List.Folds.{flat_map-map}
use Rattle.csi_types.specs.declared.capability.Capability.{Capability}
use Rattle.csi_types.specs.Model.Members.{EachTwo}
use Rattle.csi_types.proofs.Each.{each-append, each-weaker}
use Rattle.csi_types.proofs.Members.{all_of, among-map, each_of}
use Rattle.csi_types.proofs.Maps.{map-same, map-twice}
use Rattle.csi_types.proofs.Pairs.{two-joined}
use Rattle.csi_types.proofs.Filters.{filter-each, filter-no_one, each-passes}
use Rattle.csi_node.specs.declared.row.NodeRow.{NodeRow}
use Rattle.csi_node.specs.declared.row.NodeTarget.{NodeTarget}
use Rattle.csi_node.specs.Model.State.{NodeState, StagedVolume, PublishedVolume}
use Rattle.csi_node.specs.Model.Shown.{RowsShow}
use Rattle.csi_node.specs.Model.OneRow.{NodeRowShown, node_row_shown}
use Rattle.csi_node.specs.Public.OneRow.{state_shown, staged_by, published_by, published_so}
use Rattle.csi_node.specs.Model.Record.{parts}
use Rattle.csi_node.specs.Public.Record.{AreSoundRows}
use Rattle.csi_node.specs.Public.Views.{IsStagedBefore, IsPublishedBefore, ListsStaged, ListsPublished}
use Rattle.csi_node.proofs.ShownAfter.{ShowsAll, row_of, alone_in, all-from_shows}
use Rattle.csi_node.proofs.RecordRules.{IsRowBefore, rows_rise}

-- a number above one that is equal to an id isn't equal to it
higher : (n m id : ℕ) → (n == id) ≡ true → n < m → (m == id) ≡ false
higher n m id same lt = ne_eqb m id (λ e. (let first = eqb-true n id same in omega (arith, first, e, lt)))

-- each is of the volume
abbrev AreOf : {X : Type 0} → (X → ℕ) → ℕ → List X → Type 0
AreOf volume id xs = AllByRecursion (λ x. volume x ≡ id) xs

-- what rows have of their volumes, one row after another
module _ {X : Type 0} (volume : X → ℕ) (part : NodeRowShown → List X) (own : (row : NodeRowShown) → AreOf volume row.id (part row)) where
  -- what the row of a volume has, if it has one
  abbrev part_in : Option NodeRowShown → List X
  part_in None = []
  part_in (Some row) = part row

  -- what rows above an id have is of volumes above it
  above_all : (id : ℕ) (rows : List NodeRowShown) → AllByRecursion (λ (row : NodeRowShown). id < row.id) rows → AllByRecursion (λ x. id < volume x) (flat_map part rows)
  above_all id [] above = tt
  above_all id (row ∷ rows) above =
      each-append (λ x. id < volume x) (part row) (flat_map part rows)
      (each-weaker (λ x. volume x ≡ row.id) (λ x. id < volume x) (part row) (λ x e. (let lt = above.0 in omega arith)) (own row))
      (above_all id rows above.1)

  -- what the rows have of a volume is what its own row has, whether that is the first one or not
  of_volume : (id : ℕ) (row : NodeRowShown) (rest : List X) (found : Option NodeRowShown) (b : Bool) → (row.id == id) ≡ b → AllByRecursion (λ x. row.id < volume x) rest → filter (λ x. volume x == id) rest ≡ part_in found
      → filter (λ x. volume x == id) (part row) ++ filter (λ x. volume x == id) rest ≡ part_in (cond b (Some row) found)
  of_volume id row rest found true same above here =
      ap (λ (first : List X). first ++ filter (λ x. volume x == id) rest)
      (filter-each (λ x. volume x == id) (part row) (each-weaker (λ x. volume x ≡ row.id) (λ x. (volume x == id) ≡ true) (part row) (λ x e. eq-eqb (volume x) id (e ∙ eqb-true row.id id same)) (own row)))
      ∙ ap (λ (second : List X). part row ++ second)
      (filter-no_one (λ x. volume x == id) rest (each-weaker (λ x. row.id < volume x) (λ x. (volume x == id) ≡ false) rest (λ x lt. higher row.id (volume x) id same lt) above))
      ∙ append-nil (part row)
  of_volume id row rest found false other above here =
      ap (λ (first : List X). first ++ filter (λ x. volume x == id) rest)
      (filter-no_one (λ x. volume x == id) (part row) (each-weaker (λ x. volume x ≡ row.id) (λ x. (volume x == id) ≡ false) (part row) (λ x e. ap (λ n. n == id) e ∙ other) (own row)))
      ∙ here

  -- of one volume there is what its row has
  pub of_one : (id : ℕ) (rows : List NodeRowShown) → EachTwo IsRowBefore rows → filter (λ x. volume x == id) (flat_map part rows) ≡ part_in (row_of id rows)
  of_one id [] rise = refl
  of_one id (row ∷ rows) rise =
      filter-append (λ x. volume x == id) (part row) (flat_map part rows)
      ∙ of_volume id row (flat_map part rows) (row_of id rows) (row.id == id) refl (above_all row.id rows rise.0) (of_one id rows rise.1)

  -- any two of all
  any_two : (R : X → X → Type 0) → ((x y : X) → volume x < volume y → R x y) → ((row : NodeRowShown) → EachTwo R (part row)) → (rows : List NodeRowShown) → EachTwo IsRowBefore rows → EachTwo R (flat_map part rows)
  any_two R lower within [] rise = tt
  any_two R lower within (row ∷ rows) rise =
      two-joined R (part row) (flat_map part rows) (within row) (any_two R lower within rows rise.1) (λ x y here there.
      let own = each_of (λ z. volume z ≡ row.id) (part row) x (own row) here in
      let above = each_of (λ z. row.id < volume z) (flat_map part rows) y (above_all row.id rows rise.0) there in
      lower x y (omega (arith, own, above)))

-- what a row has staged is of its volume
pub staged_own : (id : ℕ) (o : Option Capability) → AreOf (λ (s : StagedVolume). s.volume) id (staged_by id o)
staged_own id None = tt
staged_own id (Some capability) = (refl, tt)

-- what a row has staged is staged once
staged_once : (id : ℕ) (o : Option Capability) → EachTwo IsStagedBefore (staged_by id o)
staged_once id None = tt
staged_once id (Some capability) = (tt, tt)

-- all that is published at a volume's targets is of that volume
targets_own : (id : ℕ) (capability : Capability) (targets : List NodeTarget) → AreOf (λ (p : PublishedVolume). p.volume) id (map (published_so id capability) targets)
targets_own id capability targets = all_of (λ (p : PublishedVolume). p.volume ≡ id) (map (published_so id capability) targets) (λ p among. ap (λ (q : PublishedVolume). q.volume) (among-map (published_so id capability) targets p among).2)

-- what a row has published is of its volume
pub published_own : (id : ℕ) (o : Option Capability) (targets : List NodeTarget) → AreOf (λ (p : PublishedVolume). p.volume) id (published_by id o targets)
published_own id None targets = tt
published_own id (Some capability) targets = targets_own id capability targets

-- of what is published of one volume, no two stand against the order
none_before : (id : ℕ) (xs : List PublishedVolume) → AreOf (λ (p : PublishedVolume). p.volume) id xs → EachTwo IsPublishedBefore xs
none_before id [] own = tt
none_before id (x ∷ xs) own =
    (each-weaker (λ (p : PublishedVolume). p.volume ≡ id) (IsPublishedBefore x) xs (λ p e. (let first = own.0 in omega (arith, e, first))) own.1, none_before id xs own.1)

-- a staging of this volume
abbrev staged_at : ℕ → Capability → StagedVolume
staged_at id capability = record { volume = id; capability = capability }

-- stagings of one volume are told by their capabilities
staged_from : (id : ℕ) (xs : List StagedVolume) → AreOf (λ (s : StagedVolume). s.volume) id xs → map (staged_at id) (map (λ (s : StagedVolume). s.capability) xs) ≡ xs
staged_from id xs own =
    map-twice (staged_at id) (λ (s : StagedVolume). s.capability) (λ (s : StagedVolume). staged_at id s.capability) xs (λ s. refl)
    ∙ map-same (λ (s : StagedVolume). staged_at id s.capability) xs (λ s among. ap (λ (n : ℕ). staged_at n s.capability) (sym (each_of (λ (t : StagedVolume). t.volume ≡ id) xs s own among)))

-- so those with the same capabilities are the same
staged_same : (id : ℕ) (xs ys : List StagedVolume) → AreOf (λ (s : StagedVolume). s.volume) id xs → AreOf (λ (s : StagedVolume). s.volume) id ys
    → map (λ (s : StagedVolume). s.capability) xs ≡ map (λ (s : StagedVolume). s.capability) ys → xs ≡ ys
staged_same id xs ys own other same = sym (staged_from id xs own) ∙ ap (map (staged_at id)) same ∙ staged_from id ys other

-- what is listed as staged for a volume is what its row alone has staged
pub staged_part : (o : Option NodeRowShown) → part_in (λ (s : StagedVolume). s.volume) (λ row. (state_shown row).staged) (λ row. staged_own row.id row.staged) o ≡ (alone_in o).staged
staged_part None = refl
staged_part (Some row) = refl

-- what is listed as published for a volume is what its row alone has published
pub published_part : (o : Option NodeRowShown) → part_in (λ (p : PublishedVolume). p.volume) (λ row. (state_shown row).published) (λ row. published_own row.id row.staged row.targets) o ≡ (alone_in o).published
published_part None = refl
published_part (Some row) = refl

module _ (rows : List NodeRowShown) (state : NodeState) (rise : EachTwo IsRowBefore rows) (all : ShowsAll rows state) where
  -- the rows and the state have the same stagings of a volume
  staged_of_one : (id : ℕ) → filter (λ (s : StagedVolume). s.volume == id) (flat_map (λ (row : NodeRowShown). (state_shown row).staged) rows) ≡ filter (λ (s : StagedVolume). s.volume == id) state.staged
  staged_of_one id =
      staged_same id _ _
      (each-weaker (λ (s : StagedVolume). (s.volume == id) ≡ true) (λ (s : StagedVolume). s.volume ≡ id) _ (λ s e. eqb-true s.volume id e) (each-passes (λ (s : StagedVolume). s.volume == id) (flat_map (λ (row : NodeRowShown). (state_shown row).staged) rows)))
      (each-weaker (λ (s : StagedVolume). (s.volume == id) ≡ true) (λ (s : StagedVolume). s.volume ≡ id) _ (λ s e. eqb-true s.volume id e) (each-passes (λ (s : StagedVolume). s.volume == id) state.staged))
      (ap (map (λ (s : StagedVolume). s.capability)) (of_one (λ (s : StagedVolume). s.volume) (λ row. (state_shown row).staged) (λ row. staged_own row.id row.staged) id rows rise ∙ staged_part (row_of id rows)) ∙ all.staged id)

  -- what the rows have staged is what the state lists
  staged_listed : ListsStaged (flat_map (λ (row : NodeRowShown). (state_shown row).staged) rows) state
  staged_listed = record {
    items = staged_of_one;
    rising = any_two (λ (s : StagedVolume). s.volume) (λ row. (state_shown row).staged) (λ row. staged_own row.id row.staged) IsStagedBefore (λ x y lt. lt) (λ row. staged_once row.id row.staged) rows rise;
  }

  -- what the rows have published is what the state lists
  published_listed : ListsPublished (flat_map (λ (row : NodeRowShown). (state_shown row).published) rows) state
  published_listed = record {
    items = λ id.
        of_one (λ (p : PublishedVolume). p.volume) (λ row. (state_shown row).published) (λ row. published_own row.id row.staged row.targets) id rows rise
        ∙ published_part (row_of id rows)
        ∙ all.published id;
    rising = any_two (λ (p : PublishedVolume). p.volume) (λ row. (state_shown row).published) (λ row. published_own row.id row.staged row.targets) IsPublishedBefore (λ x y lt. omega arith)
        (λ row. none_before row.id (state_shown row).published (published_own row.id row.staged row.targets)) rows rise;
  }

-- what a record's rows have staged, one after another, lists what the state has staged
pub lists-staged : (rows : List NodeRow) (state : NodeState) (list : List StagedVolume) → AreSoundRows (parts rows) → RowsShow rows state → list ≡ flat_map (λ (row : NodeRow). (state_shown (node_row_shown row)).staged) rows → ListsStaged list state
lists-staged rows state list rules shows is =
    subst (λ (l : List StagedVolume). ListsStaged l state) (flat_map-map (λ (row : NodeRowShown). (state_shown row).staged) node_row_shown rows ∙ sym is)
    (staged_listed (parts rows) state (rows_rise (parts rows) rules.rising) (all-from_shows rows state shows))

-- what a record's rows have published, one after another, lists what the state has published
pub lists-published : (rows : List NodeRow) (state : NodeState) (list : List PublishedVolume) → AreSoundRows (parts rows) → RowsShow rows state → list ≡ flat_map (λ (row : NodeRow). (state_shown (node_row_shown row)).published) rows → ListsPublished list state
lists-published rows state list rules shows is =
    subst (λ (l : List PublishedVolume). ListsPublished l state) (flat_map-map (λ (row : NodeRowShown). (state_shown row).published) node_row_shown rows ∙ sym is)
    (published_listed (parts rows) state (rows_rise (parts rows) rules.rising) (all-from_shows rows state shows))
