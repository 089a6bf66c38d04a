-- The rows that are read of fit records are an orchestrator's, where each is free.
use Rattle.std.proofs.Common.{◌≡◌, ◌<◌, ◌≤◌, ◌+◌, ◌-◌, ℕ, zero, suc, List, [], ◌∷◌, ◌++◌, length, map, take, get_or, true, false, refl, sym, ◌∙◌, ap, subst, inl, inr, arith}
use Rattle.std.specs.Prelude.{◌==◌, Option, Some, None, find, filter, option_and_then}
use Rattle.std.specs.List.{AllByRecursion}
use Rattle.std.proofs.lemmas.Bool.{eqb-true}
use Rattle.std.proofs.lemmas.List.{length-map, length-take-le, take_more}
use Rattle.std.proofs.lemmas.Option.{none-some, same_Some, slice_get-get_or}
use Rattle.csi_types.specs.Model.Members.{IsAmong, EachTwo}
use Rattle.csi_types.specs.Public.Places.{AtMostOne}
use Rattle.csi_types.proofs.Each.{each-append_one}
use Rattle.csi_types.proofs.Filters.{filter-no_longer}
use Rattle.csi_types.proofs.Members.{all_of, each_of, among-find, among-filter, among-map, none_passes, one-of_all, in-map}
use Rattle.csi_types.proofs.Pairs.{two-filter, two-map}
use Rattle.csi_types.proofs.Searches.{find-passes}
use Rattle.csi_types.proofs.Tests.{all-then}
use Rattle.csi_types.specs.declared.capability.Capability.{Capability}
use Rattle.csi_types.specs.Model.Same.{same_text}
use Rattle.csi_types.specs.Model.Sharing.{allows_one_target}
use Rattle.csi_types.proofs.Equality.{same_text-tells}
use Rattle.csi_controller.specs.declared.row.ControllerRow.{ControllerRow}
use Rattle.csi_controller.specs.declared.row.NodeHolding.{NodeHolding}
use Rattle.csi_controller.specs.Model.State.{ControllerState}
use Rattle.csi_controller.specs.Public.Core.{AreSoundRows, IsSoundRow}
use Rattle.csi_controller.specs.Public.Views as controller
use Rattle.csi_controller.proofs.SameText.{text-turned}
use Rattle.csi_controller.proofs.Sound.{two-rise, found-rising}
use Rattle.csi_node.specs.declared.row.NodeRow.{NodeRow}
use Rattle.csi_node.specs.Model.OneRow.{node_row_shown}
use Rattle.csi_node.specs.Model.Record.{NodeParts, parts}
use Rattle.csi_node.specs.Model.Shown.{row_in}
use Rattle.csi_node.specs.Public.OneRow as one_row
use Rattle.csi_node.specs.Public.Record as node_rules
use Rattle.csi_orchestrator.specs.Model.Shown.{RowShown}
use Rattle.csi_orchestrator.specs.Public.Judging.{IsFirstRefused}
use Rattle.csi_orchestrator.specs.Public.Restored.{IsRestorable, AreRestorable}
use Rattle.csi_recovery.specs.Public.Recovered.{GivenNode}
use Rattle.csi_recovery.specs.Public.Judged.{IsKeptOf, IsGiven, AreGiven, DoAgree, IsFreeRow, IsNotFree}
use Rattle.csi_recovery.specs.Private.Walks.{held_by_row, held_in, fits_staged, fits_row, targets_by, targets_of, targets_at, row_from}
use Rattle.csi_recovery.proofs.Found.{only-found}
use Rattle.csi_recovery.proofs.Given.{node-among}
use Rattle.csi_recovery.proofs.Restorable.{AreRight, AreRightTargets, restorable, free}
use Rattle.csi_recovery.proofs.StoresAgree.{HasFit, fit-has, agree-fits}

-- each node's record keeps the rules of one
abbrev pub AreSoundGiven : List NodeParts → Type 0
AreSoundGiven given = AllByRecursion (λ (kept : NodeParts). node_rules.AreSoundRows (parts kept.rows)) given

-- ---- what a node has of a volume

module _ (kept : controller.RecordParts) (state : ControllerState) (given : List NodeParts) (known : List GivenNode) (sound : AreSoundRows kept.next_id kept.rows) (is : IsKeptOf kept state) (are : AreGiven given known)
    (rules : AreSoundGiven given) (agree : DoAgree state known) where
  -- how a volume is held at a node is what is found of its row
  held-found : (row : ControllerRow) (held : NodeHolding) → IsAmong row kept.rows → IsAmong held row.holdings.items → held_in kept.rows row.id held.node ≡ Some held
  held-found row held there among =
      ap (option_and_then (held_by_row held.node)) (found-rising (λ (r : ControllerRow). r.id) kept.rows row (two-rise kept.rows sound.rising) there)
      ∙ only-found (λ (h : NodeHolding). same_text h.node held.node) row.holdings.items held ((each_of (IsSoundRow kept.next_id) kept.rows row sound.each there).apart held.node) among ((same_text-tells held.node held.node).1 refl)

  -- the targets of a row of its node
  right-row : (row : ControllerRow) (held : NodeHolding) → IsAmong row kept.rows → IsAmong held row.holdings.items → (own : NodeParts) → IsAmong own given → own.id ≡ held.node
      → (o : Option NodeRow) → row_in row.id own.rows ≡ o → AreRight held (option_and_then targets_of o)
  right-row row held there among own has at None found targets so = absurd (none-some targets so)
  right-row row held there among own has at (Some nrow) found targets so = by nrow.staged refl so
    where
      by : (s : Option Capability) → nrow.staged ≡ s → targets_by nrow s ≡ Some targets → AreRightTargets held targets
      by None staged none = absurd (none-some targets none)
      by (Some capability) staged some =
          subst (AreRightTargets held) (same_Some nrow.targets.items targets some) (record {
            few = fit.limit;
            apart = fit.distinct;
            single = λ one. fit.single capability staged (sym (ap (λ (c : Capability). allows_one_target c.mode) same) ∙ one);
          })
        where
          own_rules : node_rules.AreSoundRows (parts own.rows)
          own_rules = each_of (λ (k : NodeParts). node_rules.AreSoundRows (parts k.rows)) given own rules has

          inside : IsAmong nrow own.rows
          inside = among-find (λ (r : NodeRow). r.id == row.id) own.rows nrow found

          fit : one_row.TargetsFit nrow.staged nrow.targets.items
          fit = (one-of_all one_row.IsSoundRow (parts own.rows) (node_row_shown nrow) own_rules.each (in-map node_row_shown own.rows nrow inside)).targets

          node : (n : GivenNode) × IsAmong n known × IsGiven own n
          node = node-among given known own are has

          passes : fits_row kept.rows own.id nrow ≡ true
          passes = all-then (fits_row kept.rows own.id) own.rows (agree-fits kept state own node.0 sound is node.2 own_rules (agree node.0 node.1)) nrow inside

          fitting : HasFit capability nrow.targets.items (held_in kept.rows nrow.id own.id)
          fitting = fit-has capability nrow.targets.items (held_in kept.rows nrow.id own.id) (ap (λ (s : Option Capability). fits_staged s nrow.targets.items (held_in kept.rows nrow.id own.id)) (sym staged) ∙ passes)

          one : held ≡ fitting.held
          one =
              same_Some held fitting.held
              (sym (held-found row held there among) ∙ ap (λ (n : ℕ). held_in kept.rows n held.node) (sym (eqb-true nrow.id row.id (find-passes (λ (r : NodeRow). r.id == row.id) own.rows nrow found)))
              ∙ ap (held_in kept.rows nrow.id) (sym at) ∙ fitting.is)

          same : held.capability ≡ capability
          same = ap (λ (h : NodeHolding). h.capability) one ∙ fitting.same

  -- the targets of a volume at a node
  right-of : (row : ControllerRow) (held : NodeHolding) → IsAmong row kept.rows → IsAmong held row.holdings.items → AreRight held (targets_at given held.node row.id)
  right-of row held there among = by (find (λ (k : NodeParts). same_text k.id held.node) given) refl
    where
      by : (o : Option NodeParts) → find (λ (k : NodeParts). same_text k.id held.node) given ≡ o → AreRight held (option_and_then targets_of (option_and_then (λ (k : NodeParts). row_in row.id k.rows) o))
      by None found targets so = absurd (none-some targets so)
      by (Some own) found targets so =
          right-row row held there among own (among-find (λ (k : NodeParts). same_text k.id held.node) given own found)
          ((same_text-tells own.id held.node).0 (find-passes (λ (k : NodeParts). same_text k.id held.node) given own found)) (row_in row.id own.rows) refl targets so

  -- the live volumes
  abbrev live : List ControllerRow
  live = filter (λ (row : ControllerRow). row.live) kept.rows

  -- a free row is one of a record's
  pub free-restorable : (nodes : List (List ℕ)) (shown : RowShown) → IsAmong shown (map (row_from given) live) → IsFreeRow nodes shown → IsRestorable nodes shown
  free-restorable nodes shown among is_free =
      let from = among-map (row_from given) live shown among in
      let row : ControllerRow = from.0 in
      let there : IsAmong row kept.rows = among-filter (λ (r : ControllerRow). r.live) kept.rows row from.1 in
      subst (IsRestorable nodes) (sym from.2)
      (restorable kept.next_id row (each_of (IsSoundRow kept.next_id) kept.rows row sound.each there) (λ held. targets_at given held.node row.id) (λ held own. right-of row held there own) nodes
      (subst (IsFreeRow nodes) from.2 is_free))

  -- and a record's is free
  pub restorable-free : (nodes : List (List ℕ)) (shown : RowShown) → IsAmong shown (map (row_from given) live) → IsRestorable nodes shown → IsFreeRow nodes shown
  restorable-free nodes shown among own =
      let from = among-map (row_from given) live shown among in
      let row : ControllerRow = from.0 in
      let there : IsAmong row kept.rows = among-filter (λ (r : ControllerRow). r.live) kept.rows row from.1 in
      subst (IsFreeRow nodes) (sym from.2)
      (free kept.next_id row (each_of (IsSoundRow kept.next_id) kept.rows row sound.each there) (λ held. targets_at given held.node row.id) (λ held mine. right-of row held there mine) nodes
      (subst (IsRestorable nodes) from.2 own))

  -- there are few
  pub rows-few : length (map (row_from given) live) ≤ 4096
  rows-few =
      let long = length-map live (row_from given) in let fewer = filter-no_longer (λ (r : ControllerRow). r.live) kept.rows in let limit = sound.limit in omega (arith, long, fewer, limit)

  -- no two have one name
  names-apart : (rows : List ControllerRow) → ((name : List ℕ) → AtMostOne (λ (r : ControllerRow). same_text r.name name) rows) → EachTwo (λ (a b : ControllerRow). same_text a.name b.name ≡ false) rows
  names-apart [] once = tt
  names-apart (row ∷ rows) once = (
    all_of (λ (b : ControllerRow). same_text row.name b.name ≡ false) rows
        (λ b among. text-turned row.name b.name ∙ none_passes (λ (r : ControllerRow). same_text r.name row.name) rows b ((once row.name).0 ((same_text-tells row.name row.name).1 refl)) among),
    names-apart rows (λ name. (once name).1),
  )

  pub rows-apart : EachTwo (λ (a b : RowShown). same_text a.name b.name ≡ false) (map (row_from given) live)
  rows-apart =
      two-map (λ (a b : RowShown). same_text a.name b.name ≡ false) (row_from given) live
      (two-filter (λ (a b : ControllerRow). same_text a.name b.name ≡ false) (λ (r : ControllerRow). r.live) kept.rows (names-apart kept.rows sound.names))

  -- so free rows are a record's
  pub free-rows : (nodes : List (List ℕ)) → AllByRecursion (IsFreeRow nodes) (map (row_from given) live) → AreRestorable nodes (map (row_from given) live)
  free-rows nodes are_free =
      record {
        few = rows-few;
        names = rows-apart;
        each = all_of (IsRestorable nodes) (map (row_from given) live) (λ shown among. free-restorable nodes shown among (each_of (IsFreeRow nodes) (map (row_from given) live) shown are_free among));
      }

  -- and the other way round
  pub rows-free : (nodes : List (List ℕ)) → AreRestorable nodes (map (row_from given) live) → AllByRecursion (IsFreeRow nodes) (map (row_from given) live)
  rows-free nodes own =
      all_of (IsFreeRow nodes) (map (row_from given) live) (λ shown among. restorable-free nodes shown among (each_of (IsRestorable nodes) (map (row_from given) live) shown own.each among))

-- the first of a list whose any two are apart are so
two-take : {X : Type 0} (R : X → X → Type 0) (xs : List X) (count : ℕ) → EachTwo R xs → EachTwo R (take count xs)
two-take R xs zero two = tt
two-take R [] (suc count) two = tt
two-take {X} R (x ∷ xs) (suc count) two = (each xs count two.0, two-take R xs count two.1)
  where
    each : (ys : List X) (n : ℕ) → AllByRecursion (R x) ys → AllByRecursion (R x) (take n ys)
    each ys zero all = tt
    each [] (suc n) all = tt
    each (y ∷ ys) (suc n) all = (all.0, each ys n all.1)

-- what stands at a place is among the list
among-at : {X : Type 0} (xs : List X) (place : ℕ) (d : X) → place < length xs → IsAmong (get_or xs place d) xs
among-at [] place d inside = absurd (omega arith)
among-at (x ∷ xs) zero d inside = inl refl
among-at (x ∷ xs) (suc place) d inside = inr (among-at xs place d (omega arith))

-- the first row that is refused isn't free
pub refused-not_free : (nodes : List (List ℕ)) (rows : List RowShown) (place : ℕ) → ((shown : RowShown) → IsAmong shown rows → IsFreeRow nodes shown → IsRestorable nodes shown) → length rows ≤ 4096
    → EachTwo (λ (a b : RowShown). same_text a.name b.name ≡ false) rows → IsFirstRefused (AreRestorable nodes) rows place → IsNotFree nodes rows place
refused-not_free nodes [] place restores few names first = let from = first.from in let to = first.to in absurd (omega (arith, from, to))
refused-not_free nodes (one ∷ others) place restores few names first =
    let rows : List RowShown = one ∷ others in
    let from = first.from in
    let to = first.to in
    let inside : place - 1 < length rows = omega (arith, from, to) in
    let row : RowShown = get_or rows (place - 1) one in
    let back : place - 1 + 1 ≡ place = omega (arith, from) in
    let more : take place rows ≡ take (place - 1) rows ++ row ∷ [] = ap (λ (n : ℕ). take n rows) (sym back) ∙ take_more rows (place - 1) one inside in
    record {
      row = row;
      there = slice_get-get_or rows (place - 1) one inside;
      not_free = λ is_free.
          first.refused (record {
            few = let long = length-take-le place rows to in omega (arith, long, few, to);
            names = two-take (λ (a b : RowShown). same_text a.name b.name ≡ false) rows place names;
            each =
                subst (AllByRecursion (IsRestorable nodes)) (sym more)
                (each-append_one (IsRestorable nodes) (take (place - 1) rows) row first.before.each (restores row (among-at rows (place - 1) one inside) is_free));
          });
    }
