-- What a call changes of the parts of a plugin's record, whichever it is; and rows stay within their limits.
use Rattle.std.proofs.Common.{◌≡◌, ◌∙◌, sym, ap, refl, subst, inl, inr, ℕ, zero, suc, ◌≤◌, ◌<◌, Bool, true, false, cond, List, [], ◌∷◌, ◌++◌, map, arith, IfSome}
use Rattle.std.specs.Prelude.{◌≢◌, Option, Some, None, filter, option_map, option_to_list, ◌==◌}
use Rattle.std.specs.List.{AllByRecursion}
use Rattle.std.proofs.lemmas.Bool.{eqb-true}
use Rattle.std.proofs.lemmas.Bool.Decides.{nat_tests}
use Rattle.std.proofs.lemmas.Option.{same_Some, slice_get-map}
use Rattle.csi_types.specs.Model.Members.{IsAmong}
use Rattle.csi_types.proofs.Members.{each_of, all_of, in-map, among-filter, among-find}
use Rattle.csi_types.proofs.Options.{some_is_not_none, some-from_map}
use Rattle.csi_types.proofs.Searches.{find-of_map}
use Rattle.csi_types.specs.Public.VolumeId.{IsVolumeId}
use Rattle.csi_types.specs.declared.number.Number.{Number}
use Rattle.csi_types.specs.Model.Frame.{Frame}
use Rattle.csi_fence.specs.Model.Fence.{begins}
use Rattle.csi_fence.specs.Model.Fenced.{fenced}
use Rattle.csi_stores.specs.Public.Part.{StoredPart, StoredChange, put_all, take_all}
use Rattle.csi_stores.specs.Public.Content.{all_changed, AreRisingParts}
use Rattle.csi_stores.proofs.RisingChanges.{rising-all}
use Rattle.csi_service.specs.declared.changed.Changed.{Changed}
use Rattle.csi_service.specs.Public.Plugins.{View, head_change, row_parts, head_of, record_parts, record_changes, at_place, row_id, row_by_id, last_in, Differs, AreFit, IsNamedFit, IsFrom, Answers}
use Rattle.csi_service.specs.Private.Plugins.{gone_ids, forgotten_by, staying, RowsChange, TellSame}
use Rattle.csi_service.proofs.RisingParts.{part_at, same-parts, at-put}
use Rattle.csi_service.proofs.StayingRows.{all-append, behind-first, gone-taken, gone-there, gone-nowhere, headed-changed, above-zero}

module _ {P Own R State : Type 0} (view : View P Own R State) where
  -- ---- rows and their parts

  -- the id of a row
  abbrev id_of : R → ℕ
  id_of row = (view.part row).key

  -- the part of an id is that of its row
  pub at-row : (id : ℕ) (rows : List R) → part_at id (map view.part rows) ≡ option_map view.part (row_by_id view id rows)
  at-row id rows = find-of_map (λ (part : StoredPart). part.key == id) view.part rows

  -- of rows by rising id each is found by its own
  pub found-own : (rows : List R) (row : R) → AreRisingParts (map view.part rows) → IsAmong row rows → row_by_id view (id_of row) rows ≡ Some row
  found-own [] row rising among = absurd among
  found-own (first ∷ rows) row rising (inl is) = grind (arith, nat_tests, is)
  found-own (first ∷ rows) row rising (inr there) =
      let less : id_of first < id_of row = each_of (λ (part : StoredPart). id_of first < part.key) (map view.part rows) (view.part row) rising.0 (in-map view.part rows row there) in
      grind (arith, nat_tests, less, found-own rows row rising.1 there)

  -- the part at a place is that of the row there
  pub at-part : (place : Option ℕ) (rows : List R) → at_place place (map view.part rows) ≡ option_map view.part (at_place place rows)
  at-part None rows = refl
  at-part (Some place) rows = slice_get-map view.part rows place

  -- so is its id
  pub id-at : (place : Option ℕ) (plugin : P) (o : Option R) → at_place place (view.rows plugin) ≡ o → row_id view place plugin ≡ option_map id_of o
  id-at place plugin None is = ap (option_map (λ (part : StoredPart). part.key)) (at-part place (view.rows plugin) ∙ ap (option_map view.part) is)
  id-at place plugin (Some row) is = ap (option_map (λ (part : StoredPart). part.key)) (at-part place (view.rows plugin) ∙ ap (option_map view.part) is)

  -- what is there is one of the rows
  among-at : (place : Option ℕ) (rows : List R) (row : R) → at_place place rows ≡ Some row → IsAmong row rows
  among-at None rows row is = absurd cc
  among-at (Some place) [] row is = absurd cc
  among-at (Some zero) (r ∷ rs) row is = inl (sym (same_Some r row is))
  among-at (Some (suc place)) (r ∷ rs) row is = inr (among-at (Some place) rs row is)

  -- what is told of a row that is there
  abbrev row_change : Option R → List StoredChange
  row_change o = put_all (option_to_list (option_map view.part o))

  -- ---- a call

  module _ (old new : P) (changed : Changed) (number : Number) (rising : AreRisingParts (row_parts view old)) (rising_too : AreRisingParts (row_parts view new)) (changes : RowsChange view changed.row number old new)
      (are : changed.forgotten.items ≡ forgotten_by view number old) where
    -- the id of the row that the call changed or made, and that row
    abbrev own_row : Option ℕ
    own_row = row_id view changed.row new

    abbrev put : Option R
    put = at_place changed.row (view.rows new)

    -- the call begins a session
    abbrev begun : Bool
    begun = begins (view.numbers old).1 number

    -- the rows that stay
    abbrev stay : List R
    stay = staying view number old

    -- an id is that one, or another
    by-own : {A : Type 0} (id : ℕ) → (own_row ≡ Some id → A) → ((own_row ≡ Some id → ⊥) → A) → A
    by-own {A} id own other = by own_row refl
      where
        either : (key : ℕ) (b : Bool) → (key == id) ≡ b → own_row ≡ Some key → A
        either key true t e = own (e ∙ ap Some (eqb-true key id t))
        either key false t e = other (λ is. let same : key ≡ id = same_Some key id (sym e ∙ is) in grind (arith, nat_tests))

        by : (o : Option ℕ) → own_row ≡ o → A
        by None e = other (λ is. some_is_not_none id (sym is ∙ e))
        by (Some key) e = either key (key == id) refl e

    -- the row of that id is the one at the place
    own-put : (id : ℕ) → own_row ≡ Some id → row_by_id view id (view.rows new) ≡ put
    own-put id own = by put refl
      where
        by : (o : Option R) → put ≡ o → row_by_id view id (view.rows new) ≡ put
        by None e = absurd (some_is_not_none id (sym own ∙ id-at changed.row new None e))
        by (Some row) e =
            let same : id_of row ≡ id = same_Some (id_of row) id (sym (id-at changed.row new (Some row) e) ∙ own) in
            ap (λ (n : ℕ). row_by_id view n (view.rows new)) (sym same) ∙ found-own (view.rows new) row rising_too (among-at changed.row (view.rows new) row e) ∙ sym e

    -- the old parts without those that don't stay
    abbrev left : List StoredPart
    left = all_changed (take_all (forgotten_by view number old)) (row_parts view old)

    -- are those of the rows that stay
    stay-left : left ≡ map view.part stay
    stay-left = by begun
      where
        by : (b : Bool) → all_changed (take_all (cond b (gone_ids view old) [])) (row_parts view old) ≡ map view.part (cond b (filter view.stays (view.rows old)) (view.rows old))
        by true = gone-taken view.part view.stays (view.rows old) rising
        by false = refl

    -- each other part of them is as it was
    same-at : (id : ℕ) → (own_row ≡ Some id → ⊥) → part_at id left ≡ part_at id (row_parts view new)
    same-at id other = ap (part_at id) stay-left ∙ at-row id stay ∙ ap (option_map view.part) (sym (changes.others id other)) ∙ sym (at-row id (view.rows new))

    -- with the row of the call put in, they are the new ones
    row-put : all_changed (row_change put) left ≡ row_parts view new
    row-put = same-parts (all_changed (row_change put) left) (row_parts view new) (rising-all (row_change put) left (rising-all (take_all (forgotten_by view number old)) (row_parts view old) rising)) rising_too (by put refl)
      where
        by : (o : Option R) → put ≡ o → (key : ℕ) → part_at key (all_changed (row_change o) left) ≡ part_at key (row_parts view new)
        by None e key = same-at key (λ is. some_is_not_none key (sym is ∙ id-at changed.row new None e))
        by (Some row) e key = at-put key (view.part row) left ∙ either (id_of row == key) refl
          where
            either : (b : Bool) → (id_of row == key) ≡ b → cond b (Some (view.part row)) (part_at key left) ≡ part_at key (row_parts view new)
            either true t =
                let own : own_row ≡ Some key = id-at changed.row new (Some row) e ∙ ap Some (eqb-true (id_of row) key t) in
                sym (at-row key (view.rows new) ∙ ap (option_map view.part) (own-put key own ∙ e))
            either false t = same-at key (λ is. let same : id_of row ≡ key = same_Some (id_of row) key (sym (id-at changed.row new (Some row) e) ∙ is) in grind (arith, nat_tests))

    -- its key is above a head's
    put-above : (o : Option R) → put ≡ o → IfSome own_row IsVolumeId → AllByRecursion (λ (change : StoredChange). 0 < change.key) (row_change o)
    put-above None e fits = tt
    put-above (Some row) e fits = ((subst (λ (o : Option ℕ). IfSome o IsVolumeId) (id-at changed.row new (Some row) e) fits).from_one, tt)

    -- what a call changed makes the parts of the old plugin those of the new one
    pub parts-changed : (changed.new_head ≡ false → head_of view new ≡ head_of view old) → AllByRecursion IsVolumeId changed.forgotten.items → IfSome own_row IsVolumeId
        → record_parts view new ≡ all_changed (record_changes view changed new) (record_parts view old)
    parts-changed same fit fits =
        let gone = take_all changed.forgotten.items in
        sym (ap (λ (o : Option StoredPart). all_changed (head_change changed.new_head (head_of view new) ++ gone ++ put_all (option_to_list o)) (record_parts view old)) (at-part changed.row (view.rows new))
        ∙ all-append (head_change changed.new_head (head_of view new) ++ gone) (row_change put) (record_parts view old)
        ∙ ap (all_changed (row_change put)) (headed-changed changed.new_head (head_of view old) (head_of view new) gone (row_parts view old) refl same (above-zero changed.forgotten.items fit))
        ∙ behind-first (head_of view new) (row_change put) (all_changed gone (row_parts view old)) (put-above put refl fits)
        ∙ ap (λ (ps : List StoredPart). head_of view new ∷ ps) (ap (λ (ids : List ℕ). all_changed (row_change put) (all_changed (take_all ids) (row_parts view old))) are ∙ row-put))

    -- ---- what is told is other than it was

    -- the row that was changed or made has another last number than before
    named-differs : (id : ℕ) → own_row ≡ Some id → last_in view new id ≡ last_in view old id → ⊥
    named-differs id named same =
        let row = changes.put id named in
        let was = some-from_map view.last (row_by_id view id (view.rows old)) (view.last row.0) (sym same ∙ ap (option_map view.last) row.1) in
        changes.fresh id was.0 named was.1 (was.2 ∙ row.2)

    -- a row that was forgotten was there, and no row of its id is, unless it was made anew
    forgotten-differs : (id : ℕ) → IsAmong id (forgotten_by view number old) → last_in view new id ≡ last_in view old id → ⊥
    forgotten-differs id among same =
        by-own id (λ named. named-differs id named same) (λ other.
        let was = told begun among in
        some_is_not_none (view.last was.1.0) (sym (ap (option_map view.last) was.1.1) ∙ sym same ∙ ap (option_map view.last) (changes.others id other ∙ was.0)))
      where
        told : (b : Bool) → IsAmong id (cond b (gone_ids view old) [])
            → (row_by_id view id (cond b (filter view.stays (view.rows old)) (view.rows old)) ≡ None) × ((row : R) × (row_by_id view id (view.rows old) ≡ Some row))
        told true among = (gone-nowhere view.part view.stays id (view.rows old) rising among, gone-there view.part view.stays id (view.rows old) among)
        told false among = absurd among

    -- all that is told is other than it was
    pub all-differ : (changed.new_head ≡ true → view.numbers new ≢ view.numbers old) → Differs view changed old new
    all-differ head = record {
      head = head;
      rows = λ id told. elim told [ inl among ↦ forgotten-differs id (subst (IsAmong id) are among) | inr named ↦ named-differs id named ];
    }

    -- ---- limits

    -- rows are within their limits where those before the call are, and the one that it changed
    pub all-fit : AreFit view old → IsNamedFit view changed.row new → AreFit view new
    all-fit fit named = all_of view.IsRow (view.rows new) (λ row among.
        let found = found-own (view.rows new) row rising_too among in
        by-own (id_of row) (λ own. subst (λ (o : Option R). IfSome o view.IsRow) (sym (own-put (id_of row) own) ∙ found) named)
        (λ other. each_of view.IsRow (view.rows old) row fit (was begun row (among-find (λ (r : R). id_of r == id_of row) stay row (sym (changes.others (id_of row) other) ∙ found)))))
      where
        was : (b : Bool) (row : R) → IsAmong row (cond b (filter view.stays (view.rows old)) (view.rows old)) → IsAmong row (view.rows old)
        was true row among = among-filter view.stays (view.rows old) row among
        was false row among = among

    -- ---- the session

    -- a call doesn't take it back
    pub risen : (view.numbers old).1 ≤ (view.numbers new).1
    risen = grind (arith, nat_tests, changes.session)

  -- ---- nothing is told

  -- where all that is told is other than it was, and nothing is, nothing is told
  pub nothing-told : (one other : P) (changed : Changed) → TellSame view one other → Differs view changed one other → record_changes view changed other ≡ []
  nothing-told one other changed same differ =
      let head = no-head changed.new_head refl in
      let ids = no-ids changed.forgotten.items refl in
      let row = no-row (at_place changed.row (row_parts view other)) refl in
      λ i. head_change (head i) (head_of view other) ++ take_all (ids i) ++ put_all (option_to_list (row i))
    where
      no-head : (b : Bool) → changed.new_head ≡ b → changed.new_head ≡ false
      no-head true e = absurd (differ.head e same.numbers)
      no-head false e = e

      no-ids : (ids : List ℕ) → changed.forgotten.items ≡ ids → changed.forgotten.items ≡ []
      no-ids [] e = e
      no-ids (id ∷ ids) e = absurd (differ.rows id (inl (rw e (inl refl))) (same.last id))

      no-row : (part : Option StoredPart) → at_place changed.row (row_parts view other) ≡ part → at_place changed.row (row_parts view other) ≡ None
      no-row None e = e
      no-row (Some part) e = absurd (differ.rows part.key (inr (ap (option_map (λ (p : StoredPart). p.key)) e)) (same.last part.key))

  -- ---- a refusal

  -- a plugin that shows and has what it did answers as it would have
  pub as-before : (old new : P) → view.own new ≡ view.own old → view.numbers new ≡ view.numbers old → ((state : State) → view.Shows old state → view.Shows new state)
      → (frame : Frame) (reply : Option Frame) (next : P) → Answers view new frame reply next → Answers view old frame reply next
  as-before old new own numbers shows frame reply next then = record {
    own = then.own ∙ own;
    session = subst (λ (n : ℕ × ℕ). IsFrom n.1 (view.numbers next).1) numbers then.session;
    gets = λ state shown. then.gets state (shows state shown) ∙ ap (λ (o : Own). (fenced (view.machine o) state frame).reply) own;
    leads = λ state shown. subst (λ (o : Own). view.Shows next (fenced (view.machine o) state frame).state) own (then.leads state (shows state shown));
  }
