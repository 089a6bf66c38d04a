-- The rows of a catalog under their names: what a look-up finds, and what stays so after a row changed or came.
use Rattle.csi_orchestrator.proofs.Words.{◌≡◌, ◌<◌, ◌≤◌, ◌+◌, ◌⊎◌, inl, inr, ℕ, zero, suc, Bool, List, [], ◌∷◌, ◌++◌}
use Rattle.csi_orchestrator.proofs.Words.{length, get_or, map, set, refl, sym, ◌∙◌, ap, subst, arith, Option, Some}
use Rattle.csi_orchestrator.proofs.Words.{None, option_map, find, position, slice_get, nat_eq, position_or_len}
use Rattle.csi_orchestrator.proofs.Words.{pointwise, keys_of, values_of, lookup, IndexMap, values, spare}
use Rattle.csi_orchestrator.proofs.Words.{with_value_at, insert_entry, IsAt, same_text, Number, OpenCall, Outgoing}
use Rattle.csi_orchestrator.proofs.Words.{Row, Catalog, rows_of, by_name, place_noted, HasRoomForCalls, HasFewNotes}
use Rattle.csi_orchestrator.proofs.Words.{IsIndexed, AreUpTo, IsReady, IsNextFor, IsClosedAt, AreNotedBefore}
use Rattle.csi_orchestrator.proofs.Words.{outgoing_call_number, IsNumberedAfter, RowShown, OrchestratorParts}
use Rattle.csi_orchestrator.proofs.Words.{row_shown, without_call}
use Rattle.csi_orchestrator.proofs.Lemmas.{length-map, length-set, length_push, map_push, none-some}
use Rattle.csi_orchestrator.proofs.Lemmas.{get_or_from_slice_get, find-no_place, insert_entry-new}
use Rattle.csi_orchestrator.proofs.Lemmas.{index_map_len-with_value_at, same-at}
use Rattle.indexmap.specs.Layout.{set_value_at}
use Rattle.csi_orchestrator.proofs.ListPlaces.{at-of_get, at-within, at-set, at-set_same, at-set_other, at-push}
use Rattle.csi_orchestrator.proofs.TextLists.{same_text-flip}

-- ---- searches of a list that is seen through a function

-- a value has the place there that it has in the list, by the same test
position_or_len-map : {X Y : Type 0} (f : X → Y) (p : Y → Bool) (q : X → Bool) (xs : List X) → ((x : X) → p (f x) ≡ q x) → position_or_len p (map f xs) ≡ position_or_len q xs
position_or_len-map f p q [] same = refl
position_or_len-map f p q (x ∷ xs) same = grind (arith, (position_or_len-map f p q xs same))

-- a test finds the same place in what a list is changed to as the test that comes to the same finds in the list
pub position-map : {X Y : Type 0} (f : X → Y) (p : Y → Bool) (q : X → Bool) (xs : List X) → ((x : X) → p (f x) ≡ q x) → position p (map f xs) ≡ position q xs
position-map f p q xs same = grind (arith, position_or_len-map, length-map)

-- the keys of entries that a function gives are the first parts of what it gives
keys-map : {X K V : Type 0} (f : X → K × V) (xs : List X) → keys_of (map f xs) ≡ map (λ x. (f x).0) xs
keys-map f [] = refl
keys-map f (x ∷ xs) = ap (λ ks. (f x).0 ∷ ks) (keys-map f xs)

-- the place of a key, where the entries are made of rows
pub position-keys : {X K V : Type 0} (f : X → K × V) (p : K → Bool) (q : X → Bool) (es : List (K × V)) (xs : List X) → es ≡ map f xs → ((x : X) → p (f x).0 ≡ q x) → position p (keys_of es) ≡ position q xs
position-keys f p q es xs is same = ap (λ l. position p (keys_of l)) is ∙ ap (position p) (keys-map f xs) ∙ position-map (λ x. (f x).0) p q xs same

-- a look-up gives what the function makes of the first one that passes the test
lookup-map : {X K V : Type 0} (f : X → K × V) (p : K → Bool) (q : X → Bool) (xs : List X) → ((x : X) → p (f x).0 ≡ q x) → lookup p (map f xs) ≡ option_map (λ x. (f x).1) (find q xs)
lookup-map f p q [] same = refl
lookup-map f p q (x ∷ xs) same = grind (arith, (lookup-map f p q xs same))

-- what stands at a place, as it is read there
pub read-at : (rows : List Row) (place : ℕ) (row : Row) → slice_get rows place ≡ Some row → row ≡ get_or rows place row
read-at rows place row at = sym (get_or_from_slice_get rows place row row at)

-- ---- another row in the place of one

-- the values are the ones that were there, with the new one at its place
values-set : {K V : Type 0} (es : List (K × V)) (i : ℕ) (w : V) → values_of (set_value_at es i w) ≡ set (values_of es) i w
values-set [] i w = refl
values-set (e ∷ es) zero w = refl
values-set (e ∷ es) (suc i) w = ap (λ vs. e.1 ∷ vs) (values-set es i w)

-- a row of the same name stands under that name
entries-set : (es : List (List ℕ × Row)) (rows : List Row) (i : ℕ) (row new : Row) → es ≡ map by_name rows → slice_get rows i ≡ Some row → new.name ≡ row.name → set_value_at es i new ≡ map by_name (set rows i new)
entries-set es rows i row new is at same = ap (λ l. set_value_at l i new) is ∙ by rows i at
  where
    some_is : (a b : Row) → Some a ≡ Some b → a ≡ b
    some_is a b h = cc

    by : (rs : List Row) (k : ℕ) → slice_get rs k ≡ Some row → set_value_at (map by_name rs) k new ≡ map by_name (set rs k new)
    by [] k h = refl
    by (r ∷ rs) zero h = let own : r.name ≡ new.name = ap (λ (x : Row). x.name) (some_is r row h) ∙ sym same in ap (λ n. (n, new) ∷ map by_name rs) own
    by (r ∷ rs) (suc k) h = ap (λ l. by_name r ∷ l) (by rs k h)

-- the catalog with this row at the place
abbrev pub catalog_with : Catalog → ℕ → Row → Catalog
catalog_with catalog place new = record catalog { rows = with_value_at catalog.rows place new }

-- its rows are the ones that were there, with this one at the place
pub rows-set : (catalog : Catalog) (place : ℕ) (new : Row) → rows_of (catalog_with catalog place new) ≡ set (rows_of catalog) place new
rows-set catalog place new = values-set catalog.rows.entries place new

-- each row stands under its own name still
pub names-set : (catalog : Catalog) (place : ℕ) (row new : Row) → catalog.rows.entries ≡ map by_name (rows_of catalog) → slice_get (rows_of catalog) place ≡ Some row → new.name ≡ row.name
    → (catalog_with catalog place new).rows.entries ≡ map by_name (rows_of (catalog_with catalog place new))
names-set catalog place row new names at name = entries-set catalog.rows.entries (rows_of catalog) place row new names at name ∙ ap (map by_name) (sym (rows-set catalog place new))

-- there is room still
room-set : (catalog : Catalog) (place : ℕ) (new : Row) → HasRoomForCalls catalog → HasRoomForCalls (catalog_with catalog place new)
room-set catalog place new room =
    let long : length (rows_of (catalog_with catalog place new)) ≡ length (rows_of catalog) = ap length (rows-set catalog place new) ∙ length-set (rows_of catalog) place new in
    λ some. let least = room (omega (arith, long, some)) in omega (arith, long, least)

-- and few calls are noted still
few-set : (catalog : Catalog) (place : ℕ) (new : Row) → HasFewNotes catalog → HasFewNotes (catalog_with catalog place new)
few-set catalog place new few =
    let long : length (rows_of (catalog_with catalog place new)) ≡ length (rows_of catalog) = ap length (rows-set catalog place new) ∙ length-set (rows_of catalog) place new in
    omega (arith, long, few)

-- the row's open call, if it has one, is the one that was open or the next one
abbrev pub IsOpened : Option OpenCall → Option Outgoing → Option OpenCall → Type 0
IsOpened old next new = (kept : OpenCall) → new ≡ Some kept → (old ≡ Some kept) ⊎ (outgoing_call_number next ≡ Some kept.number.call)

-- the next call isn't noted yet
pub next-unnoted : (catalog : Catalog) (last call : ℕ) → AreUpTo last catalog → call ≡ last + 1 → place_noted catalog call ≡ None
next-unnoted catalog last call known is = grind arith

-- a place of it is one still
pub within-set : (catalog : Catalog) (place other : ℕ) (new : Row) → other < length catalog.rows.entries → other < length (catalog_with catalog place new).rows.entries
within-set catalog place other new inside = let long = index_map_len-with_value_at catalog.rows place new in omega (arith, long, inside)

-- once a row went on, only the call that is sent for it isn't noted yet
pub ready-set : (catalog : Catalog) (last place : ℕ) (row new : Row) (next : Option Outgoing) → IsIndexed catalog → AreUpTo last catalog → slice_get (rows_of catalog) place ≡ Some row → new.name ≡ row.name
    → IsOpened row.open_call next new.open_call → IsNumberedAfter last next → IsReady (catalog_with catalog place new) place (outgoing_call_number next)
ready-set catalog last place row new next indexed known at name opened after =
    let inside = at-within (rows_of catalog) place row (at-of_get (rows_of catalog) place row at) in
    let long = length-map catalog.rows.entries (λ (e : List ℕ × Row). e.1) in
    record {
      within = within-set catalog place place new (omega (arith, long, inside));
      rows = names-set catalog place row new indexed.rows at name;
      found = λ other r kept there is_open. by other r kept is_open (at-set (rows_of catalog) place other new r (subst (λ (rs : List Row). IsAt rs other r) (rows-set catalog place new) there));
      new = λ call is. next-unnoted catalog last call known (after call is);
      room = room-set catalog place new indexed.noted.room;
      free = indexed.free (omega (arith, inside));
      few = few-set catalog place new indexed.few;
    }
  where
    own : (kept : OpenCall) → (row.open_call ≡ Some kept) ⊎ (outgoing_call_number next ≡ Some kept.number.call) → (place_noted catalog kept.number.call ≡ Some place) ⊎ ((place ≡ place) × (outgoing_call_number next ≡ Some kept.number.call))
    own kept (inl was) = inl (indexed.noted.found place row kept (at-of_get (rows_of catalog) place row at) was)
    own kept (inr is) = inr (refl, is)

    by : (other : ℕ) (r : Row) (kept : OpenCall) → r.open_call ≡ Some kept → ((other ≡ place) × (new ≡ r)) ⊎ IsAt (rows_of catalog) other r
        → (place_noted catalog kept.number.call ≡ Some other) ⊎ ((other ≡ place) × (outgoing_call_number next ≡ Some kept.number.call))
    by other r kept is_open (inl here) =
        subst (λ (n : ℕ). (place_noted catalog kept.number.call ≡ Some n) ⊎ ((n ≡ place) × (outgoing_call_number next ≡ Some kept.number.call))) (sym here.0)
        (own kept (opened kept (ap (λ (x : Row). x.open_call) here.1 ∙ is_open)))
    by other r kept is_open (inr there) = inl (indexed.noted.found other r kept there is_open)

-- where nothing is to be noted, all is
pub ready-none : (catalog : Catalog) (place : ℕ) → IsReady catalog place None → IsIndexed catalog
ready-none catalog place ready = grind arith

-- as many rows stand there
pub rows-within : (catalog : Catalog) (i : ℕ) → i < length catalog.rows.entries → i < length (rows_of catalog)
rows-within catalog i inside = let long = length-map catalog.rows.entries (λ (e : List ℕ × Row). e.1) in omega (arith, long, inside)

-- a place past the entries is past the rows
pub rows-below : (catalog : Catalog) (i : ℕ) → length catalog.rows.entries ≤ i → length (rows_of catalog) ≤ i
rows-below catalog i over = let long = length-map catalog.rows.entries (λ (e : List ℕ × Row). e.1) in omega (arith, long, over)

-- ---- one more

-- a name that no row has goes last
pub new-entries : (eq : List ℕ → List ℕ → Bool) (catalog : Catalog) (name : List ℕ) (row : Row) → IsIndexed catalog → ((other : Row) → eq name other.name ≡ same_text other.name row.name)
    → position (λ (other : Row). same_text other.name row.name) (rows_of catalog) ≡ None → insert_entry eq catalog.rows.entries name row ≡ catalog.rows.entries ++ (name, row) ∷ []
new-entries eq catalog name row indexed same none =
    let named = λ (other : Row). same_text other.name row.name in
    insert_entry-new eq catalog.rows name row
    (ap (lookup (eq name)) indexed.rows ∙ lookup-map by_name (eq name) named (rows_of catalog) same ∙ ap (option_map (λ (other : Row). other)) (find-no_place named (rows_of catalog) none))

-- the same in a catalog with the same rows
pub put-last : (old made : Catalog) (row : Row) → made.rows ≡ old.rows → IsIndexed made → position (λ (other : Row). same_text other.name row.name) (rows_of old) ≡ None
    → insert_entry (pointwise nat_eq) made.rows.entries row.name row ≡ made.rows.entries ++ by_name row ∷ []
put-last old made row same indexed none =
    new-entries (pointwise nat_eq) made row.name row indexed (λ other. same_text-flip row.name other.name)
    (subst (λ (m : IndexMap (List ℕ) Row _). position (λ (other : Row). same_text other.name row.name) (values m) ≡ None) (sym same) none)

-- the rows then are those that were there, and the new one last
pub rows-added : (old new : Catalog) (row : Row) → new.rows.entries ≡ old.rows.entries ++ by_name row ∷ [] → rows_of new ≡ rows_of old ++ row ∷ []
rows-added old new row rows = ap values_of rows ∙ map_push (λ (e : List ℕ × Row). e.1) old.rows.entries (by_name row)

-- once a row was added, only its own call isn't noted yet
pub ready-added : (old made new : Catalog) (row : Row) (next : Option ℕ) → IsIndexed made → made.rows ≡ old.rows → AreNotedBefore old made → length (rows_of old) + 2 ≤ spare made.calls
    → new.rows.entries ≡ made.rows.entries ++ by_name row ∷ [] → new.calls ≡ made.calls → IsNextFor old row.open_call next → IsReady new (length (rows_of old)) next
ready-added old made new row next indexed same kept roomy rows calls is = grind (arith, rows-added, length_push, length-map, map_push, at-push)

-- a row was closed at its place
pub closed-at : (catalog : Catalog) (place : ℕ) (row : Row) → slice_get (rows_of catalog) place ≡ Some row → IsClosedAt place (rows_of catalog) (rows_of (catalog_with catalog place (without_call row)))
closed-at catalog place row at =
    let stands = at-of_get (rows_of catalog) place row at in
    subst (IsClosedAt place (rows_of catalog)) (sym (rows-set catalog place (without_call row)))
    (record {
      long = length-set (rows_of catalog) place (without_call row);
      there = λ other is. subst (λ (r : Row). IsAt (set (rows_of catalog) place (without_call row)) place (without_call r)) (same-at (rows_of catalog) place row other stands is) (at-set_same (rows_of catalog) place row (without_call row) stands);
      others = λ other r is differs. at-set_other (rows_of catalog) place other (without_call row) r is differs;
    })

-- where no row stands nothing is closed
pub closed-nowhere : (rows : List Row) (place : ℕ) → length rows ≤ place → IsClosedAt place rows rows
closed-nowhere rows place over = grind (arith, at-within)

-- what is shown once a row was put in the place of another
pub parts-set : (nodes : List (List ℕ)) (last : Number) (catalog : Catalog) (place : ℕ) (new : Row)
    → (let parts : OrchestratorParts = record { nodes = nodes; last = last; rows = map row_shown (rows_of (catalog_with catalog place new)) } in parts) ≡ record { nodes = nodes; last = last; rows = map row_shown (set (rows_of catalog) place new) }
parts-set nodes last catalog place new = ap (λ rows. let parts : OrchestratorParts = record { nodes = nodes; last = last; rows = map row_shown rows } in parts) (rows-set catalog place new)

-- the catalog after a row refused
pub indexed-refused : (catalog : Catalog) (last place : ℕ) (row new : Row) → IsIndexed catalog → AreUpTo last catalog → slice_get (rows_of catalog) place ≡ Some row → row_shown new ≡ row_shown row → IsIndexed (catalog_with catalog place new)
indexed-refused catalog last place row new indexed known at same =
    ready-none (catalog_with catalog place new) place
    (ready-set catalog last place row new None indexed known at (ap (λ (r : RowShown). r.name) same) (λ kept is_open. inl (sym (ap (λ (r : RowShown). r.open_call) same) ∙ is_open)) (λ call is. absurd (none-some call is)))
