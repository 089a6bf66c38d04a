-- The map of names, kept in the order of the rows: what a look-up finds, and what stays after a change.
use Rattle.std.proofs.Common.{◌≡◌, ◌+◌, ℕ, Bool, true, false, cond, not, List, [], ◌∷◌, ◌++◌, get_or, map, refl, sym, ◌∙◌, ap}
use Rattle.std.specs.Prelude.{Some, None, IsOk, OnOk, Result, option_map, filter, find, position, nat_lt, nat_eq, String, ◌==◌}
use Rattle.std.specs.Cmp.Lexicographic.{pointwise}
use Rattle.std.specs.String.{string_bytes, string_eq}
use Rattle.std.specs.declared.result.Result.TheVariants as results
use Rattle.std.specs.List.{position_or_len}
use Rattle.std.specs.Map.{keys_of, lookup}
use Rattle.std.proofs.lemmas.Bool.{false≢true}
use Rattle.std.proofs.lemmas.List.{length-map}
use Rattle.indexmap.proofs.CallerLemmas.{insert_entry-new}
use Rattle.indexmap.specs.IndexMap.{IndexMap, insert_entry}
use Rattle.csi_types.proofs.Filters.{filter-of_map}
use Rattle.csi_types.proofs.Members.{all_of}
use Rattle.csi_types.proofs.Places.{FirstAt-find, FirstAt-position}
use Rattle.csi_types.proofs.Searches.{find-of_map}
use Rattle.csi_fence.specs.Public.Rows.{AreRising, stays_in}
use Rattle.csi_fence.proofs.RisingRows.{rows_rise}
use Rattle.csi_fence.proofs.KeptRows.{filter-alike}
use Rattle.csi_controller.specs.Public.Names.{by_name, by_text}
use Rattle.csi_controller.specs.Public.OneRow.{RowShown, row_shown}
use Rattle.csi_controller.specs.Public.Plan.{controller_plan}
use Rattle.csi_controller.specs.Private.Plan.{is_kept, is_row_kept}
use Rattle.csi_controller.specs.declared.row.ControllerRow.{ControllerRow}
use Rattle.csi_controller.proofs.Sound.{found-rising}

-- ---- searches of a list that is seen through a function

-- the first place that passes, or the length, is the same where the list is seen so
position_or_len-map : {X Y : Type 0} (f : X → Y) (p : Y → Bool) (q : X → Bool) (xs : List X) → ((x : X) → p (f x) ≡ q x) → position_or_len p (map f xs) ≡ position_or_len q xs
position_or_len-map f p q [] same = refl
position_or_len-map f p q (x ∷ xs) same =
    let own = same x in
    let rest = position_or_len-map f p q xs same in
    λ i. cond (not (own i)) (1 + rest i) 0

-- a place of a list that is seen through a function
pub position-map : {X Y : Type 0} (f : X → Y) (p : Y → Bool) (q : X → Bool) (xs : List X) → ((x : X) → p (f x) ≡ q x) → position p (map f xs) ≡ position q xs
position-map f p q xs same =
    let at = position_or_len-map f p q xs same in
    let long = length-map xs f in
    λ i. cond (nat_lt (at i) (long i)) (Some (at i)) None

-- the value that is found in entries that are made of a list is that of the first of the list that passes
lookup-map : {X K V : Type 0} (f : X → K × V) (p : K → Bool) (q : X → Bool) (xs : List X) → ((x : X) → p (f x).0 ≡ q x) → lookup p (map f xs) ≡ option_map (λ x. (f x).1) (find q xs)
lookup-map f p q [] same = refl
lookup-map f p q (x ∷ xs) same =
    let own = same x in
    ap (λ b. cond b (Some (f x).1) (lookup p (map f xs))) own ∙ by (q x) (lookup-map f p q xs same)
  where
    by : (b : Bool) → lookup p (map f xs) ≡ option_map (λ x. (f x).1) (find q xs) → cond b (Some (f x).1) (lookup p (map f xs)) ≡ option_map (λ x. (f x).1) (cond b (Some x) (find q xs))
    by true h = refl
    by false h = h

-- the place of the row that passes, where the texts of the keys are the names of rows
pub position-texts : {Z : Type 0} (p : List ℕ → Bool) (q : RowShown → Bool) (es : List (String Z × ℕ)) (rows : List RowShown) → map by_text es ≡ map by_name rows → ((row : RowShown) → p row.volume.name ≡ q row)
    → position (λ (key : String Z). p (string_bytes key)) (keys_of es) ≡ position q rows
position-texts {Z} p q es rows is same =
    position-map (λ (e : String Z × ℕ). e.0) (λ (key : String Z). p (string_bytes key)) (λ (e : String Z × ℕ). p (string_bytes e.0)) es (λ e. refl)
    ∙ sym (position-map by_text (λ (e : List ℕ × ℕ). p e.0) (λ (e : String Z × ℕ). p (string_bytes e.0)) es (λ e. refl))
    ∙ ap (position (λ (e : List ℕ × ℕ). p e.0)) is
    ∙ position-map by_name (λ (e : List ℕ × ℕ). p e.0) q rows same

-- a look-up by keys is one by their texts
lookup-texts : {Z : Type 0} (p : List ℕ → Bool) (es : List (String Z × ℕ)) → lookup (λ (key : String Z). p (string_bytes key)) es ≡ lookup p (map by_text es)
lookup-texts p [] = refl
lookup-texts p (e ∷ es) = ap (cond (p (string_bytes e.0)) (Some e.1)) (lookup-texts p es)

-- the id of the row that passes
pub id-texts : {Z : Type 0} (p : List ℕ → Bool) (q : RowShown → Bool) (es : List (String Z × ℕ)) (rows : List RowShown) → map by_text es ≡ map by_name rows → ((row : RowShown) → p row.volume.name ≡ q row)
    → lookup (λ (key : String Z). p (string_bytes key)) es ≡ option_map (λ (row : RowShown). row.volume.id) (find q rows)
id-texts p q es rows is same = lookup-texts p es ∙ ap (lookup p) is ∙ lookup-map by_name p q rows same

-- ---- one more

-- what follows from a success, where there is one
pub of-ok : {T E P : Type 0} (r : Result T E) → IsOk r → OnOk r P → P
of-ok (results.Ok x) ok told = told
of-ok (results.Err e) ok told = absurd (false≢true ok)

-- a name that no row has goes last
pub new-name : {Z S : Type 0} (q : RowShown → Bool) (m : IndexMap (String Z) ℕ S) (rows : List RowShown) (key : String Z) (id : ℕ) → map by_text m.entries ≡ map by_name rows
    → ((row : RowShown) → pointwise nat_eq (string_bytes key) row.volume.name ≡ q row) → find q rows ≡ None → insert_entry string_eq m.entries key id ≡ m.entries ++ (key, id) ∷ []
new-name q m rows key id is same none =
    insert_entry-new string_eq m key id (id-texts (pointwise nat_eq (string_bytes key)) q m.entries rows is same ∙ ap (option_map (λ (row : RowShown). row.volume.id)) none)

-- ---- what stays

-- the row at the place of an id is the one that is found by it
pub found-got : (rows : List ControllerRow) (id place : ℕ) (row : ControllerRow) → Some place ≡ position (λ (r : RowShown). r.volume.id == id) (map row_shown rows) → row ≡ get_or rows place row
    → find (λ (r : RowShown). r.volume.id == id) (map row_shown rows) ≡ Some (row_shown row)
found-got rows id place row at is =
    let p : RowShown → Bool = λ r. r.volume.id == id in
    let q : ControllerRow → Bool = λ r. r.id == id in
    find-of_map p row_shown rows ∙ ap (option_map row_shown) (FirstAt-find q rows place row (FirstAt-position q rows place row (sym (at ∙ position-map row_shown p q rows (λ r. refl))) is))

-- the names of the rows that stay
pub names-kept : {Z : Type 0} (session : ℕ) (old new : List (String Z × ℕ)) (rows : List RowShown) → AreRising controller_plan.id rows → map by_text old ≡ map by_name rows → new ≡ filter (λ e. is_kept session e.1 rows) old
    → map by_text new ≡ map by_name (filter (stays_in controller_plan session) rows)
names-kept {Z} session old new rows rising names is =
    ap (map by_text) is
    ∙ sym (filter-of_map (λ (e : List ℕ × ℕ). is_kept session e.1 rows) by_text old)
    ∙ ap (filter (λ (e : List ℕ × ℕ). is_kept session e.1 rows)) names
    ∙ filter-of_map (λ (e : List ℕ × ℕ). is_kept session e.1 rows) by_name rows
    ∙ ap (map by_name) (filter-alike (λ (r : RowShown). is_kept session r.volume.id rows) (stays_in controller_plan session) rows
    (all_of (λ (r : RowShown). is_kept session r.volume.id rows ≡ stays_in controller_plan session r) rows
    (λ row among. ap (is_row_kept session) (found-rising controller_plan.id rows row (rows_rise controller_plan.id rows rising) among))))
