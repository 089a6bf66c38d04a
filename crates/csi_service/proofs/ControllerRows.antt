-- A controller as it is seen: its rows rise by id, a call changes them as it changes any plugin's, and the state that it shows tells its record.
use Rattle.std.proofs.Common.{◌≡◌, ◌∙◌, sym, ap, refl, ℕ, ◌<◌, Bool, true, false, cond, List, [], ◌∷◌, map}
use Rattle.std.specs.Prelude.{Option, Some, None, find, filter, not, option_map, ◌==◌}
use Rattle.std.specs.List.{AllByRecursion}
use Rattle.std.proofs.lemmas.Option.{slice_get-map}
use Rattle.csi_types.proofs.Filters.{filter-of_map}
use Rattle.csi_types.proofs.Maps.{map-twice}
use Rattle.csi_types.proofs.Options.{some_is_not_none, some-from_map}
use Rattle.csi_types.proofs.Searches.{find-of_map}
use Rattle.csi_types.specs.declared.holding.Holding.{Holding}
use Rattle.csi_types.specs.declared.number.Number.{Number}
use Rattle.csi_fence.specs.Model.Fence.{begins}
use Rattle.csi_controller.specs.declared.row.NodeHolding.{NodeHolding}
use Rattle.csi_controller.specs.declared.row.ControllerRow.{ControllerRow}
use Rattle.csi_controller.specs.Model.State.{Volume, ControllerState}
use Rattle.csi_controller.specs.Model.Shown.{volume_of_row, holdings_in, holdings_in_row}
use Rattle.csi_controller.specs.Model.Core.{ControllerParts, Shows}
use Rattle.csi_controller.specs.Public.Core.{AreRisingRows, volume_holding}
use Rattle.csi_controller.specs.Public.RowsLaw.{row_by_id, staying, Changes, ChangesAt}
use Rattle.csi_controller.specs.Public.State.{volume_with_id}
use Rattle.csi_controller.specs.Public.Views.{IsCopyOf}
use Rattle.csi_stores.specs.Public.Content.{AreRisingParts}
use Rattle.csi_stores.proofs.RisingChanges.{AreAbove}
use Rattle.csi_records.specs.declared.version.RecordVersion.{RecordVersion}
use Rattle.csi_records.specs.Public.Spelling.{present, VolumeRow, volume_row, volume_part}
use Rattle.csi_service.specs.Public.Plugins as plugins
use Rattle.csi_service.specs.Public.Services.{controller_view}
use Rattle.csi_service.specs.Private.Plugins.{gone_ids, RowsChange, TellSame}
use Rattle.csi_service.proofs.RisingParts.{same-parts}
use Rattle.csi_service.proofs.RowChanges.{at-row, id-at}

-- ---- rows by rising id

-- ids above an id are keys above it, in every version
above-shown : (version : RecordVersion) (id : ℕ) (rows : List ControllerRow) → AllByRecursion (λ (later : ControllerRow). id < later.id) rows → AreAbove id (map (volume_part version) (map volume_row rows))
above-shown version id [] above = tt
above-shown version id (row ∷ rows) above = (above.0, above-shown version id rows above.1)

-- rows by rising id are parts by rising key, in every version
pub rising-in : (version : RecordVersion) (rows : List ControllerRow) → AreRisingRows rows → AreRisingParts (map (volume_part version) (map volume_row rows))
rising-in version [] rising = tt
rising-in version (row ∷ rows) rising = (above-shown version row.id rows rising.0, rising-in version rows rising.1)

-- the row of an id, as it is spelled
shown-by_id : (id : ℕ) (rows : List ControllerRow) → plugins.row_by_id controller_view id (map volume_row rows) ≡ option_map volume_row (row_by_id id rows)
shown-by_id id rows = find-of_map (λ (row : VolumeRow). row.volume.id == id) volume_row rows

-- the ids of the rows of deleted volumes
pub gone-shown : (controller : ControllerParts) → map (λ (row : ControllerRow). row.id) (filter (λ (row : ControllerRow). not row.live) controller.rows) ≡ gone_ids controller_view controller
gone-shown controller =
    sym (ap (map (λ (row : VolumeRow). row.volume.id)) (filter-of_map (λ (row : VolumeRow). not row.volume.is_live) volume_row controller.rows)
    ∙ map-twice (λ (row : VolumeRow). row.volume.id) volume_row (λ (row : ControllerRow). row.id) (filter (λ (row : ControllerRow). not row.live) controller.rows) (λ row. refl))

-- ---- a call

-- rows that may be there and say the same are spelled the same
copy-shown : (old new : Option ControllerRow) → IsCopyOf old new → option_map volume_row new ≡ option_map volume_row old
copy-shown None None same = refl
copy-shown None (Some new) same = absurd same
copy-shown (Some old) None same = absurd same
copy-shown (Some old) (Some new) same = λ i. Some (record { volume = same.volume i; holdings = same.items i })

-- what a call changed of the row of an id, as it is spelled
changes-of : (row place : Option ℕ) (number : Number) (old new : ControllerParts) → plugins.row_id controller_view place new ≡ row → Changes row number old new → RowsChange controller_view place number old new
changes-of row place number old new is changes = record {
  session = changes.session;
  others = λ id other.
      shown-by_id id new.rows ∙ copy-shown (row_by_id id (staying old.session number old.rows)) (row_by_id id new.rows) (changes.others id (λ e. other (is ∙ e)))
      ∙ sym (shown-by_id id (staying old.session number old.rows)) ∙ ap (plugins.row_by_id controller_view id) (sym (stay (begins old.session number)));
  put = λ id e. let put = changes.put id (sym is ∙ e) in (volume_row put.0, shown-by_id id new.rows ∙ ap (option_map volume_row) put.1, put.2);
  fresh = λ id was e there same.
      let before = some-from_map volume_row (row_by_id id old.rows) was (sym (shown-by_id id old.rows) ∙ there) in
      changes.fresh id before.0 (sym is ∙ e) before.1 (ap (λ (row : VolumeRow). row.volume.kept.number) before.2 ∙ same);
}
  where
    stay : (b : Bool) → cond b (filter (λ (row : VolumeRow). row.volume.is_live) (map volume_row old.rows)) (map volume_row old.rows) ≡ map volume_row (cond b (filter (λ (row : ControllerRow). row.live) old.rows) old.rows)
    stay true = filter-of_map (λ (row : VolumeRow). row.volume.is_live) volume_row old.rows
    stay false = refl

-- so it did at the row's place
pub controller-changes : (place : Option ℕ) (number : Number) (old new : ControllerParts) → ChangesAt place number old new → RowsChange controller_view place number old new
controller-changes None number old new changes = changes-of None None number old new refl changes
controller-changes (Some place) number old new changes =
    changes-of (Some changes.0.id) (Some place) number old new (id-at controller_view (Some place) new (Some (volume_row changes.0)) (slice_get-map volume_row new.rows place ∙ ap (option_map volume_row) changes.1)) changes.2

-- ---- a row is told by its volume and its holdings

-- holdings of one volume are told by what the volume's list has
same_held : (id : ℕ) (xs ys : List NodeHolding) → map (volume_holding id) xs ≡ map (volume_holding id) ys → xs ≡ ys
same_held id [] [] e = refl
same_held id [] (y ∷ ys) e = absurd cc
same_held id (x ∷ xs) [] e = absurd cc
same_held id (x ∷ xs) (y ∷ ys) e =
    let first : volume_holding id x ≡ volume_holding id y = cc in
    let rest : map (volume_holding id) xs ≡ map (volume_holding id) ys = cc in
    let one : x ≡ y = both x y (ap (λ (h : Holding). h.node) first) (ap (λ (h : Holding). h.capability) first) (ap (λ (h : Holding). h.readonly) first) in
    let more = same_held id xs ys rest in
    λ i. one i ∷ more i
  where
    both : (a b : NodeHolding) → a.node ≡ b.node → a.capability ≡ b.capability → a.readonly ≡ b.readonly → a ≡ b
    both a b node capability readonly = λ i. record { node = node i; capability = capability i; readonly = readonly i }

-- one row, and one that may be there
same_row : (one other : ControllerRow) → volume_of_row one ≡ volume_of_row other → holdings_in_row one ≡ holdings_in_row other → volume_row one ≡ volume_row other
same_row one other volume held =
    let ids : other.id ≡ one.id = sym (ap (λ (v : Volume). v.id) volume) in
    let items = same_held one.id one.holdings.items other.holdings.items (held ∙ ap (λ (n : ℕ). map (volume_holding n) other.holdings.items) ids) in
    λ i. record { volume = volume i; holdings = items i }

-- rows that may be there, with the same volume and the same holdings, are spelled the same
row-told : (one other : Option ControllerRow) → option_map volume_of_row one ≡ option_map volume_of_row other → holdings_in one ≡ holdings_in other → option_map volume_row one ≡ option_map volume_row other
row-told None None volume held = refl
row-told None (Some other) volume held = absurd (some_is_not_none (volume_of_row other) (sym volume))
row-told (Some one) None volume held = absurd (some_is_not_none (volume_of_row one) volume)
row-told (Some one) (Some other) volume held = ap Some (same_row one other (let e = volume in cc) held)

-- ---- two controllers that show one state

-- a state's volume of an id is that of the row
with_id-shown : (parts : ControllerParts) (state : ControllerState) (id : ℕ) → Shows parts state → option_map volume_of_row (row_by_id id parts.rows) ≡ volume_with_id id state
with_id-shown parts state id shown =
    sym (find-of_map (λ (v : Volume). v.id == id) volume_of_row parts.rows) ∙ ap (find (λ (v : Volume). v.id == id)) shown.shows.volumes

module _ (one other : ControllerParts) (state : ControllerState) (shown : Shows one state) (shown_too : Shows other state) where
  -- they have rows that say the same of each id
  same-row_at : (id : ℕ) → plugins.row_by_id controller_view id (map volume_row other.rows) ≡ plugins.row_by_id controller_view id (map volume_row one.rows)
  same-row_at id =
      shown-by_id id other.rows
      ∙ row-told (row_by_id id other.rows) (row_by_id id one.rows) (with_id-shown other state id shown_too ∙ sym (with_id-shown one state id shown)) (shown_too.shows.holdings id ∙ sym (shown.shows.holdings id))
      ∙ sym (shown-by_id id one.rows)

  -- so they tell the same
  pub controller-tells : TellSame controller_view one other
  controller-tells = record {
    numbers = λ i. ((shown_too.shows.next ∙ sym shown.shows.next) i, (shown_too.session ∙ sym shown.session) i);
    last = λ id. ap (option_map controller_view.last) (same-row_at id);
  }

  -- and under one configuration they have the same parts
  pub same-record : AreRisingRows one.rows → AreRisingRows other.rows → other.config ≡ one.config
      → (plugins.head_of controller_view other ≡ plugins.head_of controller_view one) × (plugins.row_parts controller_view other ≡ plugins.row_parts controller_view one)
  same-record rising rising_too config = (
    λ i. record { key = 0; value = controller_view.head (config i) (controller-tells.numbers i) },
    same-parts (plugins.row_parts controller_view other) (plugins.row_parts controller_view one) (rising-in present other.rows rising_too) (rising-in present one.rows rising)
        (λ id. at-row controller_view id (map volume_row other.rows) ∙ ap (option_map (volume_part present)) (same-row_at id) ∙ sym (at-row controller_view id (map volume_row one.rows))),
  )
