-- The rows that are made of an orchestrator's show the controller that is rebuilt of them.
use Rattle.std.proofs.Common.{◌≡◌, ◌≢◌, ◌<◌, ◌+◌, ◌^◌, ◌%◌, ℕ, zero, suc, List, [], ◌∷◌, ◌++◌, Bool, true, false, cond, not, length, take, get_or, map, refl, sym, ◌∙◌, ap, subst, inl, inr, arith}
use Rattle.std.specs.Prelude.{◌==◌, Option, Some, None, find, filter, filter_map, option_map}
use Rattle.std.specs.List.{AllByRecursion, IsDistinct, cons_option, flat_map}
use Rattle.std.specs.List.Sorted.{IsPermutation}
use Rattle.std.proofs.lemmas.Bool.{true≢false, eqb-true, eq-eqb, ne_eqb}
use Rattle.std.proofs.lemmas.List.{append-nil, map_push}
use Rattle.std.proofs.lemmas.List.Elements.{filter_map-append}
use Rattle.std.proofs.lemmas.List.Sorted.{IsPermutation-map, IsPermutation-sym}
use Rattle.std.proofs.lemmas.Map.Keys.{IsDistinct-IsPermutation}
use Rattle.std.proofs.lemmas.Option.{same_Some}
use Rattle.csi_types.specs.Model.Members.{IsAmong, EachTwo}
use Rattle.csi_types.specs.Public.Places.{AtMostOne}
use Rattle.csi_types.proofs.Each.{each-weaker}
use Rattle.csi_types.proofs.Maps.{map-twice}
use Rattle.csi_types.proofs.Members.{each_of, among-find, among-moved, among-back, none_passes}
use Rattle.csi_types.proofs.Pairs.{two-map}
use Rattle.csi_types.proofs.Searches.{find-none, find-one, find-passes}
use Rattle.csi_types.specs.declared.holding.Holding.{Holding}
use Rattle.csi_controller.specs.declared.row.ControllerRow.{ControllerRow}
use Rattle.csi_controller.specs.declared.row.NodeHolding.{NodeHolding}
use Rattle.csi_controller.specs.Model.State.{Volume}
use Rattle.csi_controller.specs.Model.Shown.{volume_of_row, holdings_in_row, holdings_in}
use Rattle.csi_controller.specs.Public.Core.{AreRisingRows, volume_holding}
use Rattle.csi_controller.specs.Public.Judging as controller_judging
use Rattle.csi_controller.specs.Public.Views.{attached_holdings}
use Rattle.csi_controller.proofs.Attached.{attached-of}
use Rattle.csi_controller.proofs.Sound.{two-rise, found-rising}
use Rattle.csi_fence.specs.declared.fault.RecordFault.{RecordFault}
use Rattle.csi_fence.specs.declared.fault.RecordFault.TheVariants as record_faults
use Rattle.csi_fence.proofs.JudgedRows.{one-more}
use Rattle.csi_orchestrator.specs.declared.thing.Known.{Known}
use Rattle.csi_orchestrator.specs.declared.thing.Known.TheVariants.{Yes, No, Maybe}
use Rattle.csi_orchestrator.specs.Model.Shown.{NodeEntryShown, RowShown}
use Rattle.csi_orchestrator.specs.Model.Thing.{is_no}
use Rattle.csi_orchestrator.specs.Public.Record.{RecordParts}
use Rattle.csi_orchestrator.specs.Public.Restored.{IsRestorable}
use Rattle.csi_recovery.specs.declared.rebuilding_fault.RebuildingFault.{RebuildingFault}
use Rattle.csi_recovery.specs.declared.rebuilding_fault.RebuildingFault.TheVariants.{NumbersSpent, IdTaken, BadRow, NoMemory}
use Rattle.csi_recovery.specs.Public.Rebuilding.{kept_holding, kept_holdings, made_shown, row_made, AreBelow, IsTakenAt, IsMadeOf, IsRebuiltOf, MayRebuild, IsRebuildingRefusal}
use Rattle.csi_recovery.specs.Private.Rebuilding.{passed_on_record, IsReady, IsUnready}
use Rattle.csi_recovery.specs.Public.Rebuilt.{volume_with, volume_by, rebuilt_volume, rebuilt_volumes, rebuilt_holding, holdings_with, rebuilt_holdings}

-- ---- row by row

-- how a volume is held by entries
held-told : (id : ℕ) (entries : List NodeEntryShown) → map (volume_holding id) (kept_holdings entries) ≡ filter_map (rebuilt_holding id) entries
held-told id [] = refl
held-told id (e ∷ es) = by (is_no e.attached) (held-told id es)
  where
    by : (b : Bool) → map (volume_holding id) (kept_holdings es) ≡ filter_map (rebuilt_holding id) es
        → map (volume_holding id) (cons_option (cond b None (Some (kept_holding e))) (kept_holdings es)) ≡ cons_option (cond b None (Some (volume_holding id (kept_holding e)))) (filter_map (rebuilt_holding id) es)
    by true rest = rest
    by false rest = ap (λ (l : List Holding). volume_holding id (kept_holding e) ∷ l) rest

-- what is made, as a controller's holdings
abbrev hold : Volume × List NodeHolding → List Holding
hold made = map (volume_holding made.0.id) made.1

-- a volume with what a row's entries hold
abbrev holding_so : RowShown → Volume → Volume × List NodeHolding
holding_so row volume = (volume, kept_holdings row.node_entries)

-- the volumes are those that are rebuilt
volumes-told : (rows : List RowShown) → map (λ (made : Volume × List NodeHolding). made.0) (filter_map row_made rows) ≡ rebuilt_volumes rows
volumes-told [] = refl
volumes-told (row ∷ rows) = by (rebuilt_volume row) (volumes-told rows)
  where
    by : (o : Option Volume) → map (λ (made : Volume × List NodeHolding). made.0) (filter_map row_made rows) ≡ rebuilt_volumes rows
        → map (λ (made : Volume × List NodeHolding). made.0) (cons_option (option_map (holding_so row) o) (filter_map row_made rows)) ≡ cons_option o (rebuilt_volumes rows)
    by None rest = rest
    by (Some volume) rest = ap (λ (l : List Volume). volume ∷ l) rest

-- a volume that is known not to be there has no entries
abbrev pub IsBareRow : RowShown → Type 0
IsBareRow row = is_no row.exists ≡ true → row.node_entries ≡ []

-- what is made of one row, before others
one-held : (row : RowShown) (o : Option ℕ) (others : List (Volume × List NodeHolding)) → IsBareRow row
    → flat_map hold (cons_option (option_map (holding_so row) (volume_by o row)) others) ≡ holdings_with o row.node_entries ++ flat_map hold others
one-held row None others bare = refl
one-held row (Some id) others bare = by (is_no row.exists) refl
  where
    by : (b : Bool) → is_no row.exists ≡ b
        → flat_map hold (cons_option (option_map (holding_so row) (cond b None (Some (volume_with id row)))) others) ≡ filter_map (rebuilt_holding id) row.node_entries ++ flat_map hold others
    by true gone = ap (λ (entries : List NodeEntryShown). filter_map (rebuilt_holding id) entries ++ flat_map hold others) (sym (bare gone))
    by false there = ap (λ (l : List Holding). l ++ flat_map hold others) (held-told id row.node_entries)

-- the holdings are those that are rebuilt
holdings-told : (rows : List RowShown) → AllByRecursion IsBareRow rows → flat_map hold (filter_map row_made rows) ≡ rebuilt_holdings rows
holdings-told [] bare = refl
holdings-told (row ∷ rows) bare =
    one-held row row.id (filter_map row_made rows) bare.0 ∙ ap (λ (l : List Holding). holdings_with row.id row.node_entries ++ l) (holdings-told rows bare.1)

-- those of rows of a controller are those of what these show
attached-shown : (rows : List ControllerRow) → attached_holdings rows ≡ flat_map hold (map made_shown rows)
attached-shown [] = refl
attached-shown (row ∷ rows) = ap (λ (l : List Holding). holdings_in_row row ++ l) (attached-shown rows)

-- ---- in another order

-- the two are of one id
abbrev has_one_id : ControllerRow → ControllerRow → Bool
has_one_id a b = a.id == b.id

-- that is so from both sides
turned : (a b : ControllerRow) → has_one_id a b ≡ has_one_id b a
turned a b = by (a.id == b.id) refl (b.id == a.id) refl
  where
    by : (p : Bool) → (a.id == b.id) ≡ p → (q : Bool) → (b.id == a.id) ≡ q → p ≡ q
    by true e true f = refl
    by false e false f = refl
    by true e false f = absurd (true≢false (sym (eq-eqb b.id a.id (sym (eqb-true a.id b.id e))) ∙ f))
    by false e true f = absurd (true≢false (sym (eq-eqb a.id b.id (sym (eqb-true b.id a.id f))) ∙ e))

-- rising ids are distinct
rising-distinct : (rows : List ControllerRow) → EachTwo (λ (a b : ControllerRow). a.id < b.id) rows → IsDistinct has_one_id rows
unfolding IsDistinct
rising-distinct [] rise = tt
rising-distinct (row ∷ rows) rise = (
  each-weaker (λ (later : ControllerRow). row.id < later.id) (λ (later : ControllerRow). has_one_id row later ≡ false) rows
      (λ later less. ne_eqb row.id later.id (λ same. absurd (omega (arith, less, same)))) rise.0,
  rising-distinct rows rise.1,
)

-- of distinct ids each is there once
distinct-once : (rows : List ControllerRow) (id : ℕ) → IsDistinct has_one_id rows → AtMostOne (λ (row : ControllerRow). row.id == id) rows
unfolding IsDistinct
distinct-once [] id distinct = tt
distinct-once (row ∷ rows) id distinct = (
  λ own. find-none (λ (r : ControllerRow). r.id == id) rows
      (λ later among.
      let apart : has_one_id row later ≡ false = each_of (λ (l : ControllerRow). has_one_id row l ≡ false) rows later distinct.0 among in
      ne_eqb later.id id (λ same. absurd (true≢false (sym (eq-eqb row.id later.id (eqb-true row.id id own ∙ sym same)) ∙ apart)))),
  distinct-once rows id distinct.1,
)

-- where ids rise, moved rows are found as they were before
found-moved : (from made : List ControllerRow) (id : ℕ) → IsPermutation from made → EachTwo (λ (a b : ControllerRow). a.id < b.id) made
    → find (λ (row : ControllerRow). row.id == id) from ≡ find (λ (row : ControllerRow). row.id == id) made
found-moved from made id moved rise = by (find p made) refl
  where
    p : ControllerRow → Bool
    p row = row.id == id

    by : (o : Option ControllerRow) → find p made ≡ o → find p from ≡ o
    by None none = find-none p from (λ row among. none_passes p made row none (among-back from made row moved among))
    by (Some row) some =
        find-one p from row (among-moved from made row moved (among-find p made row some)) (find-passes p made row some)
        (λ other among own.
        let there : IsAmong other made = among-back from made other moved among in
        let found : find (λ (r : ControllerRow). r.id == other.id) made ≡ Some other = found-rising (λ (r : ControllerRow). r.id) made other rise there in
        same_Some other row (sym found ∙ ap (λ (n : ℕ). find (λ (r : ControllerRow). r.id == n) made) (eqb-true other.id id own) ∙ some))

-- ---- all of it

-- below 2^64 a number is its rest
small : (n : ℕ) → n < 2 ^ 64 → n ≡ n % 2 ^ 64
small n below = omega arith

-- rows that are made so, by rising id, show what is rebuilt
pub rebuilt-shown : (session next_id : ℕ) (rows : List RowShown) (made : List ControllerRow) → next_id < 2 ^ 64 → AllByRecursion IsBareRow rows → IsMadeOf rows made → AreRisingRows made
    → IsRebuiltOf session next_id rows (record { next_id = next_id; session = session; rows = made })
rebuilt-shown session next_id rows made below bare is rising =
    let from = is.from in
    let rise : EachTwo (λ (a b : ControllerRow). a.id < b.id) made = two-rise made rising in
    let volumes : map volume_of_row from ≡ rebuilt_volumes rows =
    sym (map-twice (λ (m : Volume × List NodeHolding). m.0) made_shown volume_of_row from (λ row. refl)) ∙ ap (map (λ (m : Volume × List NodeHolding). m.0)) is.are ∙ volumes-told rows in
    let holdings : attached_holdings from ≡ rebuilt_holdings rows = attached-shown from ∙ ap (flat_map hold) is.are ∙ holdings-told rows bare in
    let distinct : IsDistinct has_one_id from = IsDistinct-IsPermutation has_one_id turned made from (IsPermutation-sym from made is.moved) (rising-distinct made rise) in
    record {
      state = record { volumes = map volume_of_row made; next_id = next_id; session = session; holdings = rebuilt_holdings rows };
      is = record {
        volumes = subst (λ (l : List Volume). IsPermutation l (map volume_of_row made)) volumes (IsPermutation-map volume_of_row from made is.moved);
        rising = two-map (λ (a b : Volume). a.id < b.id) volume_of_row made rise;
        holdings = refl;
        has_next = refl;
        in_session = refl;
      };
      kept = record {
        shows = record {
          next = small next_id below;
          volumes = refl;
          holdings = λ id.
              ap holdings_in (sym (found-moved from made id is.moved rise)) ∙ sym (attached-of from id (λ n. distinct-once from n distinct))
              ∙ ap (filter (λ (h : Holding). h.volume == id)) holdings;
        };
        session = refl;
      };
    }

-- the rows of a record are bare where they aren't there
pub restored-bare : (nodes : List (List ℕ)) (row : RowShown) → IsRestorable nodes row → IsBareRow row
restored-bare nodes row kept = λ gone. kept.steady.empty (by row.exists gone)
  where
    by : (known : Known) → is_no known ≡ true → known ≢ Yes
    by Yes gone = absurd (true≢false (sym gone))
    by No gone = λ e. cc
    by Maybe gone = absurd (true≢false (sym gone))

-- ---- lists that grow

-- one more of a list is one more of what it makes
pub made-more : {X Y Z : Type 0} (shown : X → Y) (h : Y → Option Z) (xs : List X) (i : ℕ) (x : X) → i < length xs → x ≡ get_or xs i x
    → filter_map h (map shown (take i xs)) ++ cons_option (h (shown x)) [] ≡ filter_map h (map shown (take (i + 1) xs))
made-more shown h xs i x inside is =
    sym (ap (filter_map h) (ap (map shown) (one-more xs i x inside is) ∙ map_push shown (take i xs) x) ∙ filter_map-append h (map shown (take i xs)) (shown x ∷ []))

-- an entry that isn't attached adds nothing
pub added-none : (xs : List NodeHolding) (entry : NodeEntryShown) → not (is_no entry.attached) ≡ false → xs ≡ xs ++ kept_holdings (entry ∷ [])
added-none xs entry gone = by (is_no entry.attached) gone
  where
    by : (b : Bool) → not b ≡ false → xs ≡ xs ++ cons_option (cond b None (Some (kept_holding entry))) []
    by true e = sym (append-nil xs)
    by false e = absurd (true≢false e)

-- another one adds how it is held
pub added-some : (xs ys : List NodeHolding) (entry : NodeEntryShown) (held : NodeHolding) → not (is_no entry.attached) ≡ true → ys ≡ xs ++ held ∷ [] → held ≡ kept_holding entry → ys ≡ xs ++ kept_holdings (entry ∷ [])
added-some xs ys entry held there pushed is = by (is_no entry.attached) there
  where
    by : (b : Bool) → not b ≡ true → ys ≡ xs ++ cons_option (cond b None (Some (kept_holding entry))) []
    by true e = absurd (true≢false (sym e))
    by false e = pushed ∙ ap (λ (h : NodeHolding). xs ++ h ∷ []) is

-- a row without an id adds nothing
pub bare-none : (xs : List (Volume × List NodeHolding)) (row : RowShown) → row.id ≡ None → xs ≡ xs ++ cons_option (row_made row) []
bare-none xs row none = sym (append-nil xs) ∙ ap (λ (o : Option ℕ). xs ++ cons_option (option_map (holding_so row) (volume_by o row)) []) (sym none)

-- nor does one of a volume that isn't there
pub gone-none : (xs : List (Volume × List NodeHolding)) (row : RowShown) (id : ℕ) → row.id ≡ Some id → not (is_no row.exists) ≡ false → xs ≡ xs ++ cons_option (row_made row) []
gone-none xs row id some gone =
    by (is_no row.exists) refl gone ∙ ap (λ (o : Option ℕ). xs ++ cons_option (option_map (holding_so row) (volume_by o row)) []) (sym some)
  where
    by : (b : Bool) → is_no row.exists ≡ b → not b ≡ false → xs ≡ xs ++ cons_option (option_map (holding_so row) (cond b None (Some (volume_with id row)))) []
    by true e is = sym (append-nil xs)
    by false e is = absurd (true≢false is)

-- another one adds its volume
pub there-some : (xs ys : List (Volume × List NodeHolding)) (row : RowShown) (id : ℕ) (made : Volume × List NodeHolding) → row.id ≡ Some id → not (is_no row.exists) ≡ true → ys ≡ xs ++ made ∷ [] → made ≡ holding_so row (volume_with id row)
    → ys ≡ xs ++ cons_option (row_made row) []
there-some xs ys row id made some there pushed is =
    by (is_no row.exists) there ∙ ap (λ (o : Option ℕ). xs ++ cons_option (option_map (holding_so row) (volume_by o row)) []) (sym some)
  where
    by : (b : Bool) → not b ≡ true → ys ≡ xs ++ cons_option (option_map (holding_so row) (cond b None (Some (volume_with id row)))) []
    by true e = absurd (true≢false (sym e))
    by false e = pushed ∙ ap (λ (m : Volume × List NodeHolding). xs ++ m ∷ []) is

-- ---- refusals

-- where nothing is refused, all is ready
pub unready-clash : (next_id : ℕ) (kept : RecordParts) (fault : RebuildingFault) → IsUnready next_id kept fault → MayRebuild next_id kept → ⊥
unready-clash next_id kept NumbersSpent unready may = unready may.session
unready-clash next_id kept (IdTaken place) unready may = by unready.1
  where
    -- what is so of all is so of the first
    front : (rows : List RowShown) (count : ℕ) → AreBelow next_id rows → AreBelow next_id (take count rows)
    front rows zero all = tt
    front [] (suc count) all = tt
    front (row ∷ rows) (suc count) all = (all.0, front rows count all.1)

    by : IsTakenAt next_id kept.rows place → ⊥
    by (inl none) = let next = may.next in let is = none.0 in absurd (omega (arith, next, is))
    by (inr taken) = taken.1.refused (front kept.rows place may.below)
unready-clash next_id kept (BadRow place) unready may = unready
unready-clash next_id kept NoMemory unready may = unready

-- and it is told
pub unready-refused : (next_id : ℕ) (kept : RecordParts) (fault : RebuildingFault) → IsUnready next_id kept fault → IsRebuildingRefusal next_id kept fault
unready-refused next_id kept NumbersSpent unready = unready
unready-refused next_id kept (IdTaken place) unready = unready
unready-refused next_id kept (BadRow place) unready = absurd unready
unready-refused next_id kept NoMemory unready = absurd unready

-- rows that are ready, and are refused
pub ready-refused : (next_id session : ℕ) (kept : RecordParts) (made : List ControllerRow) (fault : RecordFault) → session ≡ kept.session + 1 → IsReady next_id kept → IsMadeOf kept.rows made
    → controller_judging.IsRecordRefusal (controller_judging.AreRecorded next_id session) made fault → IsRebuildingRefusal next_id kept (passed_on_record fault)
ready-refused next_id session kept made (record_faults.BadRow place) is ready so refused =
    (ready.session, ready.next, ready.below, (made, so, subst (λ (s : ℕ). controller_judging.IsFirstRefused (controller_judging.AreRecorded next_id s) made place) is refused))
ready-refused next_id session kept made record_faults.NoMemory is ready so refused = (ready.session, ready.next, ready.below)
