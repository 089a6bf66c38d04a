-- The rules of a record's rows are those of the rows as they are shown.
use Rattle.std.proofs.Common.{◌≡◌, ◌<◌, ◌≤◌, ℕ, Bool, not, List, [], ◌∷◌, length, map, sym, ◌∙◌, ap, subst}
use Rattle.std.specs.Prelude.{find, filter, count_by, option_map, ◌==◌, ◌||◌}
use Rattle.std.specs.List.{AllByRecursion}
use Rattle.std.proofs.lemmas.Bool.{not-true}
use Rattle.std.proofs.lemmas.List.{length-map}
use Rattle.std.proofs.lemmas.List.Elements.{All-from_recursion, filter_agree, recursion_from_All}
use Rattle.std.proofs.Math.Bool.{not-not}
use Rattle.csi_types.specs.Model.Members.{EachTwo}
use Rattle.csi_types.specs.Public.Places.{AtMostOne}
use Rattle.csi_types.proofs.Each.{each-map, each-weaker}
use Rattle.csi_types.proofs.Filters.{filter-of_map}
use Rattle.csi_types.proofs.Options.{none-from_map}
use Rattle.csi_types.specs.declared.config.NodeSlots.{NodeSlots}
use Rattle.csi_types.specs.Model.Same.{same_text}
use Rattle.csi_fence.specs.Public.Rows.{AreKept, AreRising, IsCurrentRow, stays_in}
use Rattle.csi_fence.proofs.RisingRows.{IsBefore, rise-rows, rows_rise}
use Rattle.csi_controller.specs.declared.row.ControllerRow.{ControllerRow}
use Rattle.csi_controller.specs.Public.Core.{AreRisingRows, AreSoundRows, IsCurrent, IsSoundRow, next_shown}
use Rattle.csi_controller.specs.Public.Core as core
use Rattle.csi_controller.specs.Public.WithoutSession.{stays_in as row_stays}
use Rattle.csi_controller.specs.Public.Counts.{AreCounted}
use Rattle.csi_controller.specs.Public.Names.{by_name}
use Rattle.csi_controller.specs.Public.OneRow.{RowShown, row_shown}
use Rattle.csi_controller.specs.Public.Plan.{Fits, IsFree, IsSoundBy, controller_plan}
use Rattle.csi_types.proofs.Pairs.{two-map}
use Rattle.csi_types.proofs.Searches.{find-of_map}
use Rattle.csi_controller.proofs.Sound.{two-rise}
use Rattle.csi_controller.proofs.SoundRows.{sound-row, sound-shown}

-- ---- lists that are seen otherwise

-- each that is seen so
each-seen : {X Y : Type 0} (P : X → Type 0) (Q : Y → Type 0) (f : X → Y) (xs : List X) → ((x : X) → Q (f x) → P x) → AllByRecursion Q (map f xs) → AllByRecursion P xs
each-seen P Q f [] back all = tt
each-seen P Q f (x ∷ xs) back all = (back x all.0, each-seen P Q f xs back all.1)

-- at most one is seen so
once-seen : {X Y : Type 0} (p : Y → Bool) (f : X → Y) (xs : List X) → AtMostOne p (map f xs) → AtMostOne (λ x. p (f x)) xs
once-seen p f [] one = tt
once-seen p f (x ∷ xs) one = (λ h. none-from_map f (find (λ x. p (f x)) xs) (sym (find-of_map p f xs) ∙ one.0 h), once-seen p f xs one.1)

-- and the other way round
seen-once : {X Y : Type 0} (p : Y → Bool) (f : X → Y) (xs : List X) → AtMostOne (λ x. p (f x)) xs → AtMostOne p (map f xs)
seen-once p f [] one = tt
seen-once p f (x ∷ xs) one = (λ h. find-of_map p f xs ∙ ap (option_map f) (one.0 h), seen-once p f xs one.1)

-- ids rise where they are seen to
rising-seen : (rows : List ControllerRow) → EachTwo (IsBefore controller_plan.id) (map row_shown rows) → AreRisingRows rows
rising-seen [] rise = tt
rising-seen (r ∷ rs) rise = (each-seen (λ (later : ControllerRow). r.id < later.id) (λ (later : RowShown). r.id < later.volume.id) row_shown rs (λ x less. less) rise.0, rising-seen rs rise.1)

-- ids of rows that rise do so as the fence has it
pub rises-shown : (rows : List ControllerRow) → AreRisingRows rows → AreRising controller_plan.id (map row_shown rows)
rises-shown rows rising = rise-rows controller_plan.id (map row_shown rows) (two-map (IsBefore controller_plan.id) row_shown rows (two-rise rows rising))

-- the rows that stay
pub stays-shown : (session : ℕ) (rows : List ControllerRow) → filter (stays_in controller_plan session) (map row_shown rows) ≡ map row_shown (filter (row_stays session) rows)
stays-shown session rows =
    filter-of_map (stays_in controller_plan session) row_shown rows
    ∙ ap (map row_shown)
    (filter_agree (λ (row : ControllerRow). stays_in controller_plan session (row_shown row)) (row_stays session) (λ row. ap (λ (b : Bool). b || (row.last.session == session)) (not-not row.live)) rows)

-- ---- the rules

-- the rules of a record's rows, as they are shown
pub record AreSoundShown (n : ℕ) (rows : List RowShown) : Type 0 where
  pub limit : length rows ≤ 4096
  pub each : AllByRecursion (IsSoundBy (next_shown n)) rows
  pub rising : EachTwo (IsBefore controller_plan.id) rows
  pub names : (name : List ℕ) → AtMostOne (λ (r : RowShown). same_text r.volume.name name) rows

-- a record's rows keep them
pub rules-shown : (n : ℕ) (rows : List ControllerRow) → AreSoundRows n rows → AreSoundShown n (map row_shown rows)
rules-shown n rows sound = record {
  limit = subst (λ (k : ℕ). k ≤ 4096) (sym (length-map rows row_shown)) sound.limit;
  each = each-map (IsSoundRow n) (IsSoundBy (next_shown n)) row_shown rows (sound-shown n) sound.each;
  rising = two-map (IsBefore controller_plan.id) row_shown rows (two-rise rows sound.rising);
  names = λ name. seen-once (λ (r : RowShown). same_text r.volume.name name) row_shown rows (sound.names name);
}

-- and rows that keep them are a record's
pub rules-seen : (n : ℕ) (rows : List ControllerRow) → AreSoundShown n (map row_shown rows) → AreSoundRows n rows
rules-seen n rows sound = record {
  limit = subst (λ (k : ℕ). k ≤ 4096) (length-map rows row_shown) sound.limit;
  each = each-seen (IsSoundRow n) (IsSoundBy (next_shown n)) row_shown rows (sound-row n) sound.each;
  rising = rising-seen rows sound.rising;
  names = λ name. once-seen (λ (r : RowShown). same_text r.volume.name name) row_shown rows (sound.names name);
}

-- the rows of a session are of it as they are shown
pub current-shown : (session : ℕ) (rows : List ControllerRow) → IsCurrent session rows → AllByRecursion (IsCurrentRow controller_plan session) (map row_shown rows)
current-shown session rows current =
    each-map (core.IsCurrentRow session) (IsCurrentRow controller_plan session) row_shown rows (λ r is. record { before = is.before; empty = λ dead. is.gone (not-true r.live dead) }) current

-- and the other way round
pub current-seen : (session : ℕ) (rows : List ControllerRow) → AllByRecursion (IsCurrentRow controller_plan session) (map row_shown rows) → IsCurrent session rows
current-seen session rows current =
    each-seen (core.IsCurrentRow session) (IsCurrentRow controller_plan session) row_shown rows (λ r is. record { before = is.before; gone = λ dead. is.empty (ap not dead) }) current

module _ (nodes : List NodeSlots) (names : List (List ℕ × ℕ)) (counts : List ℕ) (n session : ℕ) (rows : List ControllerRow) (empty : ℕ) where
  -- the rows are kept
  abbrev pub AreKeptSo : Type 0
  AreKeptSo = AreKept controller_plan IsSoundBy (Fits nodes names counts n) (record { own = next_shown n; session = session; rows = map row_shown rows }) empty

  -- rows that are kept are a record's
  pub sound-kept : AreKeptSo → AreSoundRows n rows
  sound-kept kept =
      rules-seen n rows (record { limit = kept.limit; each = recursion_from_All (IsSoundBy (next_shown n)) (map row_shown rows) kept.each; rising = rows_rise controller_plan.id (map row_shown rows) kept.rising; names = kept.fits.unique })

  -- and of their session
  pub current-kept : AreKeptSo → IsCurrent session rows
  current-kept kept = current-seen session rows (recursion_from_All (IsCurrentRow controller_plan session) (map row_shown rows) kept.current)

  -- a record's rows are kept, where the names and the counts are theirs
  pub rows-kept : AreSoundRows n rows → IsCurrent session rows → names ≡ map by_name (map row_shown rows) → AreCounted nodes (map row_shown rows) counts → empty ≡ count_by controller_plan.is_empty (map row_shown rows) → n < 18446744073709551616 → AreKeptSo
  rows-kept sound current named counted is_empty below =
      let shown = rules-shown n rows sound in
      record {
        rising = rise-rows controller_plan.id (map row_shown rows) shown.rising;
        limit = shown.limit;
        each = All-from_recursion (IsSoundBy (next_shown n)) (map row_shown rows) shown.each;
        current = All-from_recursion (IsCurrentRow controller_plan session) (map row_shown rows) (current-shown session rows current);
        fits = record {
          names_are = named;
          unique = shown.names;
          limit = shown.limit;
          counted = counted;
          free = each-weaker (IsSoundBy (next_shown n)) IsFree (map row_shown rows) (λ r is. is.gone) shown.each;
          below = below;
        };
        counted = is_empty;
      }
