-- What is kept beside a controller's rows fits them after each change.
use Rattle.std.proofs.Common.{◌≡◌, ℕ, ◌+◌, ◌<◌, ◌≤◌, List, [], ◌∷◌, ◌++◌, map, length, set, Bool, true, false, not, refl, sym, ◌∙◌, ap, subst, arith}
use Rattle.std.specs.Prelude.{All, Some, None, filter, find, slice_get}
use Rattle.std.proofs.lemmas.Bool.{true≢false, not-true}
use Rattle.std.proofs.lemmas.List.{length-append, map_push}
use Rattle.std.proofs.lemmas.List.Elements.{recursion_from_All}
use Rattle.csi_types.proofs.Each.{each-append_one, each-at, each-filter, each-weaker}
use Rattle.csi_types.proofs.Filters.{filter-no_longer}
use Rattle.csi_types.proofs.Places.{AtMostOne-append, AtMostOne-filter}
use Rattle.csi_types.proofs.Equality.{same_text-tells}
use Rattle.csi_types.specs.declared.call.Call.{Call}
use Rattle.csi_types.specs.declared.config.NodeSlots.{NodeSlots}
use Rattle.csi_types.specs.Model.Same.{same_text}
use Rattle.csi_fence.specs.Public.Rows.{put_row, stays_in}
use Rattle.csi_fence.proofs.StayingRows.{goes-empty}
use Rattle.csi_controller.specs.declared.row.NodeHolding.{NodeHolding}
use Rattle.csi_controller.specs.Model.State.{Volume, is_row_for}
use Rattle.csi_controller.specs.Model.Table.{Change, Stays, Makes, Ends, Attaches, Detaches}
use Rattle.csi_controller.specs.Private.Counts.{recounted}
use Rattle.csi_controller.specs.Public.Core.{next_shown}
use Rattle.csi_controller.specs.declared.table.ControllerTable.{ControllerTable}
use Rattle.csi_controller.specs.Public.Names.{by_name, by_text}
use Rattle.csi_controller.specs.Public.OneRow.{RowShown, call_change, row_changed}
use Rattle.csi_controller.specs.Private.OneRow.{CanChange, moved}
use Rattle.csi_controller.specs.Public.Plan.{Fits, IsFree, IsSoundBy, controller_plan, fits_table, is_full_by, told_at}
use Rattle.csi_controller.specs.Private.PlanLaws.{at-got, fits-set, same-volume}
use Rattle.csi_controller.proofs.Counts.{changed-counted, counted-fewer, made-counted}
use Rattle.csi_controller.proofs.RowsTold.{can-told}
use Rattle.csi_controller.proofs.ShownRows.{put-last}
use Rattle.csi_controller.proofs.SoundRows.{sound-changed}

-- a row that doesn't stay was deleted
pub gone-dead : (session : ℕ) (row : RowShown) → stays_in controller_plan session row ≡ false → row.volume.is_live ≡ false
gone-dead session row goes = not-true row.volume.is_live (goes-empty controller_plan session row goes)

-- a volume that is changed is free where it was deleted
free-changed : (row : RowShown) (change : Change) → CanChange row change → IsFree row → IsFree (row_changed row change)
free-changed row Stays can free = free
free-changed row (Makes name capacity capabilities) can free = absurd can
free-changed row (Ends id) can free = λ dead. can.1
free-changed row (Attaches holding) can free = λ dead. absurd (true≢false (sym can.live ∙ dead))
free-changed row (Detaches id node) can free = λ dead. ap (filter (λ (held : NodeHolding). not (same_text held.node node))) (free dead)

-- where a change is made of a row
pub fits-changed : (nodes : List NodeSlots) (names : List (List ℕ × ℕ)) (counts : List ℕ) (n : ℕ) (rows : List RowShown) (place : ℕ) (row new : RowShown) (change : Change) → Fits nodes names counts n rows → slice_get rows place ≡ Some row
    → CanChange row change → new ≡ row_changed row change → Fits nodes names (recounted nodes (moved change) counts) n (set rows place new)
fits-changed nodes names counts n rows place row new change fits at can is =
    let volume = ap (λ (r : RowShown). r.volume) is ∙ same-volume row change in
    fits-set nodes names counts (recounted nodes (moved change) counts) n rows place row new fits at (ap (λ (v : Volume). v.id) volume) (ap (λ (v : Volume). v.name) volume)
    (changed-counted nodes rows place row new change counts fits.counted fits.limit at can (ap (λ (r : RowShown). r.items) is))
    (subst IsFree (sym is) (free-changed row change can (each-at IsFree rows place row fits.free (at-got rows place row at))))

-- where a row is put last, of a new name and held nowhere, under another next id
fits-made : (nodes : List NodeSlots) (names : List (List ℕ × ℕ)) (counts : List ℕ) (n m : ℕ) (rows : List RowShown) (row : RowShown) → Fits nodes names counts n rows → m < 18446744073709551616 → length rows < 4096
    → find (λ (r : RowShown). same_text r.volume.name row.volume.name) rows ≡ None → row.items ≡ [] → Fits nodes (names ++ by_name row ∷ []) counts m (rows ++ row ∷ [])
fits-made nodes names counts n m rows row fits below room none empty = record {
  names_are = ap (λ (l : List (List ℕ × ℕ)). l ++ by_name row ∷ []) fits.names_are ∙ sym (map_push by_name rows row);
  unique = λ k. AtMostOne-append (λ (r : RowShown). same_text r.volume.name k) rows row (fits.unique k)
      (λ e. subst (λ (x : List ℕ). find (λ (r : RowShown). same_text r.volume.name x) rows ≡ None) ((same_text-tells row.volume.name k).0 e) none);
  limit = let longer : length (rows ++ row ∷ []) ≡ length rows + 1 = length-append rows (row ∷ []) in omega (arith, room, longer);
  counted = made-counted nodes rows counts row empty fits.counted;
  free = each-append_one IsFree rows row fits.free (λ dead. empty);
  below = below;
}

-- where it is put by its id, which is the next one
pub fits-entered : (nodes : List NodeSlots) (names : List (List ℕ × ℕ)) (counts : List ℕ) (n m next : ℕ) (rows : List RowShown) (row : RowShown) → Fits nodes names counts n rows → m < 18446744073709551616 → All (IsSoundBy next) rows → length rows < 4096
    → find (λ (r : RowShown). same_text r.volume.name row.volume.name) rows ≡ None → row.volume.id ≡ next → row.items ≡ [] → Fits nodes (names ++ by_name row ∷ []) counts m (put_row controller_plan.id row rows)
fits-entered nodes names counts n m next rows row fits below sound room none own empty =
    subst (Fits nodes (names ++ by_name row ∷ []) counts m)
    (sym (put-last controller_plan.id rows row (each-weaker (IsSoundBy next) (λ (r : RowShown). r.volume.id < row.volume.id) rows (λ r is. subst (λ (n : ℕ). r.volume.id < n) (sym own) is.below) (recursion_from_All (IsSoundBy next) rows sound))))
    (fits-made nodes names counts n m rows row fits below room none empty)

-- where rows are left out that are held nowhere
pub fits-left : (nodes : List NodeSlots) (names : List (List ℕ × ℕ)) (counts : List ℕ) (n : ℕ) (rows : List RowShown) (q : RowShown → Bool) → Fits nodes names counts n rows → ((row : RowShown) → q row ≡ false → row.volume.is_live ≡ false)
    → Fits nodes (map by_name (filter q rows)) counts n (filter q rows)
fits-left nodes names counts n rows q fits gone = record {
  names_are = refl;
  unique = λ k. AtMostOne-filter (λ (r : RowShown). same_text r.volume.name k) q rows (fits.unique k);
  limit = let limit = fits.limit in let fewer : length (filter q rows) ≤ length rows = filter-no_longer q rows in omega (arith, limit, fewer);
  counted = counted-fewer nodes q rows counts (each-weaker IsFree (λ (row : RowShown). q row ≡ false → row.items ≡ []) rows (λ row free h. free (gone row h)) fits.free) fits.counted;
  free = each-filter IsFree q rows fits.free;
  below = fits.below;
}

-- ---- a call that a row is told to change

module _ (table : ControllerTable) (row new : RowShown) (call : Call) (own : is_row_for call row.volume ≡ true) (others : List RowShown) (told : (told_at table.config others row call).is_done ≡ true)
    (is : new ≡ row_changed row (call_change call)) where
  -- it can be changed so
  can : CanChange row (call_change call)
  can = can-told table.config (is_full_by table.config.nodes others) row call own told

  -- it keeps the rules of a row
  pub change-sound : IsSoundBy (next_shown table.next_id) row → IsSoundBy (next_shown table.next_id) new
  change-sound sound = subst (IsSoundBy (next_shown table.next_id)) (sym is) (sound-changed (next_shown table.next_id) row (call_change call) sound can)

  -- and what the table keeps beside the rows fits them, once it is counted again for the node that the change moves
  pub change-fits : (counts : List ℕ) → counts ≡ recounted table.config.nodes (moved (call_change call)) table.counts → (rows : List RowShown) (place : ℕ) → fits_table table rows → slice_get rows place ≡ Some row
      → Fits table.config.nodes (map by_text table.ids.entries) counts table.next_id (set rows place new)
  change-fits counts again rows place fits at =
      subst (λ (after : List ℕ). Fits table.config.nodes (map by_text table.ids.entries) after table.next_id (set rows place new)) (sym again)
      (fits-changed table.config.nodes (map by_text table.ids.entries) table.counts table.next_id rows place row new (call_change call) fits at can is)
