-- The laws of a controller's plan, which its table cites: a row keeps its id, deleted volumes fill no node, a row that is made is that of a
-- CreateVolume and has the next id, what is kept beside rows fits them where one keeps another call, and at most one row is a call's.
use Rattle.std.proofs.Common.{◌≡◌, ℕ, zero, suc, ◌+◌, ◌<◌, ◌≤◌, List, [], ◌∷◌, length, get_or, set, Bool, true, false, cond, not, refl, sym, ◌∙◌, ap, subst}
use Rattle.std.specs.Prelude.{Some, None, filter, find, slice_get, ◌==◌, ◌||◌, ◌&&◌, nat_lt, nat_le, codes}
use Rattle.std.specs.List.{AllByRecursion, list_any}
use Rattle.std.proofs.Math.Nat.{lt-suc_self, lt_trans, ne_of_lt, zero-add}
use Rattle.std.proofs.Math.Numerals.{suc-eq-add-one}
use Rattle.std.proofs.Math.Seq.{map-set_same}
use Rattle.std.proofs.lemmas.Bool.{leb-false, ne_eqb, or_parts, true≢false}
use Rattle.std.proofs.lemmas.List.{length-set}
use Rattle.std.proofs.lemmas.List.Elements.{recursion_from_All}
use Rattle.std.proofs.lemmas.Option.{get_or_from_slice_get, same_Some}
use Rattle.std.proofs.Math.Bool.{not-not}
use Rattle.csi_types.proofs.Counts.{count-cons}
use Rattle.csi_types.proofs.Each.{each-at, each-set, each-weaker}
use Rattle.csi_types.proofs.Options.{some_is_not_none}
use Rattle.csi_types.proofs.Places.{AtMostOne-set}
use Rattle.csi_types.specs.Public.Places.{AtMostOne, IsAt}
use Rattle.csi_types.specs.declared.call.Call.{Call}
use Rattle.csi_types.specs.declared.call.Call.TheVariants as calls
use Rattle.csi_types.specs.declared.call.Party.TheVariants.{Controller}
use Rattle.csi_types.specs.declared.capability.Capability.{Capability}
use Rattle.csi_types.specs.declared.config.NodeSlots.{NodeSlots}
use Rattle.csi_types.specs.declared.frame.Body.TheVariants as bodies
use Rattle.csi_types.specs.declared.number.Number.{Number}
use Rattle.csi_types.specs.declared.status.Status.{Status}
use Rattle.csi_types.specs.declared.status.Status.TheVariants.{InvalidArgument, ResourceExhausted, OutOfRange}
use Rattle.csi_types.specs.Model.Call.{kind_of}
use Rattle.csi_types.specs.Model.Capacity.{is_bad_range, is_empty_range, capacity_wanted}
use Rattle.csi_types.specs.Model.Config.{Config}
use Rattle.csi_types.specs.Model.Replies.{ok_reply_with}
use Rattle.csi_types.specs.Model.Same.{same_text}
use Rattle.csi_types.specs.Public.Frame.{IsAllowed}
use Rattle.csi_fence.specs.Model.Fence.{Kept}
use Rattle.csi_fence.specs.Public.Rows.{AreRising, Lacking, Answered, Made}
use Rattle.csi_fence.specs.Public.Table.{IsOrderly, LetsKeep, HasOneRow}
use Rattle.csi_fence.proofs.RisingRows.{once-rise, rows_rise}
use Rattle.csi_controller.specs.declared.row.NodeHolding.{NodeHolding}
use Rattle.csi_controller.specs.declared.table.ControllerTable.{ControllerTable}
use Rattle.csi_controller.specs.Model.State.{Volume}
use Rattle.csi_controller.specs.Model.Table.{Change, Stays, Makes, Outcome, lifecycle_row, refused, unless}
use Rattle.csi_controller.specs.Public.Counts.{AreCounted, count_held, is_held}
use Rattle.csi_controller.specs.Public.Making.{new_line}
use Rattle.csi_controller.specs.Public.Names.{by_name}
use Rattle.csi_controller.specs.Public.OneRow.{RowShown, call_change, row_changed, state_shown}
use Rattle.csi_controller.specs.Public.Plan.{Fits, IsFree, IsSoundBy, controller_plan, created, fits_table, lacking, made_row, row_keeping, told_at, told_in}

-- ---- where volumes are held

-- rows that are held alike are counted alike
pub counted-alike : (nodes : List NodeSlots) (rows after : List RowShown) (counts : List ℕ) → ((node : List ℕ) → count_held node after ≡ count_held node rows) → AreCounted nodes rows counts → AreCounted nodes after counts
counted-alike nodes rows after counts alike counted = record { few = counted.few; distinct = counted.distinct; fits = counted.fits; each = λ node place at. counted.each node place at ∙ sym (alike node) }

-- rows that are held nowhere count nowhere
pub counted-left : (node : List ℕ) (q : RowShown → Bool) (rows : List RowShown) → AllByRecursion (λ (row : RowShown). q row ≡ false → row.items ≡ []) rows
    → count_held node (filter q rows) ≡ count_held node rows
counted-left node q [] empty = refl
counted-left node q (r ∷ rs) empty = by (q r) refl (counted-left node q rs empty.1)
  where
    nowhere : r.items ≡ [] → count_held node (r ∷ rs) ≡ count_held node rs
    nowhere none = count-cons (is_held node) r rs ∙ ap (λ (items : List NodeHolding). cond (list_any (λ (held : NodeHolding). same_text held.node node) items) 1 0 + count_held node rs) none ∙ zero-add (count_held node rs)

    by : (b : Bool) → q r ≡ b → count_held node (filter q rs) ≡ count_held node rs → count_held node (cond b (r ∷ filter q rs) (filter q rs)) ≡ count_held node (r ∷ rs)
    by true is rest = count-cons (is_held node) r (filter q rs) ∙ ap (λ n. cond (is_held node r) 1 0 + n) rest ∙ sym (count-cons (is_held node) r rs)
    by false is rest = rest ∙ sym (nowhere (empty.0 is))

-- a row that is held as before leaves all counts
pub counted-set : (node : List ℕ) (rows : List RowShown) (place : ℕ) (row new : RowShown) → IsAt rows place row → is_held node new ≡ is_held node row → count_held node (set rows place new) ≡ count_held node rows
counted-set node [] place row new at same = absurd at
counted-set node (r ∷ rs) zero row new at same =
    count-cons (is_held node) new rs ∙ ap (λ (b : Bool). cond b 1 0 + count_held node rs) (same ∙ ap (is_held node) (sym at)) ∙ sym (count-cons (is_held node) r rs)
counted-set node (r ∷ rs) (suc place) row new at same =
    count-cons (is_held node) r (set rs place new) ∙ ap (λ n. cond (is_held node r) 1 0 + n) (counted-set node rs place row new at same) ∙ sym (count-cons (is_held node) r rs)

-- a row is told the same by rows that are held alike
pub line-alike : (config : Config) (rows others : List RowShown) (row : RowShown) (call : Call) → ((node : List ℕ) → count_held node rows ≡ count_held node others) → told_at config rows row call ≡ told_at config others row call
line-alike config rows others row call same =
    λ i. told_in (lifecycle_row config (λ node. list_any (λ (entry : NodeSlots). same_text entry.id node && nat_le entry.slots (same node i)) config.nodes) (state_shown row) call)

-- ---- what changes

-- a change leaves all of the volume but whether it is live
pub same-volume : (row : RowShown) (change : Change) → (row_changed row change).volume ≡ record row.volume { is_live = (row_changed row change).volume.is_live }
same-volume row Stays = refl
same-volume row change = refl

-- a row that a call changes keeps its id
change-id : (call : Call) (row : RowShown) → (row_changed row (call_change call)).volume.id ≡ row.volume.id
change-id call row = ap (λ (v : Volume). v.id) (same-volume row (call_change call))

-- what is below a number is below the next one
pub below-later : (k n : ℕ) → k < n → k < n + 1
below-later k n less = lt_trans less (subst (λ m. n < m) (suc-eq-add-one n) (lt-suc_self n))

-- ---- rows that are made

-- a row was made
abbrev was : Lacking RowShown → Bool
was (Answered reply) = false
was (Made row) = true

-- the row that was made, or else this one
abbrev row_or : RowShown → Lacking RowShown → RowShown
row_or other (Answered reply) = other
row_or other (Made row) = row

-- what a new name is answered: a refusal, or a volume that is made, for whose row there is room
pub data IsNewLine (count next : ℕ) (name : List ℕ) (wished : List Capability) : Outcome → Type 0 where
  refuses : (status : Status) (detail : List ℕ) → IsNewLine count next name wished (refused status detail)
  makes : (capacity : ℕ) → count < 4096 → IsNewLine count next name wished (record { reply = ok_reply_with next; change = Makes name capacity wished })

-- it is one of these
pub new-outcome : (greatest count next : ℕ) (name : List ℕ) (required limit : ℕ) (wished : List Capability) → IsNewLine count next name wished (new_line greatest count next name required limit wished)
new-outcome greatest count next name required limit [] = refuses InvalidArgument (codes "capabilities")
new-outcome greatest count next name required limit (first ∷ others) =
    by (is_bad_range required limit) (is_empty_range required limit) (nat_lt greatest (capacity_wanted required limit)) (nat_le 4096 count || nat_le 18446744073709551616 next) refl
  where
    by : (bad none above full : Bool) → (nat_le 4096 count || nat_le 18446744073709551616 next) ≡ full
        → IsNewLine count next name (first ∷ others)
        (unless (cond bad (Some (refused InvalidArgument (codes "capacity"))) (cond none (Some (refused OutOfRange (codes "range"))) None))
        (cond above (refused OutOfRange (codes "range")) (cond full (refused ResourceExhausted (codes "volumes")) (record { reply = ok_reply_with next; change = Makes name (capacity_wanted required limit) (first ∷ others) }))))
    by true none above full e = refuses InvalidArgument (codes "capacity")
    by false true above full e = refuses OutOfRange (codes "range")
    by false false true full e = refuses OutOfRange (codes "range")
    by false false false true e = refuses ResourceExhausted (codes "volumes")
    by false false false false e = makes (capacity_wanted required limit) (leb-false 4096 count (or_parts (nat_le 4096 count) (nat_le 18446744073709551616 next) e).0)

-- a row that is made is that of a CreateVolume, and there is room for it
pub record WasMade (count next : ℕ) (number : Number) (call : Call) (row : RowShown) : Type 0 where
  pub name : List ℕ
  pub required : ℕ
  pub limit : ℕ
  pub capacity : ℕ
  pub wished : List Capability
  pub is_call : call ≡ calls.CreateVolume name required limit wished
  pub is : row ≡ made_row number next name capacity wished
  pub room : count < 4096

-- each row that is made is such a one
pub was-made : (greatest count next : ℕ) (number : Number) (call : Call) (row : RowShown) → lacking greatest count next number call ≡ Made row → WasMade count next number call row
was-made greatest count next number (calls.CreateVolume name required limit wished) row h =
    by (new_line greatest count next name required limit wished) (new-outcome greatest count next name required limit wished) h
  where
    by : (o : Outcome) → IsNewLine count next name wished o → created number next o.reply o.change ≡ Made row → WasMade count next number (calls.CreateVolume name required limit wished) row
    by _ (refuses status detail) t = absurd (true≢false (sym (ap was t)))
    by _ (makes capacity room) t =
        record { name = name; required = required; limit = limit; capacity = capacity; wished = wished; is_call = refl; is = sym (ap (row_or row) t); room = room }
was-made greatest count next number call row h = absurd (true≢false (sym (ap was h)))

-- no row has the next id
pub new-id : (next : ℕ) (rows : List RowShown) → AllByRecursion (IsSoundBy next) rows → find (λ (r : RowShown). r.volume.id == next) rows ≡ None
new-id next [] each = refl
new-id next (r ∷ rs) each =
    ap (λ (b : Bool). cond b (Some r) (find (λ (r : RowShown). r.volume.id == next) rs)) (ne_eqb r.volume.id next (ne_of_lt each.0.below)) ∙ new-id next rs each.1

-- ---- the laws

-- a row that keeps the rules keeps them with another call, and under another next id
sound-as : (next later : ℕ) (kept : Kept) (row : RowShown) → IsSoundBy next row → row.volume.id < later → IsAllowed Controller (bodies.Reply kept.kind kept.reply) → IsSoundBy later (row_keeping kept row)
sound-as next later kept row sound below allowed = record {
  below = below;
  party = allowed.0;
  reply = allowed.1;
  apart = sound.apart;
  compatible = sound.compatible;
  gone = sound.gone;
  capacity_from = sound.capacity_from;
  capacity_to = sound.capacity_to;
  capable = sound.capable;
  listed = sound.listed;
  limit = sound.limit;
}

-- the plan's laws
pub is_orderly : IsOrderly controller_plan IsSoundBy
is_orderly = record {
  keep_id = λ kept row. refl;
  keep_kept = λ kept row. refl;
  keep_empty = λ kept row. refl;
  change_id = change-id;
  keep_sound = λ config next kept row sound allowed. sound-as next next kept row sound sound.below allowed;
  sound_allowed = λ config next row sound. (sound.party, sound.reply);
  line_full = λ config next rows row call sound.
      line-alike config (filter (λ (r : RowShown). not (not r.volume.is_live)) rows) rows row call
      (λ node. counted-left node (λ (r : RowShown). not (not r.volume.is_live)) rows
      (each-weaker (IsSoundBy next) (λ (r : RowShown). not (not r.volume.is_live) ≡ false → r.items ≡ []) rows (λ r own h. own.gone (sym (not-not r.volume.is_live) ∙ h)) (recursion_from_All (IsSoundBy next) rows sound)));
  next_sound = λ next row sound. sound-as next (next + 1) row.volume.kept row sound (below-later row.volume.id next sound.below) (sound.party, sound.reply);
  made_kept = λ config next rows number call row is.
      let made = was-made config.greatest (length rows) next number call row is in
      (ap (λ (r : RowShown). r.volume.kept.number) made.is, ap (λ (r : RowShown). r.volume.kept.kind) made.is ∙ ap kind_of (sym made.is_call), made.room);
  made_new = λ config next rows number call row is sound none.
      let made = was-made config.greatest (length rows) next number call row is in
      ap (λ (n : ℕ). find (λ (other : RowShown). other.volume.id == n) rows) (ap (λ (r : RowShown). r.volume.id) made.is) ∙ new-id next rows (recursion_from_All (IsSoundBy next) rows sound);
}

-- ---- what is kept beside the rows

-- what is got at a place stands there
pub at-got : {X : Type 0} (xs : List X) (place : ℕ) (x : X) → slice_get xs place ≡ Some x → IsAt xs place x
at-got [] place x h = absurd (some_is_not_none x (sym h))
at-got (y ∷ ys) zero x h = same_Some y x h
at-got (y ∷ ys) (suc place) x h = at-got ys place x h

-- with another row of the same id and name in the place of one, where the counts are right
pub fits-set : (nodes : List NodeSlots) (names : List (List ℕ × ℕ)) (counts after : List ℕ) (next : ℕ) (rows : List RowShown) (place : ℕ) (row new : RowShown) → Fits nodes names counts next rows → slice_get rows place ≡ Some row
    → new.volume.id ≡ row.volume.id → new.volume.name ≡ row.volume.name → AreCounted nodes (set rows place new) after → IsFree new → Fits nodes names after next (set rows place new)
fits-set nodes names counts after next rows place row new fits at id name counted free =
    let own : by_name new ≡ by_name (get_or rows place row) = (λ i. (name i, id i)) ∙ ap by_name (sym (get_or_from_slice_get rows place row row at)) in
    record {
      names_are = fits.names_are ∙ sym (map-set_same by_name rows place new row own);
      unique = λ k. AtMostOne-set (λ (r : RowShown). same_text r.volume.name k) rows place row new (at-got rows place row at) (ap (λ x. same_text x k) name) (fits.unique k);
      limit = subst (λ (n : ℕ). n ≤ 4096) (sym (length-set rows place new)) fits.limit;
      counted = counted;
      free = each-set IsFree rows place new fits.free free;
      below = fits.below;
    }

-- what the table keeps fits its rows still where one keeps another call
pub lets_keep : (table : ControllerTable) → LetsKeep controller_plan (fits_table table)
lets_keep table rows place row kept fits at =
    fits-set table.config.nodes _ table.counts table.counts table.next_id rows place row (row_keeping kept row) fits at refl refl
    (counted-alike table.config.nodes rows (set rows place (row_keeping kept row)) table.counts (λ node. counted-set node rows place row (row_keeping kept row) (at-got rows place row at) refl) fits.counted)
    (each-at IsFree rows place row fits.free (at-got rows place row at))

-- at most one row is a call's, where no name is there twice and ids rise
pub one-for : (rows : List RowShown) (call : Call) → ((name : List ℕ) → AtMostOne (λ (row : RowShown). same_text row.volume.name name) rows) → AreRising controller_plan.id rows → AtMostOne (controller_plan.is_for call) rows
one-for rows (calls.CreateVolume name required limit capabilities) unique rising = unique name
one-for rows (calls.DeleteVolume id) unique rising = once-rise controller_plan.id rows (rows_rise controller_plan.id rows rising) id
one-for rows (calls.ControllerPublishVolume id node capability readonly) unique rising = once-rise controller_plan.id rows (rows_rise controller_plan.id rows rising) id
one-for rows (calls.ControllerUnpublishVolume id node) unique rising = once-rise controller_plan.id rows (rows_rise controller_plan.id rows rising) id
one-for rows (calls.NodeStageVolume id capability) unique rising = once-rise controller_plan.id rows (rows_rise controller_plan.id rows rising) id
one-for rows (calls.NodeUnstageVolume id) unique rising = once-rise controller_plan.id rows (rows_rise controller_plan.id rows rising) id
one-for rows (calls.NodePublishVolume id target capability readonly) unique rising = once-rise controller_plan.id rows (rows_rise controller_plan.id rows rising) id
one-for rows (calls.NodeUnpublishVolume id target) unique rising = once-rise controller_plan.id rows (rows_rise controller_plan.id rows rising) id

-- so it is with a table's
pub has_one_row : (table : ControllerTable) → HasOneRow controller_plan (fits_table table)
has_one_row table rows call fits rising = one-for rows call fits.unique rising
