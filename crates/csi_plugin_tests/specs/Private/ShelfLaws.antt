-- The laws of the small plugin's table.
use Rattle.std.proofs.Common.{◌≡◌, ℕ, ◌<◌, List, length, Bool, true, false, cond, refl, sym, ap, arith}
use Rattle.std.specs.Prelude.{None, find, ◌==◌, ◌||◌, ◌-◌, ◌^◌, nat_le, codes}
use Rattle.std.specs.List.{AllByRecursion}
use Rattle.std.proofs.lemmas.Bool.{leb-false, ne_eqb}
use Rattle.std.proofs.lemmas.List.Elements.{recursion_from_All}
use Rattle.csi_types.specs.Public.Places.{AtMostOne}
use Rattle.csi_types.proofs.Members.{each_of}
use Rattle.csi_types.proofs.Places.{AtMostOne-set}
use Rattle.csi_types.proofs.Searches.{find-none}
use Rattle.csi_types.specs.declared.call.Kind.{Kind}
use Rattle.csi_types.specs.declared.number.Number.{Number}
use Rattle.csi_types.specs.declared.status.Status.TheVariants.{ResourceExhausted}
use Rattle.csi_types.specs.Model.Call.{kind_of}
use Rattle.csi_types.specs.Model.Replies.{plain_reply}
use Rattle.csi_types.specs.Model.Same.{same_text}
use Rattle.csi_fence.specs.Public.Rows.{AreRising, Answered, Made}
use Rattle.csi_fence.specs.Public.Table.{IsOrderly, LetsKeep, HasOneRow}
use Rattle.csi_fence.proofs.RisingRows.{once-rise, rows_rise}
use Rattle.csi_fence.proofs.RowsThere.{at-got}
use Rattle.csi_plugin_tests.specs.declared.shelf.ShelfRow.{ShelfRow}
use Rattle.csi_plugin_tests.specs.Private.Shelf.{shelf, IsSound, HaveNames, Key, Named, Given, key_of, absent, is_for, made_row}

-- what is kept has no name
pub lets-keep : LetsKeep shelf HaveNames
lets-keep rows place row kept names at = λ name. AtMostOne-set (λ (r : ShelfRow). same_text r.name name) rows place row (shelf.keep kept row) (at-got rows place row at) refl (names name)

-- at most one row is a call's
one-row : (key : Key) (rows : List ShelfRow) → HaveNames rows → AreRising (λ (row : ShelfRow). row.id) rows → AtMostOne (is_for key) rows
one-row (Named name) rows names rising = names name
one-row (Given id) rows names rising = once-rise (λ (row : ShelfRow). row.id) rows (rows_rise (λ (row : ShelfRow). row.id) rows rising) id

pub has-one_row : HasOneRow shelf HaveNames
has-one_row rows call names rising = one-row (key_of call) rows names rising

-- a row is made so: for a name, where there is room
pub record IsMadeBy (own : ℕ) (rows : List ShelfRow) (number : Number) (kind : Kind) (key : Key) (row : ShelfRow) : Type 0 where
  pub name : List ℕ
  pub is_named : key ≡ Named name
  pub is_row : row ≡ made_row number kind own name
  pub few : length rows < 4096

-- and no other way
pub made-by : (own : ℕ) (rows : List ShelfRow) (number : Number) (kind : Kind) (key : Key) (row : ShelfRow) → absent own rows number kind key ≡ Made row → IsMadeBy own rows number kind key row
made-by own rows number kind (Named name) row h = by (nat_le 4096 (length rows)) refl ((own == 0) || nat_le (2 ^ 64 - 1) own) h
  where
    by : (full : Bool) → nat_le 4096 (length rows) ≡ full → (given : Bool)
        → cond (full || given) (Answered (plain_reply ResourceExhausted (codes "volumes"))) (Made (made_row number kind own name)) ≡ Made row → IsMadeBy own rows number kind (Named name) row
    by true is given e = cc
    by false is true e = cc
    by false is false e = record { name = name; is_named = refl; is_row = cc; few = leb-false 4096 (length rows) is }
made-by own rows number kind (Given id) row h = cc

-- the next id is above all
next-new : (own id : ℕ) (rows : List ShelfRow) → own ≡ id → AllByRecursion (IsSound own) rows → find (λ (other : ShelfRow). other.id == id) rows ≡ None
next-new own id rows same sound =
    find-none (λ (other : ShelfRow). other.id == id) rows (λ other among. ne_eqb other.id id (λ own_id. let lower = (each_of (IsSound own) rows other sound among).below in omega (arith, lower, same, own_id)))

-- what is made keeps the rules, and is new
pub orderly : IsOrderly shelf IsSound
orderly = record {
  keep_id = λ kept row. refl;
  keep_kept = λ kept row. refl;
  keep_empty = λ kept row. refl;
  change_id = λ call row. refl;
  line_full = λ fixed own rows row call sound. refl;
  keep_sound = λ fixed own kept row sound allowed. record { below = sound.below; allowed = allowed };
  sound_allowed = λ fixed own row sound. sound.allowed;
  next_sound = λ own row sound. record { below = omega (arith, sound.below); allowed = sound.allowed };
  made_kept = λ fixed own rows number call row h.
      let made = made-by own rows number (kind_of call) (key_of call) row h in
      (ap (λ (r : ShelfRow). r.last) made.is_row, ap (λ (r : ShelfRow). r.kind) made.is_row, made.few);
  made_new = λ fixed own rows number call row h sound none.
      let made = made-by own rows number (kind_of call) (key_of call) row h in
      next-new own row.id rows (sym (ap (λ (r : ShelfRow). r.id) made.is_row)) (recursion_from_All (IsSound own) rows sound);
}
