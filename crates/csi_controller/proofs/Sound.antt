-- The rules of a record's rows: each id is there once, and some of the rows keep them.
use Rattle.std.proofs.Common.{◌≡◌, ◌<◌, ◌≤◌, ℕ, length, Bool, cond, List, [], ◌∷◌, sym, ◌∙◌, ap, inl, inr, arith}
use Rattle.std.specs.Prelude.{Some, find, filter, ◌==◌}
use Rattle.std.proofs.lemmas.Bool.{eq-eqb, ne_eqb}
use Rattle.csi_types.proofs.Each.{each-filter}
use Rattle.csi_types.proofs.Filters.{filter-no_longer}
use Rattle.csi_types.proofs.Members.{each_of}
use Rattle.csi_types.proofs.Pairs.{two-filter}
use Rattle.csi_types.proofs.PassingByKey.{once-rising}
use Rattle.csi_types.proofs.Places.{AtMostOne-filter}
use Rattle.csi_types.specs.Model.Members.{EachTwo, IsAmong}
use Rattle.csi_types.specs.Public.Places.{AtMostOne}
use Rattle.csi_controller.specs.declared.row.ControllerRow.{ControllerRow}
use Rattle.csi_controller.specs.Public.Core.{AreRisingRows, AreSoundRows, IsSoundRow}
use Rattle.csi_types.specs.Model.Same.{same_text}

-- rows with rising ids, any two of them
pub two-rise : (rows : List ControllerRow) → AreRisingRows rows → EachTwo (λ (a b : ControllerRow). a.id < b.id) rows
two-rise [] rising = tt
two-rise (row ∷ rows) rising = (rising.0, two-rise rows rising.1)

-- and the other way round
pub rise-two : (rows : List ControllerRow) → EachTwo (λ (a b : ControllerRow). a.id < b.id) rows → AreRisingRows rows
rise-two [] rising = tt
rise-two (row ∷ rows) rising = (rising.0, rise-two rows rising.1)

-- at most one of them has an id
pub rising-one : (rows : List ControllerRow) → AreRisingRows rows → (id : ℕ) → AtMostOne (λ (row : ControllerRow). row.id == id) rows
rising-one rows rising id = once-rising (λ (row : ControllerRow). row.id) rows (two-rise rows rising) id

-- where keys rise, each is the one that is found by its key
pub found-rising : {X : Type 0} (key : X → ℕ) (xs : List X) (x : X) → EachTwo (λ (a b : X). key a < key b) xs → IsAmong x xs → find (λ (y : X). key y == key x) xs ≡ Some x
found-rising key [] x rise among = absurd among
found-rising {X} key (y ∷ ys) x rise (inl here) =
    ap (λ (b : Bool). cond b (Some y) (find (λ (z : X). key z == key x) ys)) (eq-eqb (key y) (key x) (ap key (sym here))) ∙ ap Some (sym here)
found-rising {X} key (y ∷ ys) x rise (inr there) =
    let less : key y < key x = each_of (λ (later : X). key y < key later) ys x rise.0 there in
    ap (λ (b : Bool). cond b (Some y) (find (λ (z : X). key z == key x) ys)) (ne_eqb (key y) (key x) (λ same. absurd (omega (arith, less, same)))) ∙ found-rising key ys x rise.1 there

-- some of a record's rows are a record's
pub sound-filter : (n : ℕ) (q : ControllerRow → Bool) (rows : List ControllerRow) → AreSoundRows n rows → AreSoundRows n (filter q rows)
sound-filter n q rows sound =
    record {
      limit = let limit = sound.limit in let fewer : length (filter q rows) ≤ length rows = filter-no_longer q rows in omega (arith, limit, fewer);
      each = each-filter (IsSoundRow n) q rows sound.each;
      rising = rise-two (filter q rows) (two-filter (λ (a b : ControllerRow). a.id < b.id) q rows (two-rise rows sound.rising));
      names = λ name. AtMostOne-filter (λ (row : ControllerRow). same_text row.name name) q rows (sound.names name);
    }
