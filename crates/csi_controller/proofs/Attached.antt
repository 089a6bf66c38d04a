-- The attachments of rows, when one more row is appended.
use Rattle.std.proofs.Common.{◌≡◌, ◌<◌, ◌+◌, ℕ, Bool, true, false, cond, List, [], ◌∷◌, ◌++◌, map, take, get_or, length, refl, sym, ◌∙◌, ap, append_assoc, arith}
use Rattle.std.specs.Prelude.{Some, find, filter, ◌==◌}
use Rattle.std.proofs.lemmas.List.{take_more, append-nil}
use Rattle.std.proofs.lemmas.List.Elements.{filter-append}
use Rattle.std.specs.List.{AllByRecursion}
use Rattle.csi_types.specs.Model.Members.{EachTwo}
use Rattle.csi_types.specs.Public.Places.{AtMostOne}
use Rattle.csi_types.proofs.Each.{each-append, each-weaker}
use Rattle.csi_types.proofs.Members.{each_of}
use Rattle.csi_types.proofs.Pairs.{two-joined}
use Rattle.csi_types.specs.declared.holding.Holding.{Holding}
use Rattle.csi_controller.specs.declared.row.NodeHolding.{NodeHolding}
use Rattle.csi_controller.specs.declared.row.ControllerRow.{ControllerRow}
use Rattle.csi_controller.specs.Model.Shown.{holdings_in_row, holdings_in}
use Rattle.csi_controller.specs.Model.Core.{ControllerParts, Shows}
use Rattle.csi_controller.specs.Public.Core.{AreSoundRows, AreRisingRows, volume_holding}
use Rattle.csi_controller.specs.Public.Views.{attached_holdings, IsHeldBefore, HasHoldingsOf}
use Rattle.csi_controller.proofs.Sound.{rising-one}
use Rattle.csi_controller.specs.Model.State.{ControllerState}

-- the holdings of rows with one more are theirs, and then that row's
attached-append : (rows : List ControllerRow) (row : ControllerRow) → attached_holdings (rows ++ row ∷ []) ≡ attached_holdings rows ++ holdings_in_row row
attached-append [] row = append-nil (holdings_in_row row)
attached-append (r ∷ rs) row = ap (λ all. holdings_in_row r ++ all) (attached-append rs row) ∙ sym (append_assoc (holdings_in_row r) (attached_holdings rs) (holdings_in_row row))

-- the holdings of the rows before a place, and then those of the row there, are those of the rows up to it
pub one_more_row : (rows : List ControllerRow) (place : ℕ) (row : ControllerRow) → place < length rows → row ≡ get_or rows place row → attached_holdings (take place rows) ++ holdings_in_row row ≡ attached_holdings (take (place + 1) rows)
one_more_row rows place row inside is =
    sym (ap attached_holdings (take_more rows place row inside ∙ ap (λ (x : ControllerRow). take place rows ++ x ∷ []) (sym is)) ∙ attached-append (take place rows) row)

-- the holdings of a row are all of its volume
own_holdings : (id volume : ℕ) (items : List NodeHolding) → filter (λ (h : Holding). h.volume == id) (map (volume_holding volume) items) ≡ cond (volume == id) (map (volume_holding volume) items) []
own_holdings id volume [] = same_either_way (volume == id)
  where
    same_either_way : (b : Bool) → [] ≡ cond {A = List Holding} b [] []
    same_either_way true = refl
    same_either_way false = refl
own_holdings id volume (held ∷ later) = by (volume == id) (own_holdings id volume later)
  where
    by : (b : Bool) → filter (λ (h : Holding). h.volume == id) (map (volume_holding volume) later) ≡ cond b (map (volume_holding volume) later) []
        → cond b (volume_holding volume held ∷ filter (λ (h : Holding). h.volume == id) (map (volume_holding volume) later)) (filter (λ (h : Holding). h.volume == id) (map (volume_holding volume) later))
        ≡ cond b (volume_holding volume held ∷ map (volume_holding volume) later) []
    by true e = ap (λ xs. volume_holding volume held ∷ xs) e
    by false e = e

-- the holdings of a volume are those of its row
pub attached-of : (rows : List ControllerRow) (id : ℕ) → ((n : ℕ) → AtMostOne (λ (r : ControllerRow). r.id == n) rows)
    → filter (λ (h : Holding). h.volume == id) (attached_holdings rows) ≡ holdings_in (find (λ (r : ControllerRow). r.id == id) rows)
attached-of [] id one = refl
attached-of (r ∷ rs) id one =
    filter-append (λ (h : Holding). h.volume == id) (holdings_in_row r) (attached_holdings rs)
    ∙ ap (λ xs. xs ++ filter (λ (h : Holding). h.volume == id) (attached_holdings rs)) (own_holdings id r.id r.holdings.items)
    ∙ by (r.id == id) refl (attached-of rs id (λ n. (one n).1))
  where
    by : (b : Bool) → (r.id == id) ≡ b → filter (λ (h : Holding). h.volume == id) (attached_holdings rs) ≡ holdings_in (find (λ (x : ControllerRow). x.id == id) rs)
        → cond b (holdings_in_row r) [] ++ filter (λ (h : Holding). h.volume == id) (attached_holdings rs) ≡ holdings_in (cond b (Some r) (find (λ (x : ControllerRow). x.id == id) rs))
    by true e rest = ap (λ xs. holdings_in_row r ++ xs) (rest ∙ ap holdings_in ((one id).0 e)) ∙ append-nil (holdings_in_row r)
    by false e rest = rest

-- the rows' holdings have each volume's, in order, of the state that the rows show
pub attached-shown : (parts : ControllerParts) (state : ControllerState) → AreSoundRows parts.next_id parts.rows → Shows parts state → HasHoldingsOf state (attached_holdings parts.rows)
attached-shown parts state sound shown = λ id. attached-of parts.rows id (rising-one parts.rows sound.rising) ∙ shown.shows.holdings id

-- the holdings stand by rising id of their volumes
own_volumes : (id : ℕ) (items : List NodeHolding) → AllByRecursion (λ (h : Holding). h.volume ≡ id) (map (volume_holding id) items)
own_volumes id [] = tt
own_volumes id (held ∷ later) = (refl, own_volumes id later)

-- where the ids of all rows are above a number, so are those in all their holdings
above_all : (id : ℕ) (rows : List ControllerRow) → AllByRecursion (λ (later : ControllerRow). id < later.id) rows → AllByRecursion (λ (h : Holding). id < h.volume) (attached_holdings rows)
above_all id [] above = tt
above_all id (row ∷ rows) above =
    each-append (λ (h : Holding). id < h.volume) (holdings_in_row row) (attached_holdings rows)
    (each-weaker (λ (h : Holding). h.volume ≡ row.id) (λ (h : Holding). id < h.volume) (holdings_in_row row) (λ h e. (let lower = above.0 in omega arith)) (own_volumes row.id row.holdings.items))
    (above_all id rows above.1)

-- of the holdings of one row each stands before the later ones
of_one_volume : (id : ℕ) (items : List NodeHolding) → EachTwo IsHeldBefore (map (volume_holding id) items)
of_one_volume id [] = tt
of_one_volume id (held ∷ later) =
    (each-weaker (λ (h : Holding). h.volume ≡ id) (IsHeldBefore (volume_holding id held)) (map (volume_holding id) later) (λ h e. omega arith) (own_volumes id later), of_one_volume id later)

-- so it is with the holdings of rows by rising id
pub attached-rising : (rows : List ControllerRow) → AreRisingRows rows → EachTwo IsHeldBefore (attached_holdings rows)
attached-rising [] rising = tt
attached-rising (row ∷ rows) rising =
    two-joined IsHeldBefore (holdings_in_row row) (attached_holdings rows) (of_one_volume row.id row.holdings.items) (attached-rising rows rising.1)
    (λ x y here there.
    let own = each_of (λ (h : Holding). h.volume ≡ row.id) (holdings_in_row row) x (own_volumes row.id row.holdings.items) here in
    let higher = each_of (λ (h : Holding). row.id < h.volume) (attached_holdings rows) y (above_all row.id rows rising.0) there in
    omega arith)
