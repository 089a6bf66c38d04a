-- Where the row of an open call stands: the place that is noted for the call's number, if the row there passes a test that only the row of
-- such a call passes.
use Rattle.csi_orchestrator.proofs.Words.{◌≡◌, ℕ, List, get_or, Bool, true, false, refl, sym, ◌∙◌, ap, subst, Option}
use Rattle.csi_orchestrator.proofs.Words.{Some, None, position, slice_get, IsAt, Kind, Party, Number, OpenCall, Row}
use Rattle.csi_orchestrator.proofs.Words.{Catalog, rows_of, place_noted, IsIndexed, is_numbered, is_issued_as}
use Rattle.csi_orchestrator.proofs.Words.{row_shown, open_in_row, arith}
use Rattle.csi_orchestrator.proofs.Lemmas.{false≢true, false_from_ne_true, position-Some, none-some, same_Some}
use Rattle.csi_orchestrator.proofs.Lemmas.{at-index, find-not_none, position-none, find-no_place, same_number-tells}
use Rattle.csi_orchestrator.proofs.ListPlaces.{at-of_get, get-of_at}
use Rattle.csi_orchestrator.proofs.RepliedRows.{hears-it}

-- what passes a test, if it is the only one, and that none passes
unplaced : {X : Type 0} (p : X → Bool) (xs : List X) → ((j : ℕ) (x : X) → IsAt xs j x → p x ≡ true → ⊥) → None ≡ position p xs
unplaced p xs none = position-none p xs (λ k d inside. false_from_ne_true (p (get_or xs k d)) (λ e. none k (get_or xs k d) (at-index xs k d inside) e))

-- the place of what alone passes a test is the one that a search by the test gives
pub placed : {X : Type 0} (p : X → Bool) (xs : List X) (i : ℕ) (x : X) → IsAt xs i x → p x ≡ true → ((j : ℕ) (y : X) → IsAt xs j y → p y ≡ true → j ≡ i) → Some i ≡ position p xs
placed p xs i x at passes only = by (position p xs) refl
  where
    by : (o : Option ℕ) → position p xs ≡ o → Some i ≡ o
    by None e = absurd (find-not_none p xs i x at passes (find-no_place p xs e))
    by (Some j) e = let there = position-Some p xs j x e in ap Some (sym (only j (get_or xs j x) (at-index xs j x there.0) there.1))

-- ---- the place that is noted

-- the place of each row that passes the test is noted for this call
abbrev pub AreNoted : Catalog → ℕ → (Row → Bool) → Type 0
AreNoted catalog call p = (j : ℕ) (row : Row) → IsAt (rows_of catalog) j row → p row ≡ true → place_noted catalog call ≡ Some j

-- none is noted
pub none-noted : (catalog : Catalog) (call : ℕ) (p : Row → Bool) → AreNoted catalog call p → place_noted catalog call ≡ None → None ≡ position p (rows_of catalog)
none-noted catalog call p noted none = unplaced p (rows_of catalog) (λ j row at passes. none-some j (sym none ∙ noted j row at passes))

-- no row stands at its place
pub noted-nowhere : (catalog : Catalog) (call : ℕ) (p : Row → Bool) (place : ℕ) → AreNoted catalog call p → place_noted catalog call ≡ Some place → slice_get (rows_of catalog) place ≡ None → None ≡ position p (rows_of catalog)
noted-nowhere catalog call p place noted is none = grind (arith, unplaced, same_Some, none-some, get-of_at)

-- the row there is not the one
pub noted-otherwise : (catalog : Catalog) (call : ℕ) (p : Row → Bool) (place : ℕ) (row : Row) → AreNoted catalog call p → place_noted catalog call ≡ Some place → slice_get (rows_of catalog) place ≡ Some row → p row ≡ false
    → None ≡ position p (rows_of catalog)
noted-otherwise catalog call p place row noted is there fails = grind (arith, unplaced, same_Some, get-of_at, false≢true)

-- it is
pub noted-there : (catalog : Catalog) (call : ℕ) (p : Row → Bool) (place : ℕ) (row : Row) → AreNoted catalog call p → place_noted catalog call ≡ Some place → slice_get (rows_of catalog) place ≡ Some row → p row ≡ true
    → Some place ≡ position p (rows_of catalog)
noted-there catalog call p place row noted is there passes =
    placed p (rows_of catalog) place row (at-of_get (rows_of catalog) place row there) passes (λ j other at pass. sym (same_Some place j (sym is ∙ noted j other at pass)))

-- ---- the tests

-- the reply is to the row's open call
abbrev pub Replied : Number → Party → Kind → Row → Bool
Replied number party kind row = is_issued_as number party kind (open_in_row (row_shown row))

-- the place of a row that a reply is to is noted for the reply's number
pub replied-noted : (catalog : Catalog) (number : Number) (party : Party) (kind : Kind) → IsIndexed catalog → AreNoted catalog number.call (Replied number party kind)
replied-noted catalog number party kind indexed j row at passes =
    let it = hears-it (row_shown row) number party kind passes in
    subst (λ (n : Number). place_noted catalog n.call ≡ Some j) it.has_number (indexed.noted.found j row it.kept at it.own)

-- the open call has this number
pub record IsNumbered (number : Number) (o : Option OpenCall) : Type 0 where
  pub kept : OpenCall
  pub own : o ≡ Some kept
  pub has_number : kept.number ≡ number

-- what passes the test is such a call
pub numbered-call : (number : Number) (o : Option OpenCall) → is_numbered number o ≡ true → IsNumbered number o
numbered-call number None e = absurd (false≢true e)
numbered-call number (Some kept) e = record { kept = kept; own = refl; has_number = (same_number-tells kept.number number).0 e }

-- the place of a row whose open call has this number is noted for it
pub numbered-noted : (catalog : Catalog) (number : Number) → IsIndexed catalog → AreNoted catalog number.call (λ (row : Row). is_numbered number row.open_call)
numbered-noted catalog number indexed j row at passes =
    let it = numbered-call number row.open_call passes in
    subst (λ (n : Number). place_noted catalog n.call ≡ Some j) it.has_number (indexed.noted.found j row it.kept at it.own)
