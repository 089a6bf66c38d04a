-- Rows without open calls, put into a catalog one after the other.
use Rattle.csi_orchestrator.proofs.Words.{◌≡◌, ◌<◌, ℕ, zero, suc, get_or, arith, List, [], ◌∷◌, ◌++◌, false, length}
use Rattle.csi_orchestrator.proofs.Words.{map, sym, ◌∙◌, subst, Option, Some, None, position, AllByRecursion, EachTwo}
use Rattle.csi_orchestrator.proofs.Words.{same_text, Catalog, OpenCall, Row, RowShown, IsRestorable, row_shown}
use Rattle.csi_orchestrator.proofs.Words.{IsNextFor}
use Rattle.csi_orchestrator.proofs.Lemmas.{position-none}
use Rattle.csi_orchestrator.proofs.SplitLists.{each-right, two-there}

-- no call isn't some call
none-some : {X : Type 0} (x : X) → None ≡ Some x → ⊥
none-some x e = cc

-- a row without a call has none that is sent
pub next-none : (catalog : Catalog) (own : Option OpenCall) → own ≡ None → IsNextFor catalog own None
next-none catalog own none = record { is = λ kept e. absurd (none-some kept (sym none ∙ e)); new = λ call e. absurd (none-some call e) }

-- rows of which each two have different names
abbrev HaveDistinctNames : List Row → Type 0
HaveDistinctNames rows = EachTwo (λ (one other : Row). same_text one.name other.name ≡ false) rows

-- none of those in front has the name of the one behind them
pub new-name : (front : List Row) (row : Row) (rear whole : List Row) → front ++ row ∷ rear ≡ whole → HaveDistinctNames whole → position (λ (other : Row). same_text other.name row.name) front ≡ None
new-name front row rear whole is apart = nowhere front (two-there (λ (one other : Row). same_text one.name other.name ≡ false) front row rear (subst HaveDistinctNames (sym is) apart)).0
  where
    failing : (xs : List Row) (k : ℕ) (d : Row) → AllByRecursion (λ (other : Row). same_text other.name row.name ≡ false) xs → k < length xs → same_text (get_or xs k d).name row.name ≡ false
    failing [] k d all inside = absurd (omega (arith, inside))
    failing (x ∷ xs) zero d all inside = all.0
    failing (x ∷ xs) (suc k) d all inside = failing xs k d all.1 (omega (arith, inside))

    nowhere : (xs : List Row) → AllByRecursion (λ (other : Row). same_text other.name row.name ≡ false) xs → position (λ (other : Row). same_text other.name row.name) xs ≡ None
    nowhere xs all = sym (position-none (λ (other : Row). same_text other.name row.name) xs (λ k d inside. failing xs k d all inside))

-- it has no open call
pub no-call : (front : List Row) (row : Row) (rear whole : List Row) → front ++ row ∷ rear ≡ whole → AllByRecursion (λ (own : Row). own.open_call ≡ None) whole → row.open_call ≡ None
no-call front row rear whole is closed = (each-right (λ (own : Row). own.open_call ≡ None) front (row ∷ rear) (subst (AllByRecursion (λ (own : Row). own.open_call ≡ None)) (sym is) closed)).0

-- ---- rows that are shown so

-- what is so of each that is shown is so of each as it is shown
pub each-unmapped : {R X : Type 0} (view : R → X) (P : X → Type 0) (rs : List R) → AllByRecursion P (map view rs) → AllByRecursion (λ r. P (view r)) rs
each-unmapped view P [] all = tt
each-unmapped view P (r ∷ rs) all = (all.0, each-unmapped view P rs all.1)

-- a record's rows have different names
pub rows-apart : (rows : List Row) → EachTwo (λ (a b : RowShown). same_text a.name b.name ≡ false) (map row_shown rows) → EachTwo (λ (a b : Row). same_text a.name b.name ≡ false) rows
rows-apart [] two = tt
rows-apart (row ∷ rows) two = (each-unmapped row_shown (λ (b : RowShown). same_text row.name b.name ≡ false) rows two.0, rows-apart rows two.1)

-- and no open calls
pub rows-closed : (nodes : List (List ℕ)) (rows : List Row) → AllByRecursion (IsRestorable nodes) (map row_shown rows) → AllByRecursion (λ (row : Row). row.open_call ≡ None) rows
rows-closed nodes [] all = tt
rows-closed nodes (row ∷ rows) all = ((all.0).quiet, rows-closed nodes rows all.1)
