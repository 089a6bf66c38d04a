-- What an answer changed of a node's rows: it put one row among those that stay, or none.
use Rattle.std.proofs.Common.{◌≡◌, ℕ, List, [], ◌∷◌, cond, not, refl, sym, ◌∙◌, ap, subst, Result, Ok, Err}
use Rattle.std.specs.Prelude.{Option, Some, None, filter, nat_lt, ◌==◌, is_some, is_none, OnOk}
use Rattle.std.proofs.lemmas.Option.{none-some, same_Some}
use Rattle.std.proofs.lemmas.List.Elements.{filter_agree}
use Rattle.csi_types.specs.declared.capability.Capability.{Capability}
use Rattle.csi_types.specs.declared.number.Number.{Number}
use Rattle.csi_fence.specs.Model.Fence.{begins}
use Rattle.csi_fence.specs.Public.Rows as behind
use Rattle.csi_fence.specs.Public.Rows.{RowsState, PutsAt}
use Rattle.csi_node.specs.Model.OneRow.{NodeRowShown}
use Rattle.csi_node.specs.Model.Record.{NodeParts, parts}
use Rattle.csi_node.specs.Public.Changes.{ChangesAt, put_row, row_by_id, staying}
use Rattle.csi_node.specs.Public.Plan.{node_plan}

-- what is so anyway is so of an OK
pub on_ok_holds : {T E : Type 0} (r : Result T E) {P : Type 0} → P → OnOk r P
on_ok_holds (Ok x) h = h
on_ok_holds (Err e) h = tt

-- a volume is staged, or it isn't
pub staged-tells : (o : Option Capability) → not (is_none o) ≡ is_some o
staged-tells None = refl
staged-tells (Some capability) = refl

-- the rows that aren't empty are those of staged volumes
pub full-staged : (rows : List NodeRowShown) → filter (λ (row : NodeRowShown). not (node_plan.is_empty row)) rows ≡ filter (λ (row : NodeRowShown). is_some row.staged) rows
full-staged rows = filter_agree (λ (row : NodeRowShown). not (node_plan.is_empty row)) (λ (row : NodeRowShown). is_some row.staged) (λ row. staged-tells row.staged) rows

-- rows behind the fence put a row as a record does
pub put-same : (row : NodeRowShown) (rows : List NodeRowShown) → behind.put_row node_plan.id row rows ≡ put_row row rows
put-same row [] = refl
put-same row (other ∷ others) = ap (λ (rest : List NodeRowShown). cond (nat_lt other.id row.id) (other ∷ rest) (cond (other.id == row.id) (row ∷ others) (row ∷ other ∷ others))) (put-same row others)

-- and the same rows stay
staying-same : (session : ℕ) (number : Number) (rows : List NodeRowShown) → behind.staying node_plan.is_empty session number rows ≡ staying session number rows
staying-same session number rows = ap (λ (l : List NodeRowShown). cond (begins session number) l rows) (full-staged rows)

-- the rows of a record, as they stand behind the fence
abbrev pub state_of : NodeParts → RowsState (Unit {0}) NodeRowShown
state_of record_ = record { own = tt; session = record_.session; rows = parts record_.rows }

-- so what the rows say of a call is what it changed of the record
pub changes-at : (place : Option ℕ) (number : Number) (old new : NodeParts) → PutsAt node_plan place number (state_of old) (state_of new) → ChangesAt place number old new
changes-at None number old new puts = record {
  session = puts.session;
  same = λ is. puts.rows ∙ staying-same old.session number (parts old.rows);
  put = λ id is. absurd (none-some id is);
  fresh = λ id was is found. absurd (none-some id is);
}
changes-at (Some place) number old new (row, at, puts) = (
  row,
  at,
  record {
    session = puts.session;
    same = λ is. absurd (none-some row.id (sym is));
    put = λ id is. (row, same_Some row.id id is, puts.has_number, put);
    fresh = λ id was is found. puts.fresh was (subst (λ (n : ℕ). row_by_id n (parts old.rows) ≡ Some was) (sym (same_Some row.id id is)) found);
  },
)
  where
    put : parts new.rows ≡ put_row row (staying old.session number (parts old.rows))
    put = puts.rows ∙ put-same row (behind.staying node_plan.is_empty old.session number (parts old.rows)) ∙ ap (put_row row) (staying-same old.session number (parts old.rows))
