use Rattle.std.proofs.Common.{◌≡◌, inl, inr, Result, Ok, Err, IfErr, subst, rules}
use Rattle.csi_sqlite.specs.Public.Statements.{RefusesToMake}
use Rattle.sqlite.specs.Held.{state}
use Rattle.csi_sqlite.proofs.MakingTable.{makes, may_make, finds, may_find}
use Rattle.csi_sqlite.specs.Public.Declared.{parts_schema}
use Rattle.csi_sqlite.proofs.Schemas.{parts_listed, not_both}
use Rattle.csi_sqlite.proofs.rows.make_table.Goals as goal

pub returns-clause-made : goal.returns-clause-made
returns-clause-made g c clean blank rest =
    let live = (c.schema-schema.ensures.live blank.is_open).0 in
    makes (state g.S.Store c.args.connection.now) (state g.S.Store c.execute.new.self) (Ok c.in_ok-execute.field-0) live blank rest (c.in_ok-execute.ensures.runs clean)

pub returns-clause-found : goal.returns-clause-found
returns-clause-found g c clean rows is_open stores rest =
    let live = (c.schema-schema.ensures.live is_open).0 in
    finds (state g.S.Store c.args.connection.now) (state g.S.Store c.execute.new.self) (Ok c.in_ok-execute.field-0) rows live is_open stores rest (c.in_ok-execute.ensures.runs clean)

pub returns-clause-crash_made : goal.returns-clause-crash_made
returns-clause-crash_made g c clean blank db may =
    let old = state g.S.Store c.args.connection.now in
    let live = (c.schema-schema.ensures.live blank.is_open).0 in
    elim (c.execute.ensures.survives.crash clean db may) [ inl before ↦ inl before | inr made ↦ inr (may_make old db live blank made) ]

pub returns-clause-crash_found : goal.returns-clause-crash_found
returns-clause-crash_found g c clean rows is_open stores db may =
    let old = state g.S.Store c.args.connection.now in
    let live = (c.schema-schema.ensures.live is_open).0 in
    elim (c.execute.ensures.survives.crash clean db may) [ inl before ↦ before | inr made ↦ absurd (may_find old rows db live stores made) ]

pub returns-in_err-execute-clause-crash_made : goal.returns-in_err-execute-clause-crash_made
returns-in_err-execute-clause-crash_made g c clean blank db may =
    let old = state g.S.Store c.args.connection.now in
    let live = (c.schema-schema.ensures.live blank.is_open).0 in
    elim (c.execute.ensures.survives.crash clean db may) [ inl before ↦ inl before | inr made ↦ inr (may_make old db live blank made) ]

pub returns-in_err-execute-clause-crash_found : goal.returns-in_err-execute-clause-crash_found
returns-in_err-execute-clause-crash_found g c clean rows is_open stores db may =
    let old = state g.S.Store c.args.connection.now in
    let live = (c.schema-schema.ensures.live is_open).0 in
    elim (c.execute.ensures.survives.crash clean db may) [ inl before ↦ before | inr made ↦ absurd (may_find old rows db live stores made) ]

pub returns-then-lists_parts-clause-made : goal.returns-then-lists_parts-clause-made
returns-then-lists_parts-clause-made g c clean blank rest =
    let live = (c.schema-schema.ensures.live blank.is_open).0 in
    let now = (state g.S.Store c.args.connection.now).now in
    absurd (not_both now.schema now.trees blank.empty live (subst (λ s. s ≡ parts_schema) c.schema-schema.ensures.value (c.lists_parts.ensures.0 c.if-lists_parts.true)))

pub returns-then-lists_parts-clause-found : goal.returns-then-lists_parts-clause-found
returns-then-lists_parts-clause-found g c clean rows is_open stores rest =
    let live = (c.schema-schema.ensures.live is_open).0 in
    let now = (state g.S.Store c.args.connection.now).now in
    (record { is_open = is_open; declared = parts_listed now.schema now.trees stores.listed live; stores = stores }, rest)

-- what is so of an error is so of a result that is this error
told : {A E : Type 0} (P : E → Type 0) (r : Result A E) (e : E) → r ≡ Err e → P e → IfErr r P
told P (Ok a) e is so = tt
told P (Err x) e is so = let same : e ≡ x = cc in subst P same so

pub returns-in_err-execute-clause-refused : goal.returns-in_err-execute-clause-refused
returns-in_err-execute-clause-refused g c clean understood =
    let is : c.from_residual.result ≡ Err c.in_err-execute.field-0.0 = search rules in
    told (RefusesToMake (state g.S.Store c.args.connection.now) (state g.S.Store c.execute.new.self)) c.from_residual.result c.in_err-execute.field-0.0 is (c.in_err-execute.ensures.runs clean)
