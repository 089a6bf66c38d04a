-- The row that is read at the place is the one that is shown there.
use Rattle.std.proofs.Common.{◌≡◌, ◌≤◌, ◌<◌, ◌∙◌, List, ◌++◌, ap, sym, refl, subst, map, length, slice_get, OnOk, IfSome, arith}
use Rattle.std.specs.Prelude.{Option, Some, None, option_map}
use Rattle.std.proofs.lemmas.Bool.Decides.{nat_tests}
use Rattle.std.proofs.lemmas.List.{append-nil}
use Rattle.std.proofs.lemmas.Option.{slice_get-map, slice_get_read, slice_get_past}
use Rattle.csi_orchestrator.specs.Model.Shown.{RowShown}
use Rattle.csi_orchestrator.specs.Public.Shown.{row_shown}
use Rattle.csi_stores.specs.Public.Part.{part_change}
use Rattle.csi_records.specs.Public.OrchestratorRows.{IsOrchestratorRow}
use Rattle.csi_records.specs.Public.Spelling.{present}
use Rattle.csi_service.specs.Public.OrchestratorServices.{orchestrator_row_change}
use Rattle.csi_service.proofs.orchestrator_changes.push_row.Goals as goal
use Rattle.csi_service.proofs.orchestrator_changes.push_row.Goals.{After-push_orchestrator_row, In-None}

some : (c : After-push_orchestrator_row) → slice_get c.args.orchestrator.now.rows c.args.place ≡ Some (row_shown c.in-Some.row.now)
some c =
    let rows = c.rows.result.now in
    let within : c.args.place < length rows = let e = c.in-Some.ensures.lookup.0 in grind (arith, nat_tests) in
    ap (λ (rs : List RowShown). slice_get rs c.args.place) (sym c.rows.ensures.value) ∙ slice_get-map row_shown rows c.args.place
    ∙ ap (option_map row_shown) (slice_get_read rows (length rows) c.args.place c.in-Some.row.now refl within c.in-Some.ensures.lookup.1)

none : (c : In-None) → slice_get c.args.orchestrator.now.rows c.args.place ≡ None
none c =
    let rows = c.rows.result.now in
    let past : length rows ≤ c.args.place = let e = c.in-None.ensures.lookup.0 in grind (arith, nat_tests) in
    ap (λ (rs : List RowShown). slice_get rs c.args.place) (sym c.rows.ensures.value) ∙ slice_get-map row_shown rows c.args.place ∙ ap (option_map row_shown) (slice_get_past rows c.args.place past)

pub returns-in-Some-clause-parts : goal.returns-in-Some-clause-parts
returns-in-Some-clause-parts c =
    subst (λ (o : Option RowShown). OnOk c.push_orchestrator_row.result (map part_change c.push_orchestrator_row.new.parts.items ≡ map part_change c.args.parts.now.items ++ orchestrator_row_change c.args.place o)) (sym (some c))
    c.push_orchestrator_row.ensures.pushed

pub returns-in-Some-clause-fit : goal.returns-in-Some-clause-fit
returns-in-Some-clause-fit c =
    subst (λ (o : Option RowShown). OnOk c.push_orchestrator_row.result (IfSome o (IsOrchestratorRow present))) (sym (some c)) c.push_orchestrator_row.ensures.fits

pub returns-in-None-clause-parts : goal.returns-in-None-clause-parts
returns-in-None-clause-parts c =
    let parts = map part_change c.args.parts.now.items in
    subst (λ (o : Option RowShown). parts ≡ parts ++ orchestrator_row_change c.args.place o) (sym (none c)) (sym (append-nil parts))

pub returns-in-None-clause-fit : goal.returns-in-None-clause-fit
returns-in-None-clause-fit c = subst (λ (o : Option RowShown). IfSome o (IsOrchestratorRow present)) (sym (none c)) tt
