-- What the statement that takes a row out does.
use Rattle.std.proofs.Common.{◌≡◌, ℕ, List, [], ◌∷◌, drop, filter, not, None, Ok, refl, ap, subst, ◌∙◌}
use Rattle.sqlite.specs.declared.types.Value.TheVariants.{Null, Blob}
use Rattle.sqlite.specs.Command.TheVariants.{Delete}
use Rattle.sqlite.specs.Edit.{edit_of}
use Rattle.sqlite.specs.Rowids.TheVariants.{Given}
use Rattle.sqlite_rules.specs.Calls.{ids_of}
use Rattle.sqlite.specs.Does.{Tally, Does}
use Rattle.sqlite.specs.Rows.{Written}
use Rattle.sqlite.specs.Tree.{Trees}
use Rattle.sqlite.specs.Listing.{understood}
use Rattle.sqlite.specs.Effect.{Database}
use Rattle.sqlite.specs.State.{State, mode_of, Executes}
use Rattle.sqlite.proofs.Callers.{statement_of, runs_as, one_step}
use Rattle.csi_sqlite.specs.Public.Declared.{parts_table, parts_schema}
use Rattle.csi_sqlite.specs.Public.Rows.{KeyedRow, HasRows, without}
use Rattle.csi_sqlite.proofs.TextMeanings.{remove_statement, remove_query, remove_is, remove_plain}
use Rattle.csi_sqlite.proofs.StoredRows.{has_key, taken_out, are_kept}
use Rattle.csi_sqlite.proofs.QueryAnswers.{removed_ids}
use Rattle.csi_sqlite.proofs.MakingTable.{went, same_value, now_has}

-- the statement that takes a row out leaves the rows of other keys
pub removes : (old new : State) (key : List ℕ) (rows : List KeyedRow) (count : ℕ) → HasRows old rows → Executes remove_statement (Blob key ∷ []) old new (Ok count) → HasRows new (without key rows)
unfolding parts_schema parts_table
removes old new key rows count h ran =
    let params = Blob key ∷ [] in
    let db = old.now.trees in
    let command = Delete 0 (record { lets = []; body = remove_query }) in
    let w = runs_as remove_statement params old new parts_schema h.declared command remove_is remove_plain count ran in
    let text = statement_of remove_statement (understood parts_schema remove_statement) in
    let done = went (subst (λ s. Does old.step_limit (mode_of old) params (record old.now { schema = s }) text None command (Ok (w.tally, new.now))) h.declared w.changed) in
    let now = ap (λ (p : Tally × Database). p.1) (same_value (went (went done.2).2).2) in
    let read = went done.1 in
    let wrote = went read.2 in
    let trees : done.0.trees ≡ wrote.0 = ap (λ (it : Written). it.trees) (same_value wrote.2) in
    let applied = one_step parts_schema _ db wrote.0 (edit_of db parts_table (ids_of read.0) Given 0 []) refl wrote.1 in
    let left : wrote.0 0 ≡ filter (λ r. not (has_key key (drop 1 r))) (db 0) =
    applied.rows ∙ taken_out (db 0) h.stores.stored.ordered h.stores.stored.numbered (λ r. has_key key (drop 1 r)) (ids_of read.0) (removed_ids db key read.0 (read.1.answer Null)) in
    now_has new (without key rows) _ w.shown.is_open w.sound (ap (λ (d : Database). d.schema) now) (ap (λ (d : Database). d.trees 0) now ∙ ap (λ (t : Trees). t 0) trees ∙ left) (are_kept key (db 0) rows h.stores.stored)
