-- Why the rows stay as an orchestrator's type keeps them.
use Rattle.csi_orchestrator.proofs.Words.{◌≡◌, List, Bool, map, subst, find, false, not, Some, Result, Ok, Err}
use Rattle.csi_orchestrator.proofs.Words.{same_text, OrchFault, Input, RowShown, OrchestratorParts, is_row_forgotten}
use Rattle.csi_orchestrator.proofs.Words.{remembered, MovedRows, moved_rows, put, IsSoundRow, AreSoundRows}
use Rattle.csi_orchestrator.proofs.Words.{RowsStaySound, arith}
use Rattle.csi_orchestrator.proofs.Lemmas.{each_of, among-find, each-map, each-filter, two-filter}
use Rattle.csi_orchestrator.proofs.EntryRules.{each-put, apart-put, apart-map}
use Rattle.csi_orchestrator.proofs.RowRules.{kept-closed}
use Rattle.csi_orchestrator.proofs.RowsLost.{lost-name, lost-sound}
use Rattle.csi_orchestrator.proofs.RowsMoved.{IsRowMove, row-moved}
use Rattle.csi_orchestrator.proofs.StepsSound.{SoundRowAfter, sends-due-kept, step-kept, new-may}

-- what is told, if anything, is kept so
abbrev SoundAfter : Result MovedRows OrchFault → Type 0
SoundAfter (Ok moved_rows) = AreSoundRows moved_rows.parts.rows
SoundAfter (Err fault) = Unit {0}

-- the row that is found is kept so
pub found-kept : (p : RowShown → Bool) (rows : List RowShown) (row : RowShown) → AreSoundRows rows → find p rows ≡ Some row → IsSoundRow row
found-kept p rows row kept e = each_of IsSoundRow rows row kept.each (among-find p rows row e)

-- kept rows stay so where a kept row is put in
put-sound : (row : RowShown) (rows : List RowShown) → AreSoundRows rows → IsSoundRow row → AreSoundRows (put row rows)
put-sound row rows kept own = record { names = apart-put (λ (r : RowShown). r.name) row rows kept.names; each = each-put IsSoundRow (λ (r : RowShown). r.name) row rows own kept.each }

-- and where a session begins: some rows are forgotten, and the others changed
begun-sound : (change : RowShown → RowShown) (rows : List RowShown) → ((row : RowShown) → (change row).name ≡ row.name) → ((row : RowShown) → IsSoundRow row → IsSoundRow (change row)) → AreSoundRows rows → AreSoundRows (map change (remembered rows))
begun-sound change rows named keeps kept =
    record {
      names = apart-map (λ (r : RowShown). r.name) change (remembered rows) named (two-filter (λ (a b : RowShown). same_text a.name b.name ≡ false) (λ (r : RowShown). not (is_row_forgotten r)) rows kept.names);
      each = each-map IsSoundRow IsSoundRow change (remembered rows) keeps (each-filter IsSoundRow (λ (r : RowShown). not (is_row_forgotten r)) rows kept.each);
    }

-- whatever comes
stays-sound : (parts : OrchestratorParts) (input : Input) (result : Result MovedRows OrchFault) → AreSoundRows parts.rows → IsRowMove parts input result → SoundAfter result
stays-sound parts input result kept h = grind (arith, put-sound, SoundRowAfter, step-kept, each_of, sends-due-kept, new-may, begun-sound, kept-closed, lost-name, lost-sound)

-- so they do after each input
pub rows-stay-sound : RowsStaySound
rows-stay-sound parts input moved_rows kept e = stays-sound parts input (Ok moved_rows) kept (subst (IsRowMove parts input) e (row-moved parts input kept))
