-- Whether a reply says of an open call that it is stale: the rows and the history tell the same.
use Rattle.csi_orchestrator.proofs.Words.{◌≡◌, ℕ, List, Bool, true, map, sym, ap, Option, Some, None, is_some}
use Rattle.csi_orchestrator.proofs.Words.{position, option_and_then, ◌&&◌, Kind, Party, Body, Number, Reply, Frame}
use Rattle.csi_orchestrator.proofs.Words.{Row, OrchestratorCore, History, IsWellFormed, RowShown, OrchestratorParts}
use Rattle.csi_orchestrator.proofs.Words.{open_in_row, Shows, rows_of, orchestrator_parts_shown, row_shown}
use Rattle.csi_orchestrator.proofs.Words.{AreSoundRows, is_issued_as, row_replied, arith}
use Rattle.csi_orchestrator.proofs.Lemmas.{false≢true, find-passes}
use Rattle.csi_types.specs.declared.frame.Body.TheVariants as bodies
use Rattle.csi_orchestrator.specs.Public.Stale.{is_stale_reply, is_stale_body, call_answered}
use Rattle.csi_orchestrator.specs.Private.Stale.{tells_stale}
use Rattle.csi_orchestrator.proofs.ChangedEntries.{find-place, find-none_placed}
use Rattle.csi_orchestrator.proofs.ListPlaces.{get-of_at}
use Rattle.csi_orchestrator.proofs.RepliedRows.{replied}
use Rattle.csi_orchestrator.proofs.RowsByName.{row-at}
use Rattle.csi_orchestrator.proofs.RowsUnderNames.{read-at}

-- a row is found where it has a place
found-placed : (rows : List Row) (number : Number) (party : Party) (kind : Kind) (place : Option ℕ)
    → position (λ (row : Row). is_issued_as number party kind (open_in_row (row_shown row))) rows ≡ place → is_some place ≡ is_some (row_replied (map row_shown rows) number party kind)
found-placed rows number party kind None e = sym (ap is_some (find-none_placed row_shown (λ (row : RowShown). is_issued_as number party kind (open_in_row row)) rows e))
found-placed rows number party kind (Some i) e =
    let there = row-at (λ (row : Row). is_issued_as number party kind (open_in_row (row_shown row))) rows i e in
    let stands = get-of_at rows i there.0 there.1.0 in
    sym (ap is_some (find-place row_shown (λ (row : RowShown). is_issued_as number party kind (open_in_row row)) rows i there.0 e (read-at rows i there.0 stands)))

-- what the place of a row says
pub rows-say : (core : OrchestratorCore) (frame : Frame) (number : Number) (party : Party) (kind : Kind) (reply : Reply) (place : Option ℕ) (found : Bool)
    → number ≡ frame.number → party ≡ frame.party → frame.body ≡ bodies.Reply kind reply
    → place ≡ position (λ (row : Row). is_issued_as number party kind (open_in_row (row_shown row))) (rows_of core.catalog)
    → found ≡ is_some place → is_stale_reply reply ≡ true → found ≡ tells_stale (orchestrator_parts_shown core) frame.number frame.party frame.body
rows-say core frame number party kind reply place found numbers parties is at has stale = grind (arith, found-placed)

-- the open call of a row that is found
open-found : (number : Number) (party : Party) (kind : Kind) (rows : List RowShown) (o : Option RowShown) → row_replied rows number party kind ≡ o → is_some o ≡ is_some (option_and_then open_in_row o)
open-found number party kind rows o e = grind (arith, find-passes, false≢true)

-- and what the history says
pub history-says : (parts : OrchestratorParts) (history : History) (number : Number) (party : Party) (body : Body) → IsWellFormed history → AreSoundRows parts.rows → Shows parts history
    → tells_stale parts number party body ≡ (is_stale_body body && is_some (call_answered history number party body))
history-says parts history number party body form kept agrees = grind (arith, open-found, replied)
