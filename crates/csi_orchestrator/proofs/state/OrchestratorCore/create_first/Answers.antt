-- The new row comes last.
use Rattle.csi_orchestrator.proofs.Words.{◌≡◌, ℕ, List, length, map, sym, ◌∙◌, ap, subst, Option, Ok, Number, Row}
use Rattle.csi_orchestrator.proofs.Words.{Outgoing, rows_of, IsReady, outgoing_call_number, next_number}
use Rattle.csi_orchestrator.proofs.Words.{orchestrator_parts_shown, MovedRow, outgoing_by, sent_or_dropped, row_moved}
use Rattle.csi_orchestrator.proofs.Words.{row_sends_due, new_row, last_after, RowShown, OrchestratorParts, row_shown}
use Rattle.csi_orchestrator.proofs.Words.{due_in}
use Rattle.csi_orchestrator.proofs.Lemmas.{length-map}
use Rattle.csi_orchestrator.proofs.RowsByName.{first-told}
use Rattle.csi_orchestrator.proofs.OpenCalls.{next-created}
use Rattle.csi_orchestrator.proofs.state.OrchestratorCore.create_first.Goals as goal

-- the row's due call is sent, by what is found of the one that was made
sends-due : (last : Number) (row made sent : RowShown) (next : Option Outgoing) → made ≡ row → outgoing_by (due_in made) (next_number last) ≡ Ok next
    → sent ≡ sent_or_dropped next made
    → row_sends_due last row ≡ Ok (record { outgoing = next; row = sent })
sends-due last row made sent next same found then =
    ap (row_moved row) (ap (λ d. outgoing_by d (next_number last)) (ap due_in (sym same)) ∙ found)
    ∙ ap (λ r. let moved_row : MovedRow = record { outgoing = next; row = r } in Ok moved_row) (ap (sent_or_dropped next) (sym same) ∙ sym then)

pub issue-requires-clause-ready : goal.issue-requires-clause-ready
issue-requires-clause-ready c =
    let core = c.args.self.now in
    let next = c.in-Ok.next in
    let sent = c.note_sent_or_drop.new.row in
    let on = sends-due core.last (new_row c.args.name c.args.arguments) (row_shown c.new_row-row.result) (row_shown sent) next
    c.new_row-row.ensures c.in-Ok.ensures.ok c.note_sent_or_drop.ensures in
    let long : length (rows_of core.catalog) ≡ c.len-index.result = length-map core.catalog.rows.entries (λ (e : List ℕ × Row). e.1) ∙ sym c.len-index.ensures.len in
    subst (λ (n : ℕ). IsReady c.add.new.self n (outgoing_call_number next)) long
    (c.in-Ok-add.ensures.ready (outgoing_call_number next) (next-created core.catalog core.last c.args.name c.args.arguments sent next c.requires.filed.known on).0)

pub returns-in-Ok-add-clause-ok : goal.returns-in-Ok-add-clause-ok
returns-in-Ok-add-clause-ok c =
    let core = c.args.self.now in
    let next = c.in-Ok.next in
    let sent = c.note_sent_or_drop.new.row in
    let on = sends-due core.last (new_row c.args.name c.args.arguments) (row_shown c.new_row-row.result) (row_shown sent) next
    c.new_row-row.ensures c.in-Ok.ensures.ok c.note_sent_or_drop.ensures in
    let made = next-created core.catalog core.last c.args.name c.args.arguments sent next c.requires.filed.known on in
    first-told core.nodes.items core.last (rows_of core.catalog) c.args.name c.args.arguments sent next c.issue.result (orchestrator_parts_shown c.issue.new.self)
    c.requires.new_name c.in-Ok.ensures.fits on made.1 c.issue.ensures.frame
    (c.issue.ensures.parts
    ∙ ap (λ (rows : List Row). let parts : OrchestratorParts = record { nodes = core.nodes.items; last = last_after core.last next; rows = map row_shown rows } in parts)
    c.in-Ok-add.ensures.added)
