-- One more at the end, or none.
use Rattle.csi_orchestrator.proofs.Words.{◌++◌, ◌∷◌, [], ℕ, List, ◌∙◌, ap, refl, nat_eq, pointwise, insert_entry}
use Rattle.csi_orchestrator.proofs.Words.{values, Row}
use Rattle.csi_orchestrator.proofs.RowsUnderNames.{put-last, rows-added, ready-added}
use Rattle.csi_orchestrator.proofs.catalog.Catalog.add.Goals as goal

pub returns-clause-added : goal.returns-clause-added
returns-clause-added c =
    let old = c.args.self.now in
    let made = c.prepare.new.self in
    rows-added made (record { rows = c.insert.new.self; calls = made.calls }) c.args.row
    (c.in_ok-insert.ensures.entries
    ∙ ap (λ (n : List ℕ). insert_entry (pointwise nat_eq) made.rows.entries n c.args.row) c.in-Ok.ensures.name
    ∙ put-last old made c.args.row c.prepare.ensures.rows c.prepare.ensures.indexed c.requires.new_name)
    ∙ ap (λ (l : List Row). l ++ c.args.row ∷ []) (ap values c.prepare.ensures.rows)

pub returns-clause-ready : goal.returns-clause-ready
returns-clause-ready c = λ next is.
    let old = c.args.self.now in
    let made = c.prepare.new.self in
    ready-added old made (record { rows = c.insert.new.self; calls = made.calls }) c.args.row next c.prepare.ensures.indexed c.prepare.ensures.rows c.prepare.ensures.kept c.in-Ok.ensures.room
    (c.in_ok-insert.ensures.entries
    ∙ ap (λ (n : List ℕ). insert_entry (pointwise nat_eq) made.rows.entries n c.args.row) c.in-Ok.ensures.name
    ∙ put-last old made c.args.row c.prepare.ensures.rows c.prepare.ensures.indexed c.requires.new_name) refl is
