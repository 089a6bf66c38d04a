-- One more row, whose name none of the earlier ones has, without an open call.
use Rattle.csi_orchestrator.proofs.Words.{rules, ◌≡◌, ◌++◌, ◌∷◌, [], List, sym, ◌∙◌, ap, length, None, into_iter_items}
use Rattle.csi_orchestrator.proofs.Words.{Row, rows_of}
use Rattle.csi_orchestrator.proofs.Lemmas.{append_assoc}
use Rattle.csi_orchestrator.proofs.RowsOfRecord.{new-name, next-none, no-call}
use Rattle.csi_orchestrator.proofs.RowsUnderNames.{ready-none}
use Rattle.csi_orchestrator.proofs.catalog.Catalog.of_rows.Goals as goal

pub loop-row-init : goal.loop-row-init
loop-row-init c = (search rules, c.new-catalog.ensures.indexed, c.new-catalog.ensures.known 0, search rules)

pub add-requires-clause-new_name : goal.add-requires-clause-new_name
add-requires-clause-new_name c =
    let at = c.loop-row in
    let rows = rows_of at.catalog in
    let whole : rows ++ c.in-Some.row ∷ into_iter_items c.next.new.self ≡ c.args.rows.items = ap (λ (l : List Row). rows ++ l) (sym c.in-Some.ensures.steps.0) ∙ at.invariant.0 in
    new-name rows c.in-Some.row (into_iter_items c.next.new.self) c.args.rows.items whole c.requires.names

pub loop-row-preserved : goal.loop-row-preserved
loop-row-preserved c =
    let at = c.loop-row in
    let rows = rows_of at.catalog in
    let whole : rows ++ c.in-Some.row ∷ into_iter_items c.next.new.self ≡ c.args.rows.items = ap (λ (l : List Row). rows ++ l) (sym c.in-Some.ensures.steps.0) ∙ at.invariant.0 in
    let closed = no-call rows c.in-Some.row (into_iter_items c.next.new.self) c.args.rows.items whole c.requires.closed in (
      ap (λ (l : List Row). l ++ into_iter_items c.next.new.self) c.in_ok-add.ensures.added ∙ append_assoc rows (c.in-Some.row ∷ []) (into_iter_items c.next.new.self) ∙ whole,
      ready-none c.add.new.self (length rows) (c.in_ok-add.ensures.ready None (next-none at.catalog (c.in-Some.row).open_call closed)),
      λ call place e. at.invariant.2 call place (c.add.ensures.kept call place e),
      search rules,
    )
