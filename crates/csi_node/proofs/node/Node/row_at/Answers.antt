-- Each row keeps the rules of a row.
use Rattle.std.proofs.Common.{◌≡◌, ℕ, ◌<◌, List, length, get_or, true, Option, Some, None, IfSome, is_some, ltb, Bor, sym, subst, arith}
use Rattle.std.specs.Option.{option_copied}
use Rattle.std.proofs.lemmas.Bool.Decides.{nat_tests}
use Rattle.csi_fence.proofs.RowsThere.{all-at, shown-at}
use Rattle.csi_node.specs.declared.row.NodeRow.{NodeRow}
use Rattle.csi_node.specs.Model.OneRow.{node_row_shown}
use Rattle.csi_node.specs.Public.OneRow.{IsSoundRow}
use Rattle.csi_node.specs.Model.Record.{parts}
use Rattle.csi_node.specs.Public.Record.{AreSoundRows}
use Rattle.csi_node.proofs.node.Node.row_at.Goals as goal

-- so does the one at a place
sound-got : (rows : List NodeRow) (place : ℕ) (found : Option (Bor NodeRow)) → AreSoundRows (parts rows) → is_some found ≡ ltb place (length rows) → IfSome found (λ x. x.now ≡ get_or rows place x.now)
    → IfSome (option_copied found) (λ row. IsSoundRow (node_row_shown row))
sound-got rows place None rules some at = tt
sound-got rows place (Some x) rules some at =
    let tells : ltb place (length rows) ≡ true = sym some in
    let less : place < length rows = grind (arith, nat_tests) in
    all-at IsSoundRow (parts rows) place (node_row_shown x.now) rules.each (shown-at node_row_shown rows place x.now at less)

pub returns-clause-rules : goal.returns-clause-rules
returns-clause-rules c =
    sound-got c.rows.result.now c.args.place c.get.result (subst (λ (rows : List NodeRow). AreSoundRows (parts rows)) (sym c.rows.ensures.value) c.rows.ensures.rules) c.get.ensures.lookup.0 c.get.ensures.lookup.1
