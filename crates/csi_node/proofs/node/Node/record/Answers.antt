-- Rows of which each is a copy keep the rules, and show what the rows show.
use Rattle.std.proofs.Common.{◌∙◌, ℕ, ap, sym, subst}
use Rattle.csi_node.specs.Model.Record.{parts}
use Rattle.csi_node.specs.Public.Record.{AreSoundRows, IsCurrent}
use Rattle.csi_node.proofs.CopiedRows.{each-copied, shows-copy}
use Rattle.csi_node.proofs.node.Node.record.Goals as goal

pub invariant_of-result : goal.invariant_of-result
invariant_of-result c =
    let same = each-copied c.rows.result.now c.in_ok-rows.rows.items c.in_ok-rows.ensures.items ∙ ap parts c.rows.ensures.value in (
      subst AreSoundRows (sym same) c.rows.ensures.rules,
      subst (λ (session : ℕ). IsCurrent session (parts c.in_ok-rows.rows.items)) (sym c.session.ensures) (subst (IsCurrent _) (sym same) c.rows.ensures.current),
    )

pub returns-clause-rows : goal.returns-clause-rows
returns-clause-rows c = each-copied c.rows.result.now c.in_ok-rows.rows.items c.in_ok-rows.ensures.items ∙ ap parts c.rows.ensures.value

pub returns-clause-shows : goal.returns-clause-shows
returns-clause-shows c = λ state shows.
    shows-copy c.args.self.now _ state shows (each-copied c.rows.result.now c.in_ok-rows.rows.items c.in_ok-rows.ensures.items ∙ ap parts c.rows.ensures.value) c.session.ensures
