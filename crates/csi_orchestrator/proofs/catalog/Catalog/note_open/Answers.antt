-- The row that stands there.
use Rattle.csi_orchestrator.proofs.Words.{sym, ◌∙◌, subst, refl, Option, OpenCall, rows_of, IsNotedWith}
use Rattle.csi_orchestrator.proofs.NotedCalls.{held-ok, grown, open-there}
use Rattle.csi_orchestrator.proofs.catalog.Catalog.note_open.Goals as goal

pub returns-in-Some-clause-noted : goal.returns-in-Some-clause-noted
returns-in-Some-clause-noted c = λ row at.
    let ok = c.insert.ensures.succeeds c.requires.spare in
    let old = c.args.self.now in
    subst (λ (o : Option OpenCall). IsNotedWith c.args.index o old (record { rows = old.rows; calls = c.insert.new.self }))
    (sym c.in-Some.is ∙ open-there (rows_of old) c.args.index c.index.result.now row c.index.ensures at)
    (held-ok c.insert.result ok c.insert.ensures.updates, c.insert.ensures.spare, grown c.insert.result _ _ _ ok c.insert.ensures.old c.insert.ensures.len)

pub returns-in_default-clause-noted : goal.returns-in_default-clause-noted
returns-in_default-clause-noted c = λ row at.
    let old = c.args.self.now in
    subst (λ (o : Option OpenCall). IsNotedWith c.args.index o old old)
    (sym c.in_default.is ∙ open-there (rows_of old) c.args.index c.index.result.now row c.index.ensures at) refl
