-- Rows that are a record's have no first one that is refused.
use Rattle.std.proofs.Common.{List, sym, subst, Some}
use Rattle.csi_node.specs.declared.row.NodeRow.{NodeRow}
use Rattle.csi_node.specs.Public.Judging.{KeepRules}
use Rattle.csi_node.specs.Model.Record.{parts}
use Rattle.csi_node.proofs.FirstRefused.{not-both}
use Rattle.csi_node.proofs.record.NodeRecord.try_new.Goals as goal

pub returns-in-Some-clause-accepted : goal.returns-in-Some-clause-accepted
returns-in-Some-clause-accepted c = λ rules current.
    absurd (not-both (Some c.args.session) c.as_slice.result.now c.in-Some.place c.in-Some.ensures
    (subst (λ (rows : List NodeRow). KeepRules (Some c.args.session) (parts rows)) (sym c.as_slice.ensures.value) (rules, current)))
