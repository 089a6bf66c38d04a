-- Rows that are a record's have no first one that is refused; and what stays of them is of the session that is found.
use Rattle.std.proofs.Common.{◌∙◌, List, ap, sym, subst, None}
use Rattle.csi_node.specs.declared.row.NodeRow.{NodeRow}
use Rattle.csi_node.specs.Public.Judging.{KeepRules}
use Rattle.csi_node.specs.Model.Record.{parts}
use Rattle.csi_node.specs.Public.Record.{AreSoundRows}
use Rattle.csi_node.specs.Public.WithoutSession.{latest_session}
use Rattle.csi_node.proofs.FirstRefused.{not-both}
use Rattle.csi_node.proofs.LeftOut.{rules-found}
use Rattle.csi_node.proofs.record.NodeRecord.without_session.Goals as goal

pub invariant_of-result : goal.invariant_of-result
invariant_of-result c =
    rules-found c.args.rows.items c.forget.new.rows.items c.latest_session-session.result (c.latest_session-session.ensures ∙ ap latest_session c.as_slice-in-None.ensures.value) c.forget.ensures
    (subst (λ (l : List NodeRow). AreSoundRows (parts l)) c.as_slice.ensures.value c.in-None.ensures)

pub returns-in-None-clause-current : goal.returns-in-None-clause-current
returns-in-None-clause-current c =
    (rules-found c.args.rows.items c.forget.new.rows.items c.latest_session-session.result (c.latest_session-session.ensures ∙ ap latest_session c.as_slice-in-None.ensures.value) c.forget.ensures
    (subst (λ (l : List NodeRow). AreSoundRows (parts l)) c.as_slice.ensures.value c.in-None.ensures)).1

pub returns-in-Some-clause-accepted : goal.returns-in-Some-clause-accepted
returns-in-Some-clause-accepted c = λ rules.
    absurd (not-both None c.as_slice.result.now c.in-Some.place c.in-Some.ensures (subst (λ (rows : List NodeRow). KeepRules None (parts rows)) (sym c.as_slice.ensures.value) rules))
