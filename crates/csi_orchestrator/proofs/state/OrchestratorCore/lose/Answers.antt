-- The session begins without the node, and then its rows are as they are after a loss.
use Rattle.csi_orchestrator.proofs.Words.{◌∙◌, List, ℕ, Ok, map, not, rules, same_text, rows_of, row_shown}
use Rattle.csi_orchestrator.proofs.Lemmas.{filter_same}
use Rattle.csi_orchestrator.proofs.BeginningsTold.{loss-told, lost-parts}
use Rattle.csi_orchestrator.proofs.state.OrchestratorCore.lose.Goals as goal

pub returns-clause-told : goal.returns-clause-told
returns-clause-told c =
    let old = c.args.self.now in
    let new = record c.begin.new.self { catalog = c.lose.new.self } in
    let kept = filter_same _ (λ (other : List ℕ). not (same_text other c.args.node.now)) _ (λ x b f called. search rules) _ _ c.retain.ensures.filtered in
    loss-told (Ok tt) old new c.args.node.now (
      c.in_ok-session.ensures.ok,
      lost-parts old new c.args.node.now c.in_ok-session.session (map row_shown (rows_of c.begin.new.self.catalog)) c.in_ok-session.ensures.next
          ((λ i. (c.begin.ensures.nodes i).items) ∙ kept) c.begin.ensures.last c.begin.ensures.rows c.lose.ensures.rows,
    ) tt tt

pub returns-clause-filed : goal.returns-clause-filed
returns-clause-filed c = record { indexed = c.lose.ensures.indexed; known = c.lose.ensures.known c.begin.new.self.last.call c.begin.ensures.filed.known }
