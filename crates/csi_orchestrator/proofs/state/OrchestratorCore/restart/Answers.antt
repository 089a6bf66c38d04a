-- The session begins with the new nodes.
use Rattle.csi_orchestrator.proofs.Words.{◌≡◌, List, ℕ, Ok, subst, map, None, Row, restart_refusal, row_shown}
use Rattle.csi_orchestrator.proofs.BeginningsTold.{restart-told, restarted-parts}
use Rattle.csi_orchestrator.proofs.state.OrchestratorCore.restart.Goals as goal

pub returns-in-Ok-clause-told : goal.returns-in-Ok-clause-told
returns-in-Ok-clause-told c =
    let old = c.args.self.now in
    let by-old = subst (λ (nodes : List (List ℕ)). restart_refusal old.last.session nodes c.as_slice-2.result.now (map row_shown c.rows.result.now) ≡ None) c.as_slice.ensures.value c.in-Ok.ensures.ok in
    let by-new = subst (λ (nodes : List (List ℕ)). restart_refusal old.last.session old.nodes.items nodes (map row_shown c.rows.result.now) ≡ None) c.as_slice-2.ensures.value by-old in
    let by-rows = subst (λ (rows : List Row). restart_refusal old.last.session old.nodes.items c.args.nodes.items (map row_shown rows) ≡ None) c.rows.ensures by-new in
    restart-told (Ok tt) old c.begin.new.self c.args.nodes.items
    (by-rows, restarted-parts old c.begin.new.self c.args.nodes.items c.in-Ok.session c.in-Ok.ensures.next (λ i. (c.begin.ensures.nodes i).items) c.begin.ensures.last c.begin.ensures.rows) tt tt
