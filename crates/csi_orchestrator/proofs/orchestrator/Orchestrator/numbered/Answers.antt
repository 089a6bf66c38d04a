-- No rows, and no call is noted; what is shown agrees with the history of an orchestrator that did nothing.
use Rattle.csi_orchestrator.proofs.Words.{List, map, refl, sym, subst, arith, Row, history_after, AreSoundParts, Begins}
use Rattle.csi_orchestrator.proofs.Words.{OrchestratorParts, row_shown}
use Rattle.csi_orchestrator.proofs.orchestrator.Orchestrator.numbered.Goals as goal

pub invariant_of-result : goal.invariant_of-result
invariant_of-result c =
    let none : List Row → OrchestratorParts = λ rows. record { nodes = c.args.nodes.items; last = c.args.last; rows = map row_shown rows } in (
      subst (λ rows. AreSoundParts (none rows)) (sym c.new.ensures.rows) (record {
        sound = record { names = tt; each = tt };
        steady = tt;
        within = record { rows = omega arith; entries = tt };
        told =
            record {
              history = history_after c.args.nodes.items c.args.last;
              reached = Begins c.args.nodes.items c.args.last;
              form = tt;
              agrees = record { same_nodes = refl; same_last = refl; same_rows = λ name. refl; same_marks = λ thing. refl; same_ids = λ name. refl; same_goals = λ name. refl; same_arguments = λ name. refl; same_holdings = λ name node may. refl; same_open_calls = λ name. refl; same_counts = λ name. refl };
            };
      }),
      record { indexed = c.new.ensures.indexed; known = c.new.ensures.known c.args.last.call },
    )
