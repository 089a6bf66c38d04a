use Rattle.std.proofs.Common.{inr, subst, arith, rules}
use Rattle.std.proofs.lemmas.Result.{on_ok_weaker, IfErr-weaker}
use Rattle.sqlite.specs.Held.{state}
use Rattle.sqlite.specs.State.{HasCleanDisk}
use Rattle.csi_sqlite.specs.Public.Statements.{Changes, FindsNone}
use Rattle.csi_sqlite.specs.Private.Changing.{ChangesOrNot}
use Rattle.csi_sqlite.proofs.rows.put_row.Goals as goal

pub returns : goal.returns
returns g c =
    record {
      same_reference = search rules;
      changed = search rules;
      ran = λ clean inside.
          let old = c.args.transaction.now.conn.now in
          let mid = c.change_row.new.transaction.conn.now in
          let early : HasCleanDisk (state g.S.Store mid) = let rises = c.insert_row.ensures.survives.clean in omega (arith, rises, clean) in
          let none : Changes c.args.key.now c.args.value.now 0 (state g.S.Store old) (state g.S.Store mid) =
          subst (λ b. ChangesOrNot b c.args.key.now c.args.value.now (state g.S.Store old) (state g.S.Store mid)) c.if-branch.false (c.in_ok-change_row.ensures.ran early inside) in
          let found : FindsNone g.S.Store c.args.key.now c.args.value.now old mid = record { changes = none; survives = c.change_row.ensures.survives } in
          on_ok_weaker c.insert_row.result (λ made. inr (mid, found, made)) (c.insert_row.ensures.ran clean none.1.mode);
      refused = λ clean inside.
          let old = c.args.transaction.now.conn.now in
          let mid = c.change_row.new.transaction.conn.now in
          let early : HasCleanDisk (state g.S.Store mid) = let rises = c.insert_row.ensures.survives.clean in omega (arith, rises, clean) in
          let none : Changes c.args.key.now c.args.value.now 0 (state g.S.Store old) (state g.S.Store mid) =
          subst (λ b. ChangesOrNot b c.args.key.now c.args.value.now (state g.S.Store old) (state g.S.Store mid)) c.if-branch.false (c.in_ok-change_row.ensures.ran early inside) in
          let found : FindsNone g.S.Store c.args.key.now c.args.value.now old mid = record { changes = none; survives = c.change_row.ensures.survives } in
          IfErr-weaker c.insert_row.result _ _ (λ error refuses. inr (mid, found, refuses)) (c.insert_row.ensures.refused clean none.1.mode);
      survives = search rules;
    }
