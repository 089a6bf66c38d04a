use Rattle.std.proofs.Common.{inl, inr, rules}
use Rattle.std.proofs.lemmas.Bool.{cases_Bool}
use Rattle.sqlite.specs.Held.{state}
use Rattle.csi_sqlite.proofs.PuttingRow.{changes, some_or_none}
use Rattle.csi_sqlite.proofs.rows.change_row.Goals as goal

pub returns : goal.returns
returns g c =
    record {
      same_reference = search rules;
      changed = λ clean rows has.
          let old = c.args.transaction.now.conn.now in
          elim (cases_Bool old.in_transaction) [
            | inl inside ↦ changes (state g.S.Store old) (state g.S.Store c.execute.new.self.conn.now) c.args.key.now c.args.value.now rows c.in_ok-count.count has
                (rw (c.params-to_sql.ensures, c.params-to_sql-2.ensures) at (c.in_ok-count.ensures.runs clean inside)).0
            | inr outside ↦ absurd (let ended = (c.in_ok-count.ensures.ended outside).0 in cc)
          ];
      ran = λ clean inside.
          some_or_none c.args.key.now c.args.value.now c.in_ok-count.count (state g.S.Store c.args.transaction.now.conn.now) (state g.S.Store c.execute.new.self.conn.now)
          (rw (c.params-to_sql.ensures, c.params-to_sql-2.ensures) at (c.in_ok-count.ensures.runs clean inside));
      refused = search rules;
      survives = search rules;
    }
