use Rattle.std.proofs.Common.{inl, inr, rules}
use Rattle.std.proofs.lemmas.Bool.{cases_Bool}
use Rattle.sqlite.specs.Held.{state}
use Rattle.csi_sqlite.proofs.PuttingRow.{inserts}
use Rattle.csi_sqlite.proofs.rows.insert_row.Goals as goal

pub returns : goal.returns
returns g c =
    record {
      same_reference = search rules;
      changed = λ clean rows has.
          let old = c.args.transaction.now.conn.now in
          elim (cases_Bool old.in_transaction) [
            | inl inside ↦ inserts (state g.S.Store old) (state g.S.Store c.execute.new.self.conn.now) c.args.key.now c.args.value.now rows c.in_ok-execute.field-0 has
                (rw (c.params-to_sql.ensures, c.params-to_sql-2.ensures) at (c.in_ok-execute.ensures.runs clean inside)).0
            | inr outside ↦ absurd (let ended = (c.in_ok-execute.ensures.ended outside).0 in cc)
          ];
      ran = λ clean inside. (c.in_ok-execute.field-0, rw (c.params-to_sql.ensures, c.params-to_sql-2.ensures) at (c.in_ok-execute.ensures.runs clean inside));
      refused = search rules;
      survives = search rules;
    }
