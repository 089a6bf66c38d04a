use Rattle.std.proofs.Common.{◌<◌, ◌^◌, ◌∷◌, sym, subst, map, arith, rules}
use Rattle.std.specs.Option.{option_map}
use Rattle.std.proofs.lemmas.Result.{on_ok_weaker, IfErr-weaker}
use Rattle.sqlite.specs.Held.{state}
use Rattle.byteorder.specs.Endian.{big_bytes}
use Rattle.csi_sqlite.specs.Public.Rows.{HasRows, without}
use Rattle.csi_stores.specs.Public.Part.{StoredPart, value_bytes}
use Rattle.csi_stores.specs.Public.Content.{changed_to}
use Rattle.csi_sqlite.specs.Public.Statements.{PutsRow, RefusesToPut}
use Rattle.csi_sqlite.specs.Public.Refusals.{MakesChange, RefusesChange}
use Rattle.csi_sqlite.specs.Public.Tables.{keyed_row, HasParts}
use Rattle.csi_sqlite.proofs.Tabled.{put_has, removed_has}
use Rattle.csi_sqlite.proofs.sqlite_keep.changing.change.Goals as goal

pub returns-in-Some : goal.returns-in-Some
returns-in-Some g c =
    record {
      same_reference = search rules;
      changed = λ clean content has.
          let new = state g.S.Store c.put_row.new.transaction.conn.now in
          let part : StoredPart = record { key = c.args.part.now.key; value = c.in-Some.value.items } in
          let fits : part.key < 2 ^ 64 = omega arith in
          on_ok_weaker c.put_row.result
          (λ h. subst (λ v. HasParts new (changed_to part.key (option_map value_bytes v) content)) (sym c.in-Some.is)
          (put_has new part content fits has.rising has.keys
          (subst (λ v. HasRows new (record { key = big_bytes 8 part.key; value = v } ∷ without (big_bytes 8 part.key) (map keyed_row content))) c.deref.ensures.value
          (subst (λ k. HasRows new (record { key = k; value = c.deref.result.now } ∷ without k (map keyed_row content))) c.to_be_bytes-key.ensures h))))
          (c.put_row.ensures.changed clean (map keyed_row content) has.rows);
      ran = λ clean inside.
          let old = c.args.transaction.now.conn.now in
          let new = c.put_row.new.transaction.conn.now in
          let key = c.args.part.now.key in
          on_ok_weaker c.put_row.result
          (λ h. subst (λ v. MakesChange g.S.Store key (option_map value_bytes v) old new) (sym c.in-Some.is)
          (subst (λ v. PutsRow g.S.Store (big_bytes 8 key) v old new) c.deref.ensures.value (subst (λ k. PutsRow g.S.Store k c.deref.result.now old new) c.to_be_bytes-key.ensures h)))
          (c.put_row.ensures.ran clean inside);
      refused = λ clean inside.
          let old = c.args.transaction.now.conn.now in
          let new = c.put_row.new.transaction.conn.now in
          let key = c.args.part.now.key in
          IfErr-weaker c.put_row.result _ _
          (λ error h. subst (λ v. RefusesChange g.S.Store key (option_map value_bytes v) old new error) (sym c.in-Some.is)
          (subst (λ v. RefusesToPut g.S.Store (big_bytes 8 key) v old new error) c.deref.ensures.value (subst (λ k. RefusesToPut g.S.Store k c.deref.result.now old new error) c.to_be_bytes-key.ensures h)))
          (c.put_row.ensures.refused clean inside);
      survives = search rules;
    }

pub returns-in-None : goal.returns-in-None
returns-in-None g c =
    record {
      same_reference = search rules;
      changed = λ clean content has.
          let new = state g.S.Store c.remove_row.new.transaction.conn.now in
          let key = c.args.part.now.key in
          let fits : key < 2 ^ 64 = omega arith in
          on_ok_weaker c.remove_row.result
          (λ h. subst (λ v. HasParts new (changed_to key (option_map value_bytes v) content)) (sym c.in-None.is) (removed_has new key content fits has.rising has.keys
          (subst (λ k. HasRows new (without k (map keyed_row content))) c.to_be_bytes-key.ensures h)))
          (c.remove_row.ensures.changed clean (map keyed_row content) has.rows);
      ran = search rules;
      refused = search rules;
      survives = search rules;
    }
