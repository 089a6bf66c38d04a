use Rattle.std.proofs.Common.{◌≡◌, [], map, sym, subst, inl, inr, arith, rules}
use Rattle.std.proofs.lemmas.Grind.{common_steps}
use Rattle.sqlite.specs.Held.{state}
use Rattle.csi_stores.specs.Public.Content.{all_changed}
use Rattle.csi_stores.specs.Public.Part.{part_change}
use Rattle.csi_stores.specs.Public.Stores.{IsOnly}
use Rattle.csi_stores.specs.Public.Stores.Found.{Parts}
use Rattle.csi_sqlite.specs.Public.Kept.{sqlite_store}
use Rattle.csi_sqlite.proofs.FoundAgain.{one_stored, only_found, some_found}
use Rattle.csi_sqlite.proofs.sqlite_keep.SqliteKeepKeep.commit.Goals as goal

pub returns-then-is_empty-clause-keeps : goal.returns-then-is_empty-clause-keeps
returns-then-is_empty-clause-keeps g c =
    record {
      honest = search rules;
      done = λ clean content has.
          let now = c.args.self.now.connection in
          let faults = c.args.self.now.faults in
          let none : c.args.parts.now ≡ [] = grind (arith, common_steps) in
          let is_open = has.0.rows.is_open in
          subst (λ l. IsOnly (sqlite_store (state g.S.Store now) faults) (Parts (all_changed (map part_change l) content))) (sym none)
          (only_found (state g.S.Store now) faults (Parts content) has (g.met.S.Store.stays now.store is_open) (λ db may. g.met.S.Store.settled now.store db is_open may));
      refused = search rules;
      some = λ clean content only.
          let now = c.args.self.now.connection in
          let is_open = only.there.0.rows.is_open in
          some_found (state g.S.Store now) (state g.S.Store now) c.args.self.now.faults c.args.self.now.faults (Parts content) [] only.there (λ db may. g.met.S.Store.settled now.store db is_open may)
          (λ db may. inl may) (g.met.S.Store.survives now.store clean);
      room = search rules;
      no_more_room = search rules;
      faults = search rules;
      cause = search rules;
    }

pub returns-in-Ok-clause-keeps : goal.returns-in-Ok-clause-keeps
returns-in-Ok-clause-keeps g c =
    record {
      honest = search rules;
      done = λ clean content has.
          let now = c.change_at_once.new.connection in
          let made = c.in-Ok.ensures.done clean content has in
          let is_open = made.0.rows.is_open in
          only_found (state g.S.Store now) c.args.self.now.faults (Parts (all_changed (map part_change c.args.parts.now) content)) made (g.met.S.Store.stays now.store is_open) (λ db may. g.met.S.Store.settled now.store db is_open may);
      refused = search rules;
      some = λ clean content only.
          let old = c.args.self.now.connection in
          let now = c.change_at_once.new.connection in
          let is_open = only.there.0.rows.is_open in
          some_found (state g.S.Store old) (state g.S.Store now) c.args.self.now.faults c.args.self.now.faults (Parts content) (all_changed (map part_change c.args.parts.now) content) only.there
          (λ db may. g.met.S.Store.settled old.store db is_open may) (c.change_at_once.ensures.crash clean content only.there) (g.met.S.Store.survives now.store clean);
      room = search rules;
      no_more_room = search rules;
      faults = search rules;
      cause = search rules;
    }

pub returns-in-Err-clause-keeps : goal.returns-in-Err-clause-keeps
returns-in-Err-clause-keeps g c =
    record {
      honest = search rules;
      done = search rules;
      refused = λ clean content has other left.
          elim (c.change_at_once.ensures.crash clean content has left.db left.may) [
            | inl before ↦ inl (record { db = left.db; may = before; stored = left.stored })
            | inr made ↦ inr (one_stored left.db (Parts (all_changed (map part_change c.args.parts.now) content)) other made left.stored)
          ];
      some = λ clean content only.
          let old = c.args.self.now.connection in
          let now = c.change_at_once.new.connection in
          let is_open = only.there.0.rows.is_open in
          some_found (state g.S.Store old) (state g.S.Store now) c.args.self.now.faults c.refused.new.faults (Parts content) (all_changed (map part_change c.args.parts.now) content) only.there
          (λ db may. g.met.S.Store.settled old.store db is_open may) (c.change_at_once.ensures.crash clean content only.there) (g.met.S.Store.survives now.store clean);
      room = search rules;
      no_more_room = search rules;
      faults = search rules;
      cause = search rules;
    }
