use Rattle.std.proofs.Common.{◌≡◌, ◌∙◌, map, ap, subst, sym, arith, rules, refl}
use Rattle.std.specs.Prelude.{count_by, filter}
use Rattle.std.proofs.lemmas.Fn.{filter_same}
use Rattle.csi_types.proofs.Filters.{filter-of_map}
use Rattle.csi_fence.specs.Public.Rows.{stays_in}
use Rattle.csi_fence.proofs.StayingRows.{count-staying}
use Rattle.csi_fence.proofs.rows.Rows.forget.Goals as goal

pub overflow_sub-self : goal.overflow_sub-self
overflow_sub-self g c = omega (arith, c.requires.forgettable, c.requires.empty, count-staying g.T.Table.plan c.args.self.now.session (map g.T.Table.shown c.args.self.now.rows.items))

pub returns : goal.returns
returns g c =
    let shown = g.T.Table.shown in
    let stays = stays_in g.T.Table.plan c.args.self.now.session in
    let stayed : map shown c.retain.new.self.items ≡ filter stays (map shown c.args.self.now.rows.items) =
    ap (map shown) (filter_same _ (λ row. stays (shown row)) _ (λ x b f called. search rules) _ _ c.retain.ensures.filtered) ∙ sym (filter-of_map stays shown c.args.self.now.rows.items) in
    let kept = ap (count_by g.T.Table.plan.is_empty) stayed in
    record {
      session = refl;
      rows = stayed;
      room = search rules;
      empty = omega (arith, kept, c.requires.forgettable, c.requires.empty, count-staying g.T.Table.plan c.args.self.now.session (map shown c.args.self.now.rows.items));
      fixed = c.leave.ensures.fixed;
      own = c.leave.ensures.own;
      agrees = subst (g.T.Table.agrees c.leave.new.self) (sym stayed) (rw c.as_slice.ensures.value at c.leave.ensures.agrees);
      has_room = c.leave.ensures.room;
    }
