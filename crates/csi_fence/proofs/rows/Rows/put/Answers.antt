use Rattle.std.proofs.Common.{◌≡◌, ◌∙◌, ap, subst, sym, ◌<◌, length, arith, refl}
use Rattle.std.specs.Prelude.{true, is_ok, vec_capacity, vec_len}
use Rattle.std.specs.List.{insert}
use Rattle.csi_fence.proofs.PlacedRows.{WasPut, was-put}
use Rattle.csi_fence.proofs.StayingRows.{counts-one, counts-none}
use Rattle.csi_fence.proofs.rows.Rows.put.Goals as goal
use Rattle.csi_fence.proofs.rows.Rows.put.Goals.{in-Ok, in-Ok-2, then-is_empty, else-is_empty}

-- the row was put in
put : (g : _) (c : goal.After-unwrap g) → WasPut g.T.Table.plan.id g.T.Table.shown c.args.self.now.rows.items c.insert.new.self.items c.match-place_of.place c.args.row
put g c =
    let rows : c.if-is_empty.self.rows ≡ c.args.self.now.rows = elim c.if-is_empty.branch [ then-is_empty w ↦ ap (λ self. self.rows) w.self-is | else-is_empty w ↦ ap (λ self. self.rows) w.self-is ] in
    let many : length c.args.self.now.rows.items ≡ vec_len c.args.self.now.rows = ap length (sym c.as_slice.ensures.value) ∙ c.as_slice.ensures.len in
    let few : vec_len c.if-is_empty.self.rows < vec_capacity c.if-is_empty.self.rows = subst (λ v. vec_len v < vec_capacity v) (sym rows) (subst (λ n. n < vec_capacity c.args.self.now.rows) many c.requires.room) in
    let done : is_ok c.insert.result ≡ true = c.insert.ensures.succeeds few in
    let after : c.insert.new.self.items ≡ insert c.args.self.now.rows.items c.match-place_of.place c.args.row = c.insert.ensures.items ∙ rw (done, rows) refl in
    let found = rw c.as_slice.ensures.value at c.place_of.ensures.found in
    let absent = rw c.as_slice.ensures.value at c.place_of.ensures.absent in
    let by = was-put g.T.Table.plan.id g.T.Table.shown c.args.self.now.rows.items c.insert.new.self.items c.match-place_of.place in
    elim c.match-place_of.branch [
      | in-Ok w ↦ by w.in-Ok.place c.args.row c.id.result c.place_of.result c.requires.rising c.requires.new c.id.ensures found absent w.in-Ok.is w.place-is after
      | in-Ok-2 w ↦ by w.in-Ok.place c.args.row c.id.result c.place_of.result c.requires.rising c.requires.new c.id.ensures found absent w.in-Ok.is w.place-is after
    ]

pub returns-clause-rows : goal.returns-clause-rows
returns-clause-rows g c = (put g c).is_put

pub returns-clause-place : goal.returns-clause-place
returns-clause-place g c = (put g c).is_there

pub returns-clause-empty : goal.returns-clause-empty
returns-clause-empty g c =
    let count = (put g c).counted g.T.Table.plan.is_empty in
    elim c.if-is_empty.branch [
      | then-is_empty w ↦ rw w.self-is (omega (arith, c.requires.empty, count, counts-one (sym c.is_empty.ensures ∙ w.if-is_empty.true)))
      | else-is_empty w ↦ rw w.self-is (omega (arith, c.requires.empty, count, counts-none (sym c.is_empty.ensures ∙ w.if-is_empty.false)))
    ]
