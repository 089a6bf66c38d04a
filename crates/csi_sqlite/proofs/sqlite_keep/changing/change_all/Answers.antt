-- A change that is made stands before what is left to do, and one that is refused is the one of all.
use Rattle.std.proofs.Common.{◌≡◌, ◌+◌, ℕ, Err, List, ◌∷◌, map, drop, sym, ap, subst, ◌∙◌, inl, inr, add-one, arith, rules}
use Rattle.sqlite.specs.Held.{Held, state}
use Rattle.sqlite.specs.State.{HasCleanDisk}
use Rattle.csi_stores.specs.declared.part.Part.{Part}
use Rattle.csi_stores.specs.Public.Part.{part_change}
use Rattle.csi_stores.specs.Public.Content.{all_changed, changed_to}
use Rattle.csi_sqlite.specs.Public.Refusals.{IsUndone, RefusesOneOf}
use Rattle.csi_sqlite.proofs.Refusals.{still_inside, from_place, if_err}
use Rattle.csi_sqlite.proofs.sqlite_keep.changing.change_all.Goals as goal

pub returns-in_err-change : goal.returns-in_err-change
returns-in_err-change g c =
    record {
      same_reference = search rules;
      changed = search rules;
      ran = search rules;
      refused = λ clean inside.
          let parts = c.args.parts.now in
          let start = c.args.transaction.now.conn.now in
          let now = c.loop-part.transaction.conn.now in
          let left = c.change.new.transaction.conn.now in
          let error = c.in_err-change.field-0.0 in
          let early : HasCleanDisk (state g.S.Store now) = let rises = c.change.ensures.survives.clean in omega (arith, rises, clean) in
          let so_far = c.loop-part.invariant.3 early inside in
          let whole = from_place parts c.loop-part.part-index c.part-item.result c.loop-part-test.true c.part-item.is in
          let is : c.from_residual.result ≡ Err error = search rules in
          if_err (λ e. (after : Held _) → IsUndone g.S.Store left after → RefusesOneOf g.S.Store (map part_change parts) start after e) c.from_residual.result error is
          (λ after undone. so_far.1 after error (subst (λ (l : List Part). RefusesOneOf g.S.Store (map part_change l) now after error) (sym whole) (inl (left, c.in_err-change.ensures.refused clean so_far.0, undone))));
      survives = search rules;
    }

pub loop-part-preserved : goal.loop-part-preserved
loop-part-preserved g c =
    let parts = c.args.parts.now in
    let start = c.args.transaction.now.conn.now in
    let now = c.loop-part.transaction.conn.now in
    let next = c.change.new.transaction.conn.now in
    let part = c.part-item.result in
    let invariant = c.loop-part.invariant in
    let whole : drop c.loop-part.part-index parts ≡ part ∷ drop (c.loop-part.part-index + 1) parts =
    from_place parts c.loop-part.part-index part c.loop-part-test.true c.part-item.is ∙ ap (λ (n : ℕ). part ∷ drop n parts) (sym (add-one c.loop-part.part-index)) in
    let early = λ (clean : HasCleanDisk (state g.S.Store next)). (let rises = c.change.ensures.survives.clean in let none : HasCleanDisk (state g.S.Store now) = omega (arith, rises, clean) in none) in (
      c.change.ensures.same_reference ∙ invariant.0,
      search rules,
      λ clean content has.
          let before = invariant.2 (early clean) content has in
          let change = part_change part in (
            changed_to change.key change.value before.0,
            c.in_ok-change.ensures.changed clean before.0 before.1,
            sym (ap (λ (l : List Part). all_changed (map part_change l) before.0) whole) ∙ before.2,
          ),
      λ clean inside.
          let so_far = invariant.3 (early clean) inside in
          let change = part_change part in
          let made = c.in_ok-change.ensures.ran clean so_far.0 in (
            still_inside g.S.Store change.key change.value now next made,
            λ after error refuses. so_far.1 after error
                (subst (λ (l : List Part). RefusesOneOf g.S.Store (map part_change l) now after error) (sym whole) (inr (next, record { made = made; survives = c.change.ensures.survives }, refuses))),
          ),
    )
