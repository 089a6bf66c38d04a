use Rattle.std.proofs.Common.{map, subst, sym, take, add-one, ℕ}
use Rattle.csi_stores.specs.Public.Part.{part_change}
use Rattle.csi_sqlite.specs.Private.Loading.{AreRowsOfParts, TakesRow}
use Rattle.csi_sqlite.proofs.Loading.{parts_push}
use Rattle.csi_sqlite.proofs.sqlite_keep.reading.parts_of.Goals as goal

pub loop-place-preserved : goal.loop-place-preserved
loop-place-preserved c =
    let rows = c.args.rows.now in
    let row = c.index-rows-place.result in
    let before = map part_change c.loop-place.parts.items in
    let after = map part_change c.take_row.new.parts.items in
    let taken = subst (TakesRow row before after) c.if-not-branch.false c.in_ok-take_row.ensures in
    subst (λ (n : ℕ). AreRowsOfParts (take n rows) after) (sym (add-one c.loop-place.place))
    (parts_push rows c.loop-place.place row before after c.loop-place-test.true c.index-rows-place.is c.loop-place.invariant taken)
