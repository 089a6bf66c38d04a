-- One more that is below it, or the first that isn't.
use Rattle.std.proofs.Common.{◌≡◌, ◌+◌, ◌-◌, ◌++◌, ◌∷◌, [], ℕ, List, true, map, take, sym, ◌∙◌, ap, subst, true≢false, arith}
use Rattle.std.proofs.lemmas.List.{length-map, map_push, take-map, take_all}
use Rattle.csi_fence.proofs.JudgedRows.{one-more}
use Rattle.csi_types.proofs.Each.{each-append_one}
use Rattle.csi_types.proofs.Members.{each_of, among-last}
use Rattle.csi_orchestrator.specs.declared.row.Row.{Row}
use Rattle.csi_orchestrator.specs.Model.Shown.{RowShown}
use Rattle.csi_orchestrator.specs.Public.Shown.{row_shown}
use Rattle.csi_recovery.specs.Public.Rebuilding.{is_below, AreBelow}
use Rattle.csi_recovery.proofs.rebuilding.first_taken.Goals as goal

pub loop-index-preserved : goal.loop-index-preserved
loop-index-preserved c =
    let rows = c.args.rows.now in
    let i = c.loop-index.index in
    let row = c.index-rows-index.result in
    subst (AreBelow c.args.next_id) (sym (ap (map row_shown) (one-more rows i row c.loop-index-test.true c.index-rows-index.is) ∙ map_push row_shown (take i rows) row))
    (each-append_one (λ (r : RowShown). is_below c.args.next_id r ≡ true) (map row_shown (take i rows)) (row_shown row) c.loop-index.invariant (sym c.is_below.ensures ∙ c.if-not-is_below.false))

pub returns-then-not-is_below : goal.returns-then-not-is_below
returns-then-not-is_below c =
    let rows = c.args.rows.now in
    let i = c.loop-index.index in
    let row = c.index-rows-index.result in
    let inside = c.loop-index-test.true in
    let back : i + 1 - 1 ≡ i = omega arith in
    let more : take (i + 1) (map row_shown rows) ≡ map row_shown (take i rows) ++ row_shown row ∷ [] =
    take-map row_shown (i + 1) rows ∙ ap (map row_shown) (one-more rows i row inside c.index-rows-index.is) ∙ map_push row_shown (take i rows) row in
    record {
      from = omega arith;
      to = let long = length-map rows row_shown in omega (arith, long, inside);
      before = subst (AreBelow c.args.next_id) (sym (ap (λ (n : ℕ). take n (map row_shown rows)) back ∙ take-map row_shown i rows)) c.loop-index.invariant;
      refused = λ all.
          true≢false (sym (each_of (λ (r : RowShown). is_below c.args.next_id r ≡ true) (map row_shown (take i rows) ++ row_shown row ∷ []) (row_shown row) (subst (AreBelow c.args.next_id) more all) (among-last (map row_shown (take i rows)) (row_shown row)))
          ∙ sym c.is_below.ensures ∙ c.if-not-is_below.true);
    }

pub returns : goal.returns
returns c =
    subst (λ (rows : List Row). AreBelow c.args.next_id (map row_shown rows)) (take_all c.loop-index.index c.args.rows.now (let over = c.loop-index-test.false in omega (arith, over))) c.loop-index.invariant
