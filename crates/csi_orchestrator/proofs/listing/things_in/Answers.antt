-- The sorted list has what the rows note, which is what they know, each thing once.
use Rattle.csi_orchestrator.proofs.Words.{List, map, subst, sym, ◌∙◌, rules, IsPermutation, is_lt, Thing, Known}
use Rattle.csi_orchestrator.proofs.Words.{row_shown, noted_in, thing_order}
use Rattle.csi_orchestrator.proofs.Lemmas.{ranks_by, answers_always, among-moved, among-back}
use Rattle.csi_orchestrator.proofs.ThingsNoted.{rows-list, known-of}
use Rattle.csi_orchestrator.proofs.ThingOrder.{order-total, sorted-in-order}
use Rattle.csi_orchestrator.proofs.listing.things_in.Goals as goal

pub returns-clause-known : goal.returns-clause-known
returns-clause-known c kept thing mark =
    let rows = map row_shown c.args.rows.now in
    let things = c.sort_unstable_by.new.self.items in
    let moved : IsPermutation (noted_in rows) things = subst (λ (from : List (Thing × Known)). IsPermutation from things) c.in_ok-things.ensures.ok c.sort_unstable_by.ensures.permutation in (
      λ among. let is = (rows-list rows kept).told (thing, mark) (among-moved (noted_in rows) things (thing, mark) moved among) in (is.1, is.2),
      λ is. among-back (noted_in rows) things (thing, mark) moved ((rows-list rows kept).lists thing mark (known-of rows thing (λ no. is.1 (sym is.0 ∙ no))) is.0 is.1),
    )

pub returns-clause-order : goal.returns-clause-order
returns-clause-order c kept =
    let rows = map row_shown c.args.rows.now in
    let things = c.sort_unstable_by.new.self.items in
    let moved : IsPermutation (noted_in rows) things = subst (λ (from : List (Thing × Known)). IsPermutation from things) c.in_ok-things.ensures.ok c.sort_unstable_by.ensures.permutation in
    sorted-in-order (noted_in rows) things (rows-list rows kept).once moved (c.sort_unstable_by.ensures.sorted (λ a b. is_lt (thing_order a.0 b.0)) (ranks_by order-total (λ entry. entry.0)) (answers_always _ _ _ (λ f a r f' k. search rules)))
