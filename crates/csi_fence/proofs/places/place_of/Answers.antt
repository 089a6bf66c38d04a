use Rattle.std.proofs.Common.{map, rules}
use Rattle.std.proofs.lemmas.List.Sorted.{answers_always}
use Rattle.csi_fence.proofs.PlacedRows.{Searched, searched}
use Rattle.csi_fence.proofs.places.place_of.Goals as goal

-- where the search ended
ended : (g : _) (c : goal.After-binary_search_by_key g) → Searched g.T.Table.plan.id (map g.T.Table.shown c.args.rows.now) c.number.result c.binary_search_by_key.result
ended g c =
    let facts = c.binary_search_by_key.ensures in
    searched g.T.Table.plan.id g.T.Table.shown c.args.rows.now c.number.result c.binary_search_by_key.result c.requires.rising facts.bound
    (facts.position (λ row. g.T.Table.plan.id (g.T.Table.shown row)) (answers_always _ _ _ (λ f a r h called. search rules)))

pub returns-clause-found : goal.returns-clause-found
returns-clause-found g c = rw c.number.ensures.value at ((ended g c).found)

pub returns-clause-absent : goal.returns-clause-absent
returns-clause-absent g c = rw c.number.ensures.value at ((ended g c).absent)
