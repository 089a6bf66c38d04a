-- By what halving tells.
use Rattle.csi_world.proofs.Words.{◌∙◌, Thing, Known, thing_order}
use Rattle.std.proofs.Common.{rules}
use Rattle.std.proofs.lemmas.Fn.{always_returns_same}
use Rattle.csi_world.proofs.FoundByHalving.{noted-place}
use Rattle.csi_world.proofs.auditing.halving.place_of_noted.Goals as goal

pub returns : goal.returns
returns c =
    let facts = c.binary_search_by.ensures in
    let by_order = facts.position (λ (entry : Thing × Known). thing_order entry.0 c.args.thing.now) (always_returns_same _ _ _ (λ a r g called. (search rules, search rules))) in
    c.ok.ensures.value ∙ noted-place c.args.noted.now c.args.thing.now c.binary_search_by.result c.requires facts.bound by_order
