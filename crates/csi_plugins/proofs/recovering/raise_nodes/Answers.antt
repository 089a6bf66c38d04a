-- One store more gets its changes, or refuses them.
use Rattle.std.proofs.Common.{◌≡◌, ◌∙◌, ◌<◌, ap, sym, subst, get_or, length, map, arith}
use Rattle.std.proofs.lemmas.List.{get_or-map, length-map}
use Rattle.csi_stores.specs.Public.Part.{part_change}
use Rattle.csi_plugins.specs.Public.Recovering.Fate.{MayChange, Changes}
use Rattle.csi_plugins.specs.Private.Recovering.{changes_of, IsGiven}
use Rattle.csi_plugins.proofs.CarryingOut.{given-done, given-refused, changed-none, changed-next, changed-stop, changed-all}
use Rattle.csi_plugins.proofs.recovering.raise_nodes.Goals as goal

pub loop-index-init : goal.loop-index-init
loop-index-init g c = λ many. changed-none g.K.Keep.store c.args.nodes.now (map changes_of c.args.changes.now) many

pub returns-in-Err-clause-stopped : goal.returns-in-Err-clause-stopped
returns-in-Err-clause-stopped g c =
    let at = c.loop-index in
    let i = at.index in
    let all = c.args.changes.now in
    let many : length (map changes_of all) ≡ length c.args.nodes.now = length-map all changes_of ∙ c.requires in
    let within : i < length all = omega (arith, c.requires, c.loop-index-test.true) in
    let d = get_or at.nodes i c.index-nodes-index.result in
    let here : d ≡ get_or at.nodes i d = ap (λ (z : _). get_or at.nodes i z) c.index-nodes-index.is in
    let own = c.index-changes-index.result in
    let same : map part_change c.deref.result.now ≡ changes_of own = ap (map part_change) c.deref.ensures.value in
    let placed : changes_of own ≡ get_or (map changes_of all) i (changes_of own) = ap changes_of c.index-changes-index.is ∙ sym (get_or-map changes_of all i own (changes_of own) within) in
    let before = g.K.Keep.store d in
    let after = g.K.Keep.store c.commit.new.self in
    let told = c.in-Err.ensures in
    changed-stop g.K.Keep.store c.args.nodes.now (map changes_of all) many at.nodes i (at.invariant many) d c.commit.new.self (changes_of own) c.loop-index-test.true here placed
    (subst (IsGiven MayChange before after) same (given-refused before after (map part_change c.deref.result.now) told.honest told.refused told.some))

pub loop-index-preserved : goal.loop-index-preserved
loop-index-preserved g c = λ many.
    let at = c.loop-index in
    let i = at.index in
    let all = c.args.changes.now in
    let within : i < length all = omega (arith, c.requires, c.loop-index-test.true) in
    let d = get_or at.nodes i c.index-nodes-index.result in
    let here : d ≡ get_or at.nodes i d = ap (λ (z : _). get_or at.nodes i z) c.index-nodes-index.is in
    let own = c.index-changes-index.result in
    let same : map part_change c.deref.result.now ≡ changes_of own = ap (map part_change) c.deref.ensures.value in
    let placed : changes_of own ≡ get_or (map changes_of all) i (changes_of own) = ap changes_of c.index-changes-index.is ∙ sym (get_or-map changes_of all i own (changes_of own) within) in
    let before = g.K.Keep.store d in
    let after = g.K.Keep.store c.commit.new.self in
    let told = c.in-Ok.ensures in
    changed-next g.K.Keep.store c.args.nodes.now (map changes_of all) many at.nodes i (at.invariant many) d c.commit.new.self (changes_of own) c.loop-index-test.true here placed
    (subst (IsGiven Changes before after) same (given-done before after (map part_change c.deref.result.now) told.honest told.done))

pub returns-clause-done : goal.returns-clause-done
returns-clause-done g c =
    let at = c.loop-index in
    let many : length (map changes_of c.args.changes.now) ≡ length c.args.nodes.now = length-map c.args.changes.now changes_of ∙ c.requires in
    changed-all g.K.Keep.store c.args.nodes.now (map changes_of c.args.changes.now) many at.nodes at.index (at.invariant many) (let over = c.loop-index-test.false in omega (arith, over))
