-- One store more is read, or refused.
use Rattle.std.proofs.Common.{◌≡◌, ap, map, arith, length, get_or, ◌<◌}
use Rattle.csi_plugins.specs.Private.Recovering.{changes_of}
use Rattle.csi_plugins.proofs.GivenNodes.{read-next, read-unchanged, stopped-at, stopped-unchanged}
use Rattle.csi_plugins.proofs.given.nodes_in.Goals as goal

pub returns-in-Err-clause-refused : goal.returns-in-Err-clause-refused
returns-in-Err-clause-refused g c =
    let at = c.loop-index in
    let inside : at.index < length c.args.keeps.now = c.loop-index-test.true in
    let d = get_or at.keeps at.index c.index-keeps-index.result in
    let here : d ≡ get_or at.keeps at.index d = ap (λ (z : _). get_or at.keeps at.index z) c.index-keeps-index.is in
    let inside_too : at.index < length at.keeps = omega (arith, at.auto.keeps, c.loop-index-test.true) in
    stopped-at g.K.Keep.store c.args.keeps.now at.keeps at.index at.given.kept.items (map changes_of at.given.renewals.items) at.invariant d c.node_in.new.keep c.in-Err.ending inside inside_too here c.in-Err.ensures.refused

pub returns-in-Err-clause-unchanged : goal.returns-in-Err-clause-unchanged
returns-in-Err-clause-unchanged g c =
    let at = c.loop-index in
    let inside : at.index < length c.args.keeps.now = c.loop-index-test.true in
    let d = get_or at.keeps at.index c.index-keeps-index.result in
    let here : d ≡ get_or at.keeps at.index d = ap (λ (z : _). get_or at.keeps at.index z) c.index-keeps-index.is in
    stopped-unchanged g.K.Keep.store c.args.keeps.now at.keeps at.index at.given.kept.items (map changes_of at.given.renewals.items) at.invariant d c.node_in.new.keep inside here c.node_in.ensures.unchanged

pub returns-in-Err-add-clause-refused : goal.returns-in-Err-add-clause-refused
returns-in-Err-add-clause-refused g c =
    let at = c.loop-index in
    let inside : at.index < length c.args.keeps.now = c.loop-index-test.true in
    let d = get_or at.keeps at.index c.index-keeps-index.result in
    let here : d ≡ get_or at.keeps at.index d = ap (λ (z : _). get_or at.keeps at.index z) c.index-keeps-index.is in
    let inside_too : at.index < length at.keeps = omega (arith, at.auto.keeps, c.loop-index-test.true) in
    stopped-at g.K.Keep.store c.args.keeps.now at.keeps at.index at.given.kept.items (map changes_of at.given.renewals.items) at.invariant d c.node_in.new.keep _ inside inside_too here tt

pub returns-in-Err-add-clause-unchanged : goal.returns-in-Err-add-clause-unchanged
returns-in-Err-add-clause-unchanged g c =
    let at = c.loop-index in
    let inside : at.index < length c.args.keeps.now = c.loop-index-test.true in
    let d = get_or at.keeps at.index c.index-keeps-index.result in
    let here : d ≡ get_or at.keeps at.index d = ap (λ (z : _). get_or at.keeps at.index z) c.index-keeps-index.is in
    stopped-unchanged g.K.Keep.store c.args.keeps.now at.keeps at.index at.given.kept.items (map changes_of at.given.renewals.items) at.invariant d c.node_in.new.keep inside here c.node_in.ensures.unchanged

pub loop-index-preserved : goal.loop-index-preserved
loop-index-preserved g c =
    let at = c.loop-index in
    let inside : at.index < length c.args.keeps.now = c.loop-index-test.true in
    let d = get_or at.keeps at.index c.index-keeps-index.result in
    let here : d ≡ get_or at.keeps at.index d = ap (λ (z : _). get_or at.keeps at.index z) c.index-keeps-index.is in
    read-next g.K.Keep.store c.args.keeps.now at.keeps at.index at.given.kept.items (map changes_of at.given.renewals.items) at.invariant d c.node_in.new.keep c.in-Ok.read.kept (changes_of c.in-Ok.read.renewal)
    c.add.new.given.kept.items (map changes_of c.add.new.given.renewals.items) inside here c.in-Ok.ensures.read c.in-Ok-add.ensures.kept c.in-Ok-add.ensures.renewals

pub returns-clause-unchanged : goal.returns-clause-unchanged
returns-clause-unchanged g c =
    let at = c.loop-index in
    read-unchanged g.K.Keep.store c.args.keeps.now at.keeps at.index at.given.kept.items (map changes_of at.given.renewals.items) at.invariant
