-- Each store in turn.
use Rattle.std.proofs.Common.{◌≡◌, ap, subst, map, List}
use Rattle.csi_stores.specs.Public.Part.{StoredChange, part_change}
use Rattle.csi_plugins.specs.Public.Recovering.{AreInTurn, AllChange}
use Rattle.csi_plugins.specs.Public.Recovering.Fate.{Stays, MayChange, Changes}
use Rattle.csi_plugins.specs.Private.Recovering.{changes_of, IsGiven, AreGivenTo}
use Rattle.csi_plugins.proofs.CarryingOut.{given-done, given-refused, given-stays, together, turn-nodes, turn-controller, turn-new, turn-all}
use Rattle.csi_plugins.proofs.recovering.carry_out.Goals as goal

pub returns-in-Err-clause-stopped : goal.returns-in-Err-clause-stopped
returns-in-Err-clause-stopped g c =
    let seen = g.K.Keep.store in
    let plan = c.args.plan.now in
    let node_changes = map changes_of plan.nodes.items in
    let own : map changes_of c.deref.result.now ≡ node_changes = ap (map changes_of) c.deref.ensures.value in
    together seen (record { new = c.args.new.now; controller = c.args.controller.now; nodes = c.args.nodes.now }) (record { new = c.args.new.now; controller = c.args.controller.now; nodes = c.raise_nodes.new.nodes }) node_changes (changes_of plan.controller) (changes_of plan.new) AreInTurn AreInTurn
    (subst (λ (cs : List (List StoredChange)). AreGivenTo seen c.args.nodes.now c.raise_nodes.new.nodes cs AreInTurn) own c.in-Err.ensures.stopped)
    Stays (given-stays (seen c.args.controller.now) (changes_of plan.controller)) Stays (given-stays (seen c.args.new.now) (changes_of plan.new)) turn-nodes

pub returns-in-Err-commit-clause-stopped : goal.returns-in-Err-commit-clause-stopped
returns-in-Err-commit-clause-stopped g c =
    let seen = g.K.Keep.store in
    let plan = c.args.plan.now in
    let node_changes = map changes_of plan.nodes.items in
    let own : map changes_of c.deref.result.now ≡ node_changes = ap (map changes_of) c.deref.ensures.value in
    together seen (record { new = c.args.new.now; controller = c.args.controller.now; nodes = c.args.nodes.now }) (record { new = c.args.new.now; controller = c.commit.new.self; nodes = c.raise_nodes.new.nodes }) node_changes (changes_of plan.controller) (changes_of plan.new) AllChange AreInTurn
    (subst (λ (cs : List (List StoredChange)). AreGivenTo seen c.args.nodes.now c.raise_nodes.new.nodes cs AllChange) own c.in-Ok.ensures.done)
    MayChange (subst (IsGiven MayChange (seen c.args.controller.now) (seen c.commit.new.self)) (ap (map part_change) c.deref-2.ensures.value) (given-refused (seen c.args.controller.now) (seen c.commit.new.self) (map part_change c.deref-2.result.now) c.in-Err-commit.ensures.honest c.in-Err-commit.ensures.refused c.in-Err-commit.ensures.some))
    Stays (given-stays (seen c.args.new.now) (changes_of plan.new)) turn-controller

pub returns-in-Ok-commit-2-clause-done : goal.returns-in-Ok-commit-2-clause-done
returns-in-Ok-commit-2-clause-done g c =
    let seen = g.K.Keep.store in
    let plan = c.args.plan.now in
    let node_changes = map changes_of plan.nodes.items in
    let own : map changes_of c.deref.result.now ≡ node_changes = ap (map changes_of) c.deref.ensures.value in
    together seen (record { new = c.args.new.now; controller = c.args.controller.now; nodes = c.args.nodes.now }) (record { new = c.commit-2.new.self; controller = c.commit.new.self; nodes = c.raise_nodes.new.nodes }) node_changes (changes_of plan.controller) (changes_of plan.new) AllChange AllChange
    (subst (λ (cs : List (List StoredChange)). AreGivenTo seen c.args.nodes.now c.raise_nodes.new.nodes cs AllChange) own c.in-Ok.ensures.done)
    Changes (subst (IsGiven Changes (seen c.args.controller.now) (seen c.commit.new.self)) (ap (map part_change) c.deref-2.ensures.value) (given-done (seen c.args.controller.now) (seen c.commit.new.self) (map part_change c.deref-2.result.now) c.in-Ok-commit.ensures.honest c.in-Ok-commit.ensures.done))
    Changes (subst (IsGiven Changes (seen c.args.new.now) (seen c.commit-2.new.self)) (ap (map part_change) c.deref-3.ensures.value) (given-done (seen c.args.new.now) (seen c.commit-2.new.self) (map part_change c.deref-3.result.now) c.in-Ok-commit-2.ensures.honest c.in-Ok-commit-2.ensures.done)) turn-all

pub returns-in-Err-commit-2-clause-stopped : goal.returns-in-Err-commit-2-clause-stopped
returns-in-Err-commit-2-clause-stopped g c =
    let seen = g.K.Keep.store in
    let plan = c.args.plan.now in
    let node_changes = map changes_of plan.nodes.items in
    let own : map changes_of c.deref.result.now ≡ node_changes = ap (map changes_of) c.deref.ensures.value in
    together seen (record { new = c.args.new.now; controller = c.args.controller.now; nodes = c.args.nodes.now }) (record { new = c.commit-2.new.self; controller = c.commit.new.self; nodes = c.raise_nodes.new.nodes }) node_changes (changes_of plan.controller) (changes_of plan.new) AllChange AreInTurn
    (subst (λ (cs : List (List StoredChange)). AreGivenTo seen c.args.nodes.now c.raise_nodes.new.nodes cs AllChange) own c.in-Ok.ensures.done)
    Changes (subst (IsGiven Changes (seen c.args.controller.now) (seen c.commit.new.self)) (ap (map part_change) c.deref-2.ensures.value) (given-done (seen c.args.controller.now) (seen c.commit.new.self) (map part_change c.deref-2.result.now) c.in-Ok-commit.ensures.honest c.in-Ok-commit.ensures.done))
    MayChange (subst (IsGiven MayChange (seen c.args.new.now) (seen c.commit-2.new.self)) (ap (map part_change) c.deref-3.ensures.value) (given-refused (seen c.args.new.now) (seen c.commit-2.new.self) (map part_change c.deref-3.result.now) c.in-Err-commit-2.ensures.honest c.in-Err-commit-2.ensures.refused c.in-Err-commit-2.ensures.some)) turn-new
