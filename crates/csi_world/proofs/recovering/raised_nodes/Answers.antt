-- A node more: it is raised, or left out.
use Rattle.csi_world.proofs.Words.{◌≡◌, ◌++◌, ◌∷◌, [], List, ℕ, true, false, list_any, sym, ◌∙◌, subst, same_text, NodeParts}
use Rattle.csi_world.specs.Private.Recovering.{IsRaised}
use Rattle.csi_world.specs.Public.Given.{AreThose}
use Rattle.csi_world.proofs.RaisedNodes.{those-more, those-less}
use Rattle.csi_world.proofs.recovering.raised_nodes.Goals as goal

pub loop-node-preserved-in-Continue-1 : goal.loop-node-preserved-in-Continue-1
loop-node-preserved-in-Continue-1 c =
    let given = c.args.given.now in
    let raised = IsRaised c.args.session in
    let node = c.in-Some.node in
    let passes : list_any (same_text node.id) given ≡ true = subst (λ (id : List ℕ). list_any (same_text id) given ≡ true) c.id.ensures (sym c.is_listed.ensures ∙ c.if-is_listed.true) in
    subst (λ (kept : List NodeParts). AreThose raised given (c.loop-node.yielded ++ node ∷ []) kept) (sym c.in_ok-push.ensures.items)
    (those-more raised given c.loop-node.yielded c.loop-node.kept.items node c.raise.new.self passes (record { id = c.raise.ensures.id; shown = c.raise.ensures.state }) c.loop-node.invariant)

pub loop-node-preserved : goal.loop-node-preserved
loop-node-preserved c =
    let given = c.args.given.now in
    let node = c.in-Some.node in
    let fails : list_any (same_text node.id) given ≡ false = subst (λ (id : List ℕ). list_any (same_text id) given ≡ false) c.id.ensures (sym c.is_listed.ensures ∙ c.if-is_listed.false) in
    those-less (IsRaised c.args.session) given c.loop-node.yielded c.loop-node.kept.items node fails c.loop-node.invariant
