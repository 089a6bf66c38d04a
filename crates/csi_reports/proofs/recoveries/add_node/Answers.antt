-- A node that is given, or there, adds nothing; another one is added at the end.
use Rattle.std.proofs.Common.{◌≡◌, ◌∙◌, ap, sym, map, true, false, ◌++◌, ◌∷◌, [], rules}
use Rattle.csi_node.specs.Model.Record.{NodeParts}
use Rattle.csi_reports.specs.Public.Recoveries.{has_node, once}
use Rattle.csi_reports.proofs.LostNodes.{any-of, node-given, node-there, node-new}
use Rattle.csi_reports.proofs.recoveries.add_node.Goals as goal

pub returns-then-is_given : goal.returns-then-is_given
returns-then-is_given c = λ seen is.
    let ids = map (λ (kept : NodeParts). kept.id) c.args.given.now in
    let yes : has_node c.args.node.now ids ≡ true = sym (any-of (λ (kept : NodeParts). kept.id) c.args.node.now c.args.given.now) ∙ sym c.is_given.ensures ∙ c.if-is_given.true in
    is ∙ sym (node-given ids seen c.args.node.now yes)

pub returns-then-is_listed : goal.returns-then-is_listed
returns-then-is_listed c = λ seen is.
    let ids = map (λ (kept : NodeParts). kept.id) c.args.given.now in
    let no : has_node c.args.node.now ids ≡ false = sym (any-of (λ (kept : NodeParts). kept.id) c.args.node.now c.args.given.now) ∙ sym c.is_given.ensures ∙ c.if-is_given.false in
    let there : has_node c.args.node.now (once seen) ≡ true = ap (has_node c.args.node.now) (sym (c.deref.ensures.value ∙ is)) ∙ sym c.is_listed.ensures ∙ c.if-is_listed.true in
    is ∙ sym (node-there ids seen c.args.node.now no there)

pub returns : goal.returns
returns c = λ seen is.
    let ids = map (λ (kept : NodeParts). kept.id) c.args.given.now in
    let no : has_node c.args.node.now ids ≡ false = sym (any-of (λ (kept : NodeParts). kept.id) c.args.node.now c.args.given.now) ∙ sym c.is_given.ensures ∙ c.if-is_given.false in
    let none : has_node c.args.node.now (once seen) ≡ false = ap (has_node c.args.node.now) (sym (c.deref.ensures.value ∙ is)) ∙ sym c.is_listed.ensures ∙ c.if-is_listed.false in
    let copy : c.in_ok-copy.copy ≡ c.args.node.now = search rules in
    c.in_ok-push.ensures.items ∙ (λ i. is i ++ copy i ∷ []) ∙ sym (node-new ids seen c.args.node.now no none)
