-- A node more: it is given, or left out.
use Rattle.std.proofs.Common.{◌≡◌, ◌∙◌, ◌+◌, ◌++◌, [], ◌∷◌, List, ℕ, take, true, false, sym, ap, subst}
use Rattle.std.specs.List.{list_any}
use Rattle.csi_types.specs.Model.Same.{same_text}
use Rattle.csi_fence.proofs.JudgedRows.{one-more}
use Rattle.csi_node.specs.Model.Record.{NodeParts}
use Rattle.csi_world.specs.Public.Given.{AreThose}
use Rattle.csi_world.proofs.RaisedNodes.{those-more, those-less}
use Rattle.csi_recovery.specs.Private.Worlds.{IsCopyOf}
use Rattle.csi_recovery.proofs.worlds.given_records.Goals as goal
use Rattle.csi_recovery.proofs.worlds.given_records.Goals.{then-is_given+in_ok-record+in_ok-push, else-is_given}

pub loop-node-preserved : goal.loop-node-preserved
loop-node-preserved c =
    let given = c.args.given.now in
    let nodes = c.args.nodes.now in
    let index = c.loop-node.node-index in
    let node = c.node-item.result in
    let kept = c.loop-node.kept.items in
    let next : take (index + 1) nodes ≡ take index nodes ++ node ∷ [] = one-more nodes index node c.loop-node-test.true c.node-item.is in
    elim c.if-is_given.branch [
      | then-is_given+in_ok-record+in_ok-push w ↦
          let passes : list_any (same_text node.id) given ≡ true = subst (λ (id : List ℕ). list_any (same_text id) given ≡ true) c.id.ensures (sym c.is_given.ensures ∙ w.if-is_given.true) in
          let made = w.in_ok-record.record in
          let grown : c.if-is_given.kept.items ≡ kept ++ made ∷ [] = ap (λ own. own.items) w.kept-is ∙ w.in_ok-push.ensures.items in
          subst (λ (l : List NodeParts). AreThose IsCopyOf given l c.if-is_given.kept.items) (sym next)
          (subst (AreThose IsCopyOf given (take index nodes ++ node ∷ [])) (sym grown) (those-more IsCopyOf given (take index nodes) kept node made passes w.in_ok-record.ensures c.loop-node.invariant))
      | else-is_given w ↦
          let fails : list_any (same_text node.id) given ≡ false = subst (λ (id : List ℕ). list_any (same_text id) given ≡ false) c.id.ensures (sym c.is_given.ensures ∙ w.if-is_given.false) in
          subst (λ (l : List NodeParts). AreThose IsCopyOf given l c.if-is_given.kept.items) (sym next)
          (subst (AreThose IsCopyOf given (take index nodes ++ node ∷ [])) (sym (ap (λ own. own.items) w.kept-is)) (those-less IsCopyOf given (take index nodes) kept node fails c.loop-node.invariant))
    ]
