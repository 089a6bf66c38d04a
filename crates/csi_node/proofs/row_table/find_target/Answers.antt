-- What stands at the next place is found, or is passed over.
use Rattle.std.proofs.Common.{◌≡◌, ◌∙◌, ◌+◌, ◌<◌, ℕ, Bool, true, false, cond, List, ◌∷◌, length, drop, get_or, ap, sym, Some, rules}
use Rattle.std.proofs.lemmas.List.{at_drop_more}
use Rattle.csi_types.specs.Model.Same.{same_text}
use Rattle.csi_node.specs.declared.row.NodeTarget.{NodeTarget}
use Rattle.csi_node.specs.Public.OneRow.{target_among}
use Rattle.csi_node.proofs.row_table.find_target.Goals as goal

-- by whether it is the target
one-step : (targets : List NodeTarget) (target : List ℕ) (i : ℕ) (there : NodeTarget) (b : Bool) → i < length targets → there ≡ get_or targets i there
    → target_among (drop i targets) target ≡ target_among targets target → same_text there.target target ≡ b
    → cond b (Some there) (target_among (drop (i + 1) targets) target) ≡ target_among targets target
one-step targets target i there b inside is left same =
    sym (at_drop_more (λ (l : List NodeTarget). target_among l target) targets i there inside
    ∙ ap (λ (t : NodeTarget). target_among (t ∷ drop (i + 1) targets) target) (sym is)
    ∙ ap (λ (b : Bool). cond b (Some there) (target_among (drop (i + 1) targets) target)) same) ∙ left

pub returns-then-eq : goal.returns-then-eq
returns-then-eq c =
    let same : c.eq.result ≡ same_text c.there-item.result.target c.args.target.now = search rules in
    one-step c.args.targets.now c.args.target.now c.loop-there.there-index c.there-item.result true c.loop-there-test.true c.there-item.is c.loop-there.invariant (sym same ∙ c.if-eq.true)

pub loop-there-preserved : goal.loop-there-preserved
loop-there-preserved c =
    let same : c.eq.result ≡ same_text c.there-item.result.target c.args.target.now = search rules in
    one-step c.args.targets.now c.args.target.now c.loop-there.there-index c.there-item.result false c.loop-there-test.true c.there-item.is c.loop-there.invariant (sym same ∙ c.if-eq.false)
