-- The first node that has the id is the one at this place.
use Rattle.csi_world.proofs.Words.{◌≡◌, ◌<◌, ℕ, zero, suc, List, [], ◌∷◌, length, get_or, take, Bool, true, false, ap}
use Rattle.csi_world.proofs.Words.{sym, ◌∙◌, arith, list_any, same_text, FirstAt, NodeParts}
use Rattle.csi_world.proofs.Lemmas.{or_parts, position-first, position-none, none-among}
use Rattle.std.proofs.Common.{rules}
use Rattle.csi_world.proofs.FoundByHalving.{at-place}
use Rattle.csi_world.proofs.WholeLists.{take-whole}
use Rattle.csi_world.proofs.plugins.place_of.Goals as goal

-- what passes is the first that does, where none before it passes
first-at : {X : Type 0} (p : X → Bool) (xs : List X) (i : ℕ) (x : X) → list_any p (take i xs) ≡ false → x ≡ get_or xs i x → i < length xs → p x ≡ true → FirstAt p xs i x
first-at p [] i x before is inside here = absurd (omega (arith, inside))
first-at p (y ∷ ys) zero x before is inside here = (ap p (sym is) ∙ here, sym is)
first-at p (y ∷ ys) (suc i) x before is inside here =
    let parts = or_parts (p y) (list_any p (take i ys)) before in
    (parts.0, first-at p ys i x parts.1 is (omega (arith, inside)) here)

pub returns-then-eq : goal.returns-then-eq
returns-then-eq c =
    let p : NodeParts → Bool = λ node. same_text node.id c.args.id.now in
    let node : NodeParts = c.index-nodes-place.result in
    let here : p node ≡ true = search rules in
    position-first p c.args.nodes.now c.loop-place.place node (first-at p c.args.nodes.now c.loop-place.place node c.loop-place.invariant c.index-nodes-place.is c.loop-place-test.true here)

pub returns : goal.returns
returns c =
    let p : NodeParts → Bool = λ node. same_text node.id c.args.id.now in
    let none : list_any p c.args.nodes.now ≡ false
    = ap (list_any p) (sym (take-whole c.args.nodes.now c.loop-place.place c.loop-place-test.false)) ∙ c.loop-place.invariant
    in
    position-none p c.args.nodes.now (λ k d inside. none-among p c.args.nodes.now (get_or c.args.nodes.now k d) none (at-place c.args.nodes.now k d inside))
