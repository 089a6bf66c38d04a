-- Where the node is the wanted one, a holding is told by the way in which the volume is held.
use Rattle.std.proofs.Common.{◌≡◌, ◌∙◌, subst, ℕ, true, refl}
use Rattle.std.specs.Prelude.{Bool, ◌==◌, ◌&&◌}
use Rattle.std.proofs.lemmas.Bool.{eq-eqb}
use Rattle.csi_types.specs.declared.capability.Capability.{Capability}
use Rattle.csi_types.specs.Public.Lent.{lent_capability}
use Rattle.csi_types.specs.Model.Same.{same_text, same_capability, same_flag}
use Rattle.csi_controller.proofs.controller.holdings.is_held_so.Goals as goal

of-one : (id : ℕ) (at capability flag : Bool) → at ≡ true → (capability && flag) ≡ ((id == id) && at && capability && flag)
of-one id at capability flag there = let self : (id == id) ≡ true = eq-eqb id id refl in rw self (rw there refl)

pub returns-then-eq : goal.returns-then-eq
returns-then-eq c = λ id.
    let wanted = lent_capability c.args.wanted.capability in
    let flags = same_flag c.args.held.now.readonly c.args.wanted.readonly in
    let at : same_text c.args.held.now.node c.args.wanted.node.now ≡ true = cc in
    let way : c.same_way.result ≡ (same_capability c.args.held.now.capability wanted && flags) = subst (λ (own : Capability). c.same_way.result ≡ (same_capability own wanted && flags)) c.lend.ensures c.same_way.ensures in
    way ∙ of-one id (same_text c.args.held.now.node c.args.wanted.node.now) (same_capability c.args.held.now.capability wanted) flags at
