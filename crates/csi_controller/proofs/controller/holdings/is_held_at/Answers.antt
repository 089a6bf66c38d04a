-- One is held there exactly where one is found.
use Rattle.std.proofs.Common.{◌≡◌, ◌∙◌, refl, sym, ap}
use Rattle.std.specs.Borrow.{Bor}
use Rattle.std.specs.Option.{option_copied}
use Rattle.std.specs.Prelude.{Option, Some, None, is_some}
use Rattle.csi_types.proofs.Tests.{any-find}
use Rattle.csi_types.specs.Model.Same.{same_text}
use Rattle.csi_controller.specs.declared.row.NodeHolding.{NodeHolding}
use Rattle.csi_controller.proofs.controller.holdings.is_held_at.Goals as goal

-- what is lent is there exactly where it is
copied_some : {X : Type 0} (found : Option (Bor X)) → is_some found ≡ is_some (option_copied found)
copied_some None = refl
copied_some (Some x) = refl

pub returns : goal.returns
returns c = c.is_some.ensures ∙ copied_some c.held_at.result ∙ ap is_some c.held_at.ensures ∙ sym (any-find (λ (held : NodeHolding). same_text held.node c.args.node.now) c.args.row.now.holdings.items)
