-- At different nodes, as far as the two can be held together.
use Rattle.std.proofs.Common.{◌≡◌, ◌∙◌, not, true, ap, sym}
use Rattle.std.specs.Prelude.{◌&&◌}
use Rattle.csi_types.specs.Model.Holding.{is_compatible}
use Rattle.csi_types.specs.Model.Same.{same_text}
use Rattle.csi_controller.specs.Public.Core.{volume_holding}
use Rattle.csi_controller.proofs.sound_row.are_beside.Goals as goal

pub returns-then-ne : goal.returns-then-ne
returns-then-ne c =
    let held = c.args.held.now in
    let later = c.args.later.now in
    let differ : not (same_text later.node held.node) ≡ true = sym c.ne.ensures ∙ c.if-ne.true in
    c.can_use_both.ensures.test 1
    ∙ (λ i. is_compatible (volume_holding 1 (c.use_of.ensures i)) (volume_holding 1 (c.use_of-then-ne.ensures i)))
    ∙ ap (λ b. b && is_compatible (volume_holding 1 later) (volume_holding 1 held)) (sym differ)
