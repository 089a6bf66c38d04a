-- None is marked at first.
use Rattle.std.proofs.Common.{sym, ◌∙◌}
use Rattle.csi_world.proofs.MarksMade.{marks-none}
use Rattle.csi_world.proofs.auditing.marks.are_right.Goals as goal

pub mark_noted-requires-clause-unmarked : goal.mark_noted-requires-clause-unmarked
mark_noted-requires-clause-unmarked c = c.as_mut_slice.ensures.value ∙ c.in_ok-marks.ensures.items_if_clones_equal (λ y same. same) ∙ sym (marks-none c.args.noted.now)
