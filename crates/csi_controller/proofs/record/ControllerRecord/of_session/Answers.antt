-- What stays keeps the rules.
use Rattle.std.proofs.Common.{◌≤◌, ℕ, sym, subst}
use Rattle.std.specs.List.{AllByRecursion}
use Rattle.csi_controller.specs.declared.row.ControllerRow.{ControllerRow}
use Rattle.csi_controller.specs.Public.Core.{IsCurrent, AreSoundRows}
use Rattle.csi_controller.specs.Public.WithoutSession.{stays_in}
use Rattle.csi_controller.proofs.FirstUnfit.{staying-current, up_to_latest}
use Rattle.csi_controller.proofs.Sound.{sound-filter}
use Rattle.csi_controller.proofs.record.ControllerRecord.of_session.Goals as goal

pub new-requires-clause-sound : goal.new-requires-clause-sound
new-requires-clause-sound c =
    subst (AreSoundRows c.args.next_id) (sym c.forget.ensures.rows) (sound-filter c.args.next_id (stays_in c.args.session) c.args.catalog.rows.items c.requires.sound)

pub new-requires-clause-current : goal.new-requires-clause-current
new-requires-clause-current c =
    let rows = c.args.catalog.rows.items in
    subst (IsCurrent c.args.session) (sym c.forget.ensures.rows)
    (staying-current c.args.session rows (subst (λ (session : ℕ). AllByRecursion (λ (row : ControllerRow). row.last.session ≤ session) rows) (sym c.requires.latest) (up_to_latest rows)))
