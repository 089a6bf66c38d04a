-- A controller's rows stand by rising id, and its state tells what it tells; rows within their limits, which keep a controller's rules, are a
-- record; and a spelling is one value's.
use Rattle.std.proofs.Common.{ap, map, refl, arith}
use Rattle.std.proofs.lemmas.Option.{same_Some}
use Rattle.std.specs.Prelude.{ℕ}
use Rattle.csi_controller.proofs.ShowingLaw.{shows-a_state}
use Rattle.csi_records.specs.Public.Spelling.{present, volume_row}
use Rattle.csi_records.specs.Public.Records.{Head, controller_layout}
use Rattle.csi_records.proofs.Layouts.{parts-same}
use Rattle.csi_records.proofs.PluginLayouts.{controller_one}
use Rattle.csi_service.proofs.ControllerRows.{rising-in, controller-tells}
use Rattle.csi_service.proofs.controller_service.ControllerPlugin.plugin_law.Goals as goal

pub returns-clause-rising : goal.returns-clause-rising
returns-clause-rising c = rising-in present c.args.self.now.rows c.sound_law.ensures.rising

pub returns-clause-shown : goal.returns-clause-shown
returns-clause-shown c = shows-a_state c.args.self.now c.sound_law.ensures (omega (arith, c.next_id-next.ensures.value))

pub returns-clause-told : goal.returns-clause-told
returns-clause-told c = λ other state shown shown_too. controller-tells c.args.self.now other state shown shown_too

pub returns-clause-replies : goal.returns-clause-replies
returns-clause-replies c = λ state number call. (_, refl)

pub returns-clause-there : goal.returns-clause-there
returns-clause-there c = λ fit.
    let controller = c.args.self.now in (
      record { next_id = controller.next_id; session = controller.session; rows = controller.rows },
      record {
        head_fits = record { own = omega (arith, c.next_id-next.ensures.value); session = omega (arith, c.session-session.ensures.value) };
        rows_fit = fit;
        rules = (controller.rows, refl, (c.sound_law.ensures, c.current_law.ensures));
        are = refl;
      },
    )

pub returns-clause-alone : goal.returns-clause-alone
returns-clause-alone c = λ parts one other spelled also.
    let same = parts-same (controller_layout present) (controller_one present) _ _ (map volume_row one.rows) (map volume_row other.rows) parts spelled also in
    (ap (λ (head : Head ℕ). head.own) same.0, same_Some one.session other.session (ap (λ (head : Head ℕ). head.session) same.0), same.1)
