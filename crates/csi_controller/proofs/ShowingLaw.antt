-- Rows that keep the rules of a record show a state.
use Rattle.std.proofs.Common.{◌≡◌, ◌<◌, ◌≤◌, ℕ, ◌^◌, ◌%◌, Bool, true, false, cond, map, refl, sym, arith}
use Rattle.std.specs.Prelude.{◌==◌}
use Rattle.std.proofs.lemmas.Bool.{eqb-true, eqb-false}
use Rattle.csi_controller.specs.Model.State.{ControllerState}
use Rattle.csi_controller.specs.Model.Shown.{volume_of_row}
use Rattle.csi_controller.specs.Model.Core.{ControllerParts, Shows}
use Rattle.csi_controller.specs.Public.Core.{AreSoundRows, next_shown}
use Rattle.csi_controller.specs.Public.Views.{attached_holdings}
use Rattle.csi_controller.proofs.Attached.{attached-of}
use Rattle.csi_controller.proofs.Sound.{rising-one}

-- the state in which the holdings stand by rising id
abbrev state_by_id : ControllerParts → ControllerState
state_by_id parts = record { volumes = map volume_of_row parts.rows; next_id = next_shown parts.next_id; session = parts.session; holdings = attached_holdings parts.rows }

-- a next id below 2^64, where 0 stands for 2^64, is from 1 to 2^64 and told by its 64 bits
pub next-by : (n : ℕ) (b : Bool) → (n == 0) ≡ b → n < 2 ^ 64 → (n ≡ cond b (2 ^ 64) n % 2 ^ 64) × (1 ≤ cond b (2 ^ 64) n) × (cond b (2 ^ 64) n ≤ 2 ^ 64)
next-by n true e below = (let zero : n ≡ 0 = eqb-true n 0 e in omega arith, omega arith, omega arith)
next-by n false e below = (omega arith, (let some = eqb-false n 0 e in omega arith), omega arith)

-- rows that keep the rules show a state
pub shows-a_state : (parts : ControllerParts) → AreSoundRows parts.next_id parts.rows → parts.next_id < 2 ^ 64 → (state : ControllerState) × Shows parts state
shows-a_state parts sound below =
    let next = next-by parts.next_id (parts.next_id == 0) refl below in (
      state_by_id parts,
      record {
        shows = record {
          next = next.0;
          volumes = refl;
          holdings = λ id. sym (attached-of parts.rows id (rising-one parts.rows sound.rising));
        };
        session = refl;
        next_from = next.1;
        next_to = next.2;
      },
    )
