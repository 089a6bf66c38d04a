-- A session above all that were heard of.
use Rattle.std.proofs.Common.{◌≡◌, ◌<◌, ◌≤◌, ◌+◌, ◌-◌, ◌^◌, ℕ, List, [], ◌∷◌, max, Bool, cond, refl, sym, ◌∙◌, ap, inl, inr, arith}
use Rattle.std.specs.Prelude.{nat_lt, Some, None, if◌then◌else◌}
use Rattle.std.proofs.lemmas.Bool.{lt-ltb, le-ltb}
use Rattle.csi_types.specs.Model.Members.{IsAmong}
use Rattle.csi_controller.specs.Model.State.{ControllerState}
use Rattle.csi_controller.specs.Public.Views as controller
use Rattle.csi_node.specs.Model.Record.{NodeParts}
use Rattle.csi_recovery.specs.Public.Recovered.{GivenNode}
use Rattle.csi_recovery.specs.Public.Judged.{IsKeptOf, AreGiven, IsLater}
use Rattle.csi_recovery.specs.Public.Session.{latest_session, greatest_session}
use Rattle.csi_recovery.specs.Private.Walks.{latest_kept}

-- the greatest of the records is that of the nodes
latest-told : (given : List NodeParts) (known : List GivenNode) → AreGiven given known → latest_kept given ≡ latest_session known
latest-told [] [] are = refl
latest-told [] (node ∷ nodes) are = absurd are
latest-told (kept ∷ others) [] are = absurd are
latest-told (kept ∷ others) (node ∷ nodes) are = ap (λ (n : ℕ). max n (latest_kept others)) are.0.shows.session ∙ ap (max node.state.session) (latest-told others nodes are.1)

-- of all
pub greatest-told : (known : ℕ) (kept : controller.RecordParts) (state : ControllerState) (given : List NodeParts) (nodes : List GivenNode) → IsKeptOf kept state → AreGiven given nodes
    → max (max known kept.session) (latest_kept given) ≡ greatest_session known state nodes
greatest-told known kept state given nodes is are = ap (λ (n : ℕ). max (max known n) (latest_kept given)) is.session ∙ ap (max (max known state.session)) (latest-told given nodes are)

-- no node heard of a later one
latest-most : (nodes : List GivenNode) (node : GivenNode) → IsAmong node nodes → node.state.session ≤ latest_session nodes
latest-most [] node among = absurd among
latest-most (other ∷ others) node (inl here) = let same : node.state.session ≡ other.state.session = ap (λ (n : GivenNode). n.state.session) here in omega (arith, same)
latest-most (other ∷ others) node (inr later) = let rest = latest-most others node later in omega (arith, rest)

-- a session above the greatest is later than all
pub above-later : (known session : ℕ) (state : ControllerState) (nodes : List GivenNode) → greatest_session known state nodes < session → IsLater session state nodes
above-later known session state nodes above = record {
  after_controller = omega (arith, above);
  after_nodes = λ node among. (let most = latest-most nodes node among in omega (arith, above, most));
}

-- where numbers are left, it is that
pub session-left : (heard : ℕ) → heard < 2 ^ 64 - 1 - 2 ^ 20 → Some (heard + 2 ^ 20) ≡ (if nat_lt (heard + 2 ^ 20) (2 ^ 64 - 1) then Some (heard + 2 ^ 20) else None)
session-left heard below = sym (ap (λ (b : Bool). cond b (Some (heard + 2 ^ 20)) None) (lt-ltb (heard + 2 ^ 20) (2 ^ 64 - 1) (omega (arith, below))))

-- and else none
pub session-spent : (heard : ℕ) → 2 ^ 64 - 1 - 2 ^ 20 ≤ heard → None ≡ (if nat_lt (heard + 2 ^ 20) (2 ^ 64 - 1) then Some (heard + 2 ^ 20) else None)
session-spent heard above = sym (ap (λ (b : Bool). cond b (Some (heard + 2 ^ 20)) None) (le-ltb (heard + 2 ^ 20) (2 ^ 64 - 1) (omega (arith, above))))
