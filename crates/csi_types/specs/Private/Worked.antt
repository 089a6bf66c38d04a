-- Worked examples of the values' rules, which the checker computes, and what the tests of equality tell.
use Rattle.std.specs.Prelude.{◌≡◌, ◌↔◌, ℕ, true, false, List, IsTrue, Ok, Err}
use Rattle.csi_types.specs.declared.number.Number.{Number}
use Rattle.csi_types.specs.declared.capability.Capability.{Capability}
use Rattle.csi_types.specs.declared.holding.Holding.{Holding}
use Rattle.csi_types.specs.declared.call.Kind.{Kind}
use Rattle.csi_types.specs.declared.call.Party.{Party}
use Rattle.csi_types.specs.declared.status.Status.TheVariants.{InvalidArgument, OutOfRange}
use Rattle.csi_types.specs.Public.Capacity.{grant_of}
use Rattle.csi_types.specs.Model.Number.{is_before}
use Rattle.csi_types.specs.Model.Same.{same_text, same_capability, same_number, same_kind, same_party}
use Rattle.csi_types.specs.Model.Holding.{same_holding}
use Rattle.csi_types.specs.Public.PluginThing.{PluginThing, same_plugin_thing}
use Rattle.csi_types.specs.Public.Worked.{number}

-- what volumes get from a controller that gives at most 1,000 bytes
pub record GrantRows : Type 0 where
  pub limit_alone : grant_of 0 1 1000 ≡ Ok 1
  pub no_range : grant_of 0 0 1000 ≡ Err InvalidArgument
  pub too_great : grant_of 9223372036854775808 0 1000 ≡ Err InvalidArgument
  pub empty_range : grant_of 2 1 1000 ≡ Err OutOfRange
  pub above_greatest : grant_of 1001 0 1000 ≡ Err OutOfRange
  pub greatest : grant_of 1000 0 1000 ≡ Ok 1000
  pub default_above_greatest : grant_of 0 2000 1000 ≡ Err OutOfRange

-- a later session's first call comes after each call of an earlier one
pub record NumberRows : Type 0 where
  pub session_first : is_before (number 1 18446744073709551615) (number 2 1) ≡ true
  pub then_call : is_before (number 2 1) (number 2 2) ≡ true
  pub not_itself : is_before (number 2 2) (number 2 2) ≡ false

-- the tests are true of equal values, and of no others
pub record TestsTellEquality : Type 0 where
  pub texts : (a b : List ℕ) → IsTrue (same_text a b) ↔ (a ≡ b)
  pub capabilities : (a b : Capability) → IsTrue (same_capability a b) ↔ (a ≡ b)
  pub numbers : (a b : Number) → IsTrue (same_number a b) ↔ (a ≡ b)
  pub kinds : (a b : Kind) → IsTrue (same_kind a b) ↔ (a ≡ b)
  pub parties : (a b : Party) → IsTrue (same_party a b) ↔ (a ≡ b)
  pub holdings : (a b : Holding) → IsTrue (same_holding a b) ↔ (a ≡ b)
  pub things : (a b : PluginThing) → IsTrue (same_plugin_thing a b) ↔ (a ≡ b)
