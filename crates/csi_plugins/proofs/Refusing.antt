-- Why nothing is recovered of the records that were read.
use Rattle.std.proofs.Common.{◌≡◌, ◌∙◌, ◌≤◌, ◌+◌, refl, sym, ap, subst, inl, inr, ℕ, suc, List, [], ◌∷◌, length, Bool, true, false, Some, min, arith}
use Rattle.csi_controller.specs.Model.State.{ControllerState}
use Rattle.csi_node.specs.Model.Record.{NodeParts}
use Rattle.csi_recovery.specs.Public.Recovered.{GivenNode}
use Rattle.csi_recovery.specs.declared.fault.RecoveryFault.{RecoveryFault}
use Rattle.csi_recovery.specs.declared.fault.RecoveryFault.TheVariants.{SameNode, NotLater, Disagrees, BadNodes, BadRow, NoMemory}
use Rattle.csi_recovery.specs.Public.Judged.{AreGiven, IsLater, IsRecoveryRefusal}
use Rattle.csi_recovery.specs.Public.Session.{recovery_session}
use Rattle.csi_streams.specs.declared.ending.Ending.{Ending}
use Rattle.csi_streams.specs.declared.ending.Ending.TheVariants as endings
use Rattle.csi_plugins.specs.Public.Recovering.{leave_out_used, IsNoRecovery}
use Rattle.csi_plugins.specs.Private.Recovering.{EndsByRow, EndsByFault}

-- there are as many nodes as records
pub as-many : (given : List NodeParts) (gs : List GivenNode) → AreGiven given gs → length gs ≡ length given
as-many [] [] are = refl
as-many [] (g ∷ gs) are = absurd are
as-many (k ∷ given) [] are = absurd are
as-many (k ∷ given) (g ∷ gs) are = ap suc (as-many given gs are.1)

module _ (nodes : List (List ℕ)) (known : ℕ) (given : List NodeParts) (state : ControllerState) (gs : List GivenNode) (are : AreGiven given gs) (session : ℕ) (is : recovery_session known state gs ≡ Some session) (later : IsLater session state gs) where
  -- a place among the nodes
  placed : (place : ℕ) → place ≤ length gs → min place (length given) ≡ place
  placed place to = let many = as-many given gs are in omega (arith, to, many)

  -- at a row
  by-row : (leaves_out : Bool) → leave_out_used nodes given ≡ leaves_out → (row : ℕ) → IsRecoveryRefusal nodes session state gs (BadRow row) → (ending : Ending) → EndsByRow leaves_out ending
      → IsNoRecovery nodes known given state gs ending
  by-row true out row why ending ends = subst (IsNoRecovery nodes known given state gs) (sym ends) (out, (session, is, (row, why)))
  by-row false out row why ending (store, ends) = subst (IsNoRecovery nodes known given state gs) (sym ends) (session, is, inr (out, (row, why)))

  -- for any cause
  pub refused-by : (leaves_out : Bool) → leave_out_used nodes given ≡ leaves_out → (fault : RecoveryFault) → IsRecoveryRefusal nodes session state gs fault → (ending : Ending)
      → EndsByFault leaves_out (length given) fault ending → IsNoRecovery nodes known given state gs ending
  refused-by leaves_out out (SameNode place) why ending ends =
      subst (IsNoRecovery nodes known given state gs) (sym (ends ∙ ap (λ (n : ℕ). endings.StoresDisagree (n + 1)) (placed place why.to))) (session, is, inl (place, refl, inl why))
  refused-by leaves_out out NotLater why ending ends = absurd (why.1 later)
  refused-by leaves_out out (Disagrees place) why ending ends =
      subst (IsNoRecovery nodes known given state gs) (sym (ends ∙ ap (λ (n : ℕ). endings.StoresDisagree (n + 1)) (placed place why.2.to))) (session, is, inl (place, refl, inr why))
  refused-by leaves_out out BadNodes why ending ends = subst (IsNoRecovery nodes known given state gs) (sym ends) (session, is, why)
  refused-by leaves_out out (BadRow row) why ending ends = by-row leaves_out out row why ending ends
  refused-by leaves_out out NoMemory why ending ends = subst (IsNoRecovery nodes known given state gs) (sym ends) tt
