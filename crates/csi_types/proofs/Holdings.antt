-- Which two holdings can be held together, by the test.
use Rattle.std.proofs.Common.{◌≡◌, ◌↔◌, Bool, true, false, cond, not, ◌&&◌, refl, sym, ◌∙◌, ap, inl, inr}
use Rattle.std.specs.Prelude.{IsTrue}
use Rattle.std.proofs.lemmas.Bool.{and_parts, and_from, false≢true}
use Rattle.csi_types.specs.declared.holding.Holding.{Holding}
use Rattle.csi_types.specs.Public.Holding.{CanHoldBoth}
use Rattle.csi_types.specs.Model.Holding.{is_second_writer, same_holding, is_compatible}
use Rattle.csi_types.specs.Model.Same.{same_text}
use Rattle.csi_types.specs.Model.Sharing.{is_multi_node}
use Rattle.csi_types.proofs.Equality.{same_text-tells, same_holding-tells}

-- the test holds of exactly the pairs of holdings that can be held together
pub compatible-tells : (a b : Holding) → IsTrue (is_compatible a b) ↔ CanHoldBoth a b
compatible-tells a b = by (same_text a.node b.node) refl
  where
    by : (t : Bool) → same_text a.node b.node ≡ t → IsTrue (cond t (same_holding a b) (is_multi_node a.capability.mode && is_multi_node b.capability.mode && not (is_second_writer a b))) ↔ CanHoldBoth a b
    by true e = (λ h. inl ((same_holding-tells a b).0 h), from)
      where
        from : CanHoldBoth a b → IsTrue (same_holding a b)
        from (inl same) = (same_holding-tells a b).1 same
        from (inr two) = absurd (two.apart ((same_text-tells a.node b.node).0 e))
    by false e = (to, from)
      where
        to : IsTrue (is_multi_node a.capability.mode && is_multi_node b.capability.mode && not (is_second_writer a b)) → CanHoldBoth a b
        to h =
            let last = and_parts (is_multi_node a.capability.mode && is_multi_node b.capability.mode) (not (is_second_writer a b)) h in
            let modes = and_parts (is_multi_node a.capability.mode) (is_multi_node b.capability.mode) last.0 in
            inr (record { apart = λ same. false≢true (sym e ∙ (same_text-tells a.node b.node).1 same); first_shared = modes.0; second_shared = modes.1; no_second_writer = last.1 })

        from : CanHoldBoth a b → IsTrue (is_multi_node a.capability.mode && is_multi_node b.capability.mode && not (is_second_writer a b))
        from (inl same) = absurd (false≢true (sym e ∙ (same_text-tells a.node b.node).1 (ap (λ (h : Holding). h.node) same)))
        from (inr two) =
            and_from (is_multi_node a.capability.mode && is_multi_node b.capability.mode) (not (is_second_writer a b))
            (and_from (is_multi_node a.capability.mode) (is_multi_node b.capability.mode) two.first_shared two.second_shared) two.no_second_writer
