-- Two holdings at different nodes that the table's test lets be held together are apart.
use Rattle.std.proofs.Common.{◌≡◌, ◌≢◌, ◌⊎◌, ℕ, List, Bool, true, false, cond, not, sym, ◌∙◌, subst, inl, inr}
use Rattle.std.specs.Prelude.{◌&&◌, ◌||◌, IsTrue}
use Rattle.std.proofs.lemmas.Bool.{and_parts, not-true, true≢false}
use Rattle.csi_types.proofs.Equality.{same_text-tells}
use Rattle.csi_types.specs.declared.holding.Holding.{Holding}
use Rattle.csi_types.specs.Model.Holding.{same_holding, is_compatible, is_second_writer, AreApart}
use Rattle.csi_types.specs.Model.Same.{same_text}
use Rattle.csi_types.specs.Model.Sharing.{is_single_node, is_multi_node, is_single_writer, writes}
use Rattle.csi_controller.proofs.SameText.{text-turned}

-- texts that the test tells apart differ
other_node : (a b : List ℕ) → same_text a b ≡ false → a ≢ b
other_node a b differ e = true≢false (sym ((same_text-tells a b).1 e) ∙ differ)

-- where the test of two holdings passes, and one of them is in a mode of a single writer, they don't both write
one_writer-from : (wa wb sa sb : Bool) → not (wb && wa && (sb || sa)) ≡ true → IsTrue sa ⊎ IsTrue sb → IsTrue wa → IsTrue wb → ⊥
one_writer-from true true true true h s a b = cc
one_writer-from true true true false h s a b = cc
one_writer-from true true false true h s a b = cc
one_writer-from true true false false h (inl e) a b = cc
one_writer-from true true false false h (inr e) a b = cc
one_writer-from true false sa sb h s a b = cc
one_writer-from false wb sa sb h s a b = cc

-- a holding at another node that can be held with the new one is apart from it
pub apart : (new old : Holding) → same_text old.node new.node ≡ false → is_compatible new old ≡ true → AreApart old new
apart new old nodes can =
    let away : same_text new.node old.node ≡ false = text-turned new.node old.node ∙ nodes in
    let parted : (is_multi_node new.capability.mode && is_multi_node old.capability.mode && not (is_second_writer new old)) ≡ true = shared away can in
    let writers = and_parts (is_multi_node new.capability.mode && is_multi_node old.capability.mode) (not (is_second_writer new old)) parted in
    let modes = and_parts (is_multi_node new.capability.mode) (is_multi_node old.capability.mode) writers.0 in
    record {
      nodes = other_node old.node new.node nodes;
      first_shared = not-true (is_single_node old.capability.mode) modes.1;
      second_shared = not-true (is_single_node new.capability.mode) modes.0;
      one_writer = one_writer-from (writes old.capability.mode old.readonly) (writes new.capability.mode new.readonly) (is_single_writer old.capability.mode) (is_single_writer new.capability.mode) writers.1;
    }
  where
    shared : same_text new.node old.node ≡ false → is_compatible new old ≡ true → (is_multi_node new.capability.mode && is_multi_node old.capability.mode && not (is_second_writer new old)) ≡ true
    shared away can = subst (λ (b : Bool). cond b (same_holding new old) (is_multi_node new.capability.mode && is_multi_node old.capability.mode && not (is_second_writer new old)) ≡ true) away can
