-- Which holdings of a volume can be held together: CSI's spec.md, "ControllerPublishVolume" (a volume
-- published at several nodes, and the access modes that allow it).
use Rattle.std.specs.Prelude.{◌≡◌, ◌≢◌, ◌⊎◌, Bool, false, not, ◌==◌, ◌&&◌, if◌then◌else◌, IsTrue}
use Rattle.csi_types.specs.declared.holding.Holding.{Holding}
use Rattle.csi_types.specs.Model.Same.{same_text, same_flag, same_capability}
use Rattle.csi_types.specs.Model.Sharing.{is_single_node, is_multi_node, is_single_writer, writes, are_two_writers}

-- both write, and one of the two modes has a single writer
abbrev pub is_second_writer : Holding → Holding → Bool
is_second_writer a b = are_two_writers a.capability.mode a.readonly b.capability.mode b.readonly

-- the two are one holding
abbrev pub same_holding : Holding → Holding → Bool
same_holding a b =
    (a.volume == b.volume) && same_text a.node b.node && same_capability a.capability b.capability && same_flag a.readonly b.readonly

-- the test of `CanHoldBoth`, which the tables ask
abbrev pub is_compatible : Holding → Holding → Bool
is_compatible a b =
    if same_text a.node b.node then same_holding a b
    else is_multi_node a.capability.mode && is_multi_node b.capability.mode && not (is_second_writer a b)

-- Two holdings that the laws of safety allow of one volume, in words of their own and not by the test above: different
-- nodes, neither in a mode for one node, and two writers only where neither mode has a single one.
pub record AreApart (a b : Holding) : Type 0 where
  pub nodes : a.node ≢ b.node
  pub first_shared : is_single_node a.capability.mode ≡ false
  pub second_shared : is_single_node b.capability.mode ≡ false
  pub one_writer : IsTrue (is_single_writer a.capability.mode) ⊎ IsTrue (is_single_writer b.capability.mode)
      → IsTrue (writes a.capability.mode a.readonly) → IsTrue (writes b.capability.mode b.readonly) → ⊥
