-- Which holdings of a volume can be held together: CSI's spec.md, "ControllerPublishVolume" (a volume
-- published at several nodes, and the access modes that allow it).
use Rattle.std.specs.Prelude.{◌≡◌, ◌≢◌, ◌⊎◌, not, IsTrue}
use Rattle.csi_types.specs.declared.holding.Holding.{Holding}
use Rattle.csi_types.specs.Model.Sharing.{is_multi_node}
use Rattle.csi_types.specs.Model.Holding.{is_second_writer}

-- two holdings at different nodes, each in a mode for several nodes, and no second writer
pub record AreShared (a b : Holding) : Type 0 where
  pub apart : a.node ≢ b.node
  pub first_shared : IsTrue (is_multi_node a.capability.mode)
  pub second_shared : IsTrue (is_multi_node b.capability.mode)
  pub no_second_writer : IsTrue (not (is_second_writer a b))

-- the two are one holding, or are shared
abbrev pub CanHoldBoth : Holding → Holding → Type 0
CanHoldBoth a b = (a ≡ b) ⊎ AreShared a b
