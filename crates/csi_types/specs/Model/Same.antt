-- Tests of equality that compute, for what the tables compare. This profile's own.
use Rattle.std.specs.Prelude.{ℕ, List, Bool, true, false, ◌==◌, ◌&&◌}
use Rattle.std.specs.List.{list_any}
use Rattle.std.specs.Cmp.Lexicographic.{pointwise}
use Rattle.csi_types.specs.declared.capability.Access.{Access}
use Rattle.csi_types.specs.declared.capability.Access.TheVariants.{Block, Mount}
use Rattle.csi_types.specs.declared.capability.Capability.{Capability}
use Rattle.csi_types.specs.declared.number.Number.{Number}
use Rattle.csi_types.specs.declared.call.Kind.{Kind}
use Rattle.csi_types.specs.declared.call.Kind.TheVariants as kinds
use Rattle.csi_types.specs.declared.call.Party.{Party}
use Rattle.csi_types.specs.declared.call.Party.TheVariants.{Controller, Node}
use Rattle.csi_types.specs.Model.Mode.{mode_number}

-- the texts have the same bytes
abbrev pub same_text : List ℕ → List ℕ → Bool
same_text a b = pointwise (λ x y. x == y) a b

-- both flags are set, or neither is
abbrev pub same_flag : Bool → Bool → Bool
same_flag true b = b
same_flag false true = false
same_flag false false = true

-- both are block, or both mount the same fs type
abbrev pub same_access : Access → Access → Bool
same_access Block Block = true
same_access Block (Mount fs_type) = false
same_access (Mount fs_type) Block = false
same_access (Mount fs_type) (Mount other) = same_text fs_type other

-- the same access and mode
abbrev pub same_capability : Capability → Capability → Bool
same_capability a b = same_access a.access b.access && (mode_number a.mode == mode_number b.mode)

-- the capability is one of the list
abbrev pub has_capability : List Capability → Capability → Bool
has_capability capabilities capability = list_any (same_capability capability) capabilities

-- the same session and call
abbrev pub same_number : Number → Number → Bool
same_number a b = (a.session == b.session) && (a.call == b.call)

-- the place of a kind among the eight, from 1: the number that its frames have
abbrev pub kind_number : Kind → ℕ
kind_number kinds.CreateVolume = 1
kind_number kinds.DeleteVolume = 2
kind_number kinds.ControllerPublishVolume = 3
kind_number kinds.ControllerUnpublishVolume = 4
kind_number kinds.NodeStageVolume = 5
kind_number kinds.NodeUnstageVolume = 6
kind_number kinds.NodePublishVolume = 7
kind_number kinds.NodeUnpublishVolume = 8

-- the same kind
abbrev pub same_kind : Kind → Kind → Bool
same_kind a b = kind_number a == kind_number b

-- the same plugin
abbrev pub same_party : Party → Party → Bool
same_party Controller Controller = true
same_party Controller (Node id) = false
same_party (Node id) Controller = false
same_party (Node id) (Node other) = same_text id other
